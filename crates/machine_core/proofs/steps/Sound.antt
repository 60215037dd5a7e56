-- What holds of every value in progress.
use Rattle.std.proofs.Common.{◌≡◌, ℕ, List, subst}
use Rattle.value_core.specs.Begun.{IsBegun}
use Rattle.value_core.specs.Built.{Built}
use Rattle.machine_core.specs.Running.{Running, IsRunning}
use Rattle.machine_core.specs.Turned.{IsSound}

-- what its fields say of a decoder in progress makes it sound, if a begun tree is built
pub sound_of : (b : Built) (carry : List ℕ) (s : Running) →
    record { built = b; carry = carry } ≡ s → IsBegun b → IsRunning b carry → IsSound s
sound_of b carry s is begun run =
    subst IsSound is (record {
      begun = begun;
      frames = run.deep;
      carried = run.carried;
      run_next =
          run.run_next;
    })
