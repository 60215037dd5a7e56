use Rattle.std.proofs.Common.{◌≡◌, Ok, arith, refl}
use Rattle.registry_core.specs.Reading.{registry_at}
use Rattle.registry_core.proofs.AsRead.{read_fits}
use Rattle.registry_core.proofs.Registries.{registry_is}
use Rattle.registry_core.proofs.Whole.{read_is_spelled}
use Rattle.registry_core.proofs.reading.registry_of.Goals as goal
use Rattle.scale_core.proofs.ReadModes.{are_bytes}

pub from_types-requires : goal.from_types-requires
unfolding registry_at
from_types-requires c =
    let read : registry_at c.args.bytes.now
    ≡ Ok (c.in_ok-types.types.items, c.in_ok-types.rest.now) =
    rw (c.in_ok-count.ensures, c.in_ok-types.ensures) refl in
    read_fits c.in_ok-types.types.items
    (read_is_spelled registry_is c.args.bytes.now c.in_ok-types.types.items c.in_ok-types.rest.now
    (are_bytes c.args.bytes.now (λ i. omega (arith, c.type_inv.bytes i))) read).0
