-- What is read of a registry, and what follows it.
use Rattle.std.proofs.Common.{◌≡◌, ◌<◌, ◌≤◌, ℕ, List, [], ◌∷◌, length, drop, None, Some, Ok}
use Rattle.std.proofs.Common.{ap, arith, ◌∙◌}
use Rattle.std.proofs.lemmas.List.{length-drop}
use Rattle.scale_core.specs.Read.{Read}
use Rattle.scale_calls.specs.Opened.{alone, end_of}

-- what is followed by bytes does not stand alone
pub not_alone : {E X : Type 0} (x : X) (left : List ℕ) (read : Read E X) → read ≡ Ok (x, left) →
    0 < length left → alone read ≡ None
not_alone x [] read is some = absurd (omega arith)
not_alone x (b ∷ left) read is some = ap alone is

-- what is read with so many bytes ends there
pub ends_at : {E X : Type 0} (input : List ℕ) (x : X) (n : ℕ) (read : Read E X) →
    n ≤ length input → read ≡ Ok (x, drop n input) → end_of input read ≡ Some n
ends_at input x n read within is = ap (end_of input) is
    ∙ ap Some (omega (arith, within, length-drop n input))
