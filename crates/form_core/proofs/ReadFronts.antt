-- What a reader's answer says of what is read.
use Rattle.std.proofs.Common.{◌≡◌, ℕ, ◌≤◌, ℤ, List, length, drop, Ok, ◌∙◌, to_z, of_z}
use Rattle.std.specs.Int.{Width, w128}
use Rattle.std.specs.Prelude.{FitsSigned}
use Rattle.std.proofs.lemmas.Int.{to_z-of_z}
use Rattle.scale_core.specs.Read.{Read}
use Rattle.scale_core.specs.declared.fault.Reason.{Reason}

-- a reader's answer and count of bytes say that this was read on the front, and what is left
pub read_is : {X : Type 0} (own : List ℕ) (k : ℕ) (x : X) (read : Read Reason X) → (k ≤ length own)
    × (read ≡ Ok (x, drop k own)) → (rest : List ℕ) × (read ≡ Ok (x, rest))
read_is own k x read h = (drop k own, h.1)

-- an integer that is widened is the same
pub widened_is : (w : Width) (own : List ℕ) (k : ℕ) (z wide : ℤ) (read : Read Reason ℤ) →
    FitsSigned w z → FitsSigned w128 wide → wide ≡ to_z w (of_z w z) → (k ≤ length own)
    × (read ≡ Ok (z, drop k own)) → (rest : List ℕ) × (read ≡ Ok (to_z w128 (of_z w128 wide), rest))
widened_is w own k z wide read h f e k' =
    let same : to_z w128 (of_z w128 wide) ≡ z = to_z-of_z w128 wide f ∙ e ∙ to_z-of_z w z h in
    (drop k own, rw same k'.1)

-- a signed integer that was read comes out as it was where it is kept in 128 bits
pub same_is : (own : List ℕ) (k : ℕ) (z : ℤ) (read : Read Reason ℤ) → FitsSigned w128 z →
    (k ≤ length own) × (read ≡ Ok (z, drop k own)) → (rest : List ℕ)
    × (read ≡ Ok (to_z w128 (of_z w128 z), rest))
same_is own k z read h k' = (drop k own, rw (to_z-of_z w128 z h) k'.1)
