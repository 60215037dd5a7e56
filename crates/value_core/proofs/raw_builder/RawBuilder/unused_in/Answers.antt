use Rattle.std.proofs.Common.{◌≡◌, ◌<◌, IfSome, List, None, Option, Some, length, sym, ℕ}
use Rattle.types_core.specs.Bits.{first_unused}
use Rattle.types_core.specs.declared.bits.BitForm.{BitForm}
use Rattle.types_core.proofs.BitWords.{unused_within}
use Rattle.value_core.proofs.raw_builder.RawBuilder.unused_in.Goals as goal

-- a byte that is found is one of the bytes
found_within : (f : BitForm) (n place : ℕ) (xs : List ℕ) (o : Option ℕ) →
    o ≡ first_unused f n place xs → IfSome o (λ i. i < length xs)
found_within f n place xs (Some i) e = unused_within f n place xs i (sym e)
found_within f n place xs None e = tt

pub returns-in-Bits-clause-within : goal.returns-in-Bits-clause-within
returns-in-Bits-clause-within g c =
    found_within c.in-Bits.form c.in_ok-open.open.len _ c.args.piece.now c.unused_at.result
    c.unused_at.ensures
