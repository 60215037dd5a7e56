-- Which numbers are no characters.
use Rattle.std.proofs.Common.{◌≡◌, ℕ, false, refl, arith, inl, inr}
use Rattle.std.specs.Char.{OutOfScalarRange}
use Rattle.std.proofs.lemmas.Bool.{le-ltb, lt-ltb}
use Rattle.scale_core.specs.Number.{is_scalar}

-- a number out of the range of Unicode's scalar values is no character
pub out_of_range : (c : ℕ) → OutOfScalarRange c → is_scalar c ≡ false
out_of_range c (inl h) = rw (le-ltb c 0xd800 (omega arith), le-ltb 0xdfff c (omega arith)) refl
out_of_range c (inr h) =
    rw (
      le-ltb c 0xd800 (omega arith),
      lt-ltb 0xdfff c (omega arith),
      le-ltb c 0x110000 (omega arith),
    ) refl
