use Rattle.std.proofs.Common.{◌%◌, ◌∙◌, map, bit_and, arith}
use Rattle.std.proofs.lemmas.Nat.{and_mask}
use Rattle.std.proofs.lemmas.Simd.{zip2_splat}
use Rattle.hex.specs.Hex.{lower_digits}
use Rattle.token_core.proofs.Hexadecimal.{low_ok, looked_up}
use Rattle.token_core.proofs.digits.second_digits.Goals as goal

pub swizzle : goal.swizzle
swizzle c = low_ok c.args.bytes c.fits-bytes

pub returns : goal.returns
returns c =
    let v = c.args.bytes in
    looked_up lower_digits (λ x. x % 16) v _ c.fits-bytes
    (zip2_splat bit_and v 16 15 c.fits-bytes.0 ∙ λ i. map (λ x. and_mask x 4 i) v)
    (λ x h. omega arith)
