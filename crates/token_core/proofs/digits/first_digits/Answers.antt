use Rattle.std.proofs.Common.{◌/◌, arith}
use Rattle.std.proofs.lemmas.Simd.{zip2_splat}
use Rattle.hex.specs.Hex.{lower_digits}
use Rattle.token_core.proofs.Hexadecimal.{down, high_ok, looked_up}
use Rattle.token_core.proofs.digits.first_digits.Goals as goal

pub swizzle : goal.swizzle
swizzle c = high_ok c.args.bytes c.fits-bytes

pub returns : goal.returns
returns c =
    let v = c.args.bytes in
    looked_up lower_digits (λ x. x / 16) v _ c.fits-bytes (zip2_splat down v 16 4 c.fits-bytes.0)
    (λ x h. omega arith)
