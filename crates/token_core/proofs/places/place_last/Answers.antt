use Rattle.std.proofs.Common.{◌≡◌, ◌+◌, ◌-◌, ℕ, ◌++◌, take, drop, arith, subst, sym, ◌∙◌}
use Rattle.std.proofs.Common.{ap, slice_index_or, slice_set}
use Rattle.std.specs.Fmt.{decimal}
use Rattle.json.specs.Filled.{Placed}
use Rattle.token_core.specs.Digits.{last_digits}
use Rattle.token_core.proofs.Decimal.{sixteen_long}
use Rattle.token_core.proofs.Placing.{last_placed}
use Rattle.token_core.proofs.places.place_last.Goals as goal

pub write_digits-requires : goal.write_digits-requires
write_digits-requires c =
    (omega (arith, sixteen_long c.args.low c.requires.low, c.requires.after), c.requires.room)

pub returns : goal.returns
returns c =
    let old = c.args.buffer.now in
    let mid = c.write_digits.new.buf in
    let ds = decimal (10000000000000000 + c.args.low) in
    let long = sixteen_long c.args.low c.requires.low in
    let at = c.args.at - 1 in
    let after : at + 1 ≡ c.args.at = omega (arith, c.requires.after) in
    let start : c.write_digits.result ≡ at =
    omega (arith, c.write_digits.ensures.start, long, c.requires.after) in
    let end : c.args.at + 16 ≡ at + 1 + 16 = omega (arith, c.requires.after) in
    let written : drop at mid ≡ ds ++ drop (at + 1 + 16) old =
    ap (λ (i : ℕ). drop i mid) (sym start) ∙ c.write_digits.ensures.written
    ∙ ap (λ (i : ℕ). ds ++ drop i old) end in
    let before : take at mid ≡ take at old =
    subst (λ (i : ℕ). take i mid ≡ take i old) start c.write_digits.ensures.before in
    subst (λ (i : ℕ). Placed old (slice_set mid at (slice_index_or old at 0)) i
    (last_digits 10000000000000000 c.args.low) (i + 16)) after
    (last_placed old mid ds at 16 (omega (arith, c.requires.room, c.requires.after)) long
    (omega (arith, c.requires.room, c.requires.after)) written before)
