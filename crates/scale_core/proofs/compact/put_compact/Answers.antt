use Rattle.std.proofs.Common.{◌+◌, ◌*◌, ◌≡◌, ◌∷◌, [], ◌++◌, List, ℕ, drop, refl, sym, ap, ◌∙◌}
use Rattle.std.proofs.Common.{arith}
use Rattle.scale_core.specs.Compact.{compact}
use Rattle.scale_core.specs.Number.{le_bytes}
use Rattle.scale_core.proofs.Fronts.{set-front, to_le_bytes_2, to_le_bytes_4}
use Rattle.scale_core.proofs.Modes.{compact-one, compact-two, compact-four, length-compact-one}
use Rattle.scale_core.proofs.Modes.{length-compact-two, length-compact-four}
use Rattle.scale_core.proofs.compact.put_compact.Goals as goal

pub returns-in-0-to-63-clause-len : goal.returns-in-0-to-63-clause-len
returns-in-0-to-63-clause-len c = sym (length-compact-one c.args.value (omega arith))

pub returns-in-0-to-63-clause-bytes : goal.returns-in-0-to-63-clause-bytes
returns-in-0-to-63-clause-bytes c =
    let four : 4 * c.args.value ≡ c.args.value * 4 = omega arith in
    set-front c.args.out.now (compact c.args.value) (c.args.value * 4) 1 (omega arith)
    (compact-one c.args.value (omega arith) ∙ ap (λ (x : ℕ). x ∷ []) four) refl

pub returns-in-64-to-16383-clause-len : goal.returns-in-64-to-16383-clause-len
returns-in-64-to-16383-clause-len c =
    sym (length-compact-two c.args.value (omega arith) (omega arith))

pub returns-in-64-to-16383-clause-bytes : goal.returns-in-64-to-16383-clause-bytes
returns-in-64-to-16383-clause-bytes c =
    let four : c.args.value * 4 + 1 ≡ 4 * c.args.value + 1 = omega arith in
    let put : c.copy_from_slice.new.self ≡ compact c.args.value =
    c.copy_from_slice.ensures.after ∙ c.to_le_bytes.ensures ∙ to_le_bytes_2 (c.args.value * 4 + 1)
    ∙ ap (le_bytes 2) four ∙ sym (compact-two c.args.value (omega arith) (omega arith)) in
    ap (λ (xs : List ℕ). xs ++ drop 2 c.args.out.now) put

pub returns-in-16384-to-1073741823-clause-len : goal.returns-in-16384-to-1073741823-clause-len
returns-in-16384-to-1073741823-clause-len c =
    sym (length-compact-four c.args.value (omega arith) (omega arith))

pub returns-in-16384-to-1073741823-clause-bytes : goal.returns-in-16384-to-1073741823-clause-bytes
returns-in-16384-to-1073741823-clause-bytes c =
    let four : c.args.value * 4 + 2 ≡ 4 * c.args.value + 2 = omega arith in
    let put : c.copy_from_slice-in-16384-to-1073741823.new.self ≡ compact c.args.value =
    c.copy_from_slice-in-16384-to-1073741823.ensures.after
    ∙ c.to_le_bytes-in-16384-to-1073741823.ensures ∙ to_le_bytes_4 (c.args.value * 4 + 2)
    ∙ ap (le_bytes 4) four ∙ sym (compact-four c.args.value (omega arith) (omega arith)) in
    ap (λ (xs : List ℕ). xs ++ drop 4 c.args.out.now) put
