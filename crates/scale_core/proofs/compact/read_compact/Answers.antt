use Rattle.std.proofs.Common.{rules, refl, arith, sym, ap, ℕ, Ok, drop, ◌∙◌, ◌≡◌, ◌/◌, [], false}
use Rattle.std.specs.Int.{w16, w32}
use Rattle.std.specs.Prelude.{◌≢◌}
use Rattle.std.proofs.lemmas.Result.{err_from_is_err_and}
use Rattle.scale_core.specs.contracts.compact.Target.{the_type}
use Rattle.scale_core.specs.declared.compact.Target.{Target}
use Rattle.scale_core.specs.declared.compact.Target.TheVariants.{Unit as TUnit}
use denote.Enum.Bare.{same_true, sameb}
use Rattle.scale_core.proofs.ReadModes.{compact_at-unit, compact_at-integer, integer_at-empty}
use Rattle.scale_core.proofs.ReadModes.{integer_at-cut, integer_at-one, judged_answers}
use Rattle.scale_core.proofs.ReadModes.{front_is, are_bytes, short_value}
use Rattle.scale_core.proofs.ReadModes.{two_shortest, four_shortest}
use Rattle.scale_core.proofs.compact.read_compact.Goals as goal

-- a target that the test reports from the one without bytes is another
is_other : (m : Target) → false ≡ sameb the_type m TUnit → m ≢ TUnit
is_other m e k = let h = rw k at e in absurd cc

pub returns-then-eq-clause-reads : goal.returns-then-eq-clause-reads
returns-then-eq-clause-reads c = (
  omega arith,
  compact_at-unit c.args.target c.args.bytes.now
      (same_true the_type (search rules) _ _ (sym c.if-eq.ensures)),
)

pub returns-in_err-first-clause-reads : goal.returns-in_err-first-clause-reads
returns-in_err-first-clause-reads c =
    let p = err_from_is_err_and c.from_residual.result c.from_residual.ensures.1 in
    let none = compact_at-integer c.args.target c.args.bytes.now (is_other _ c.if-eq.ensures)
    ∙ integer_at-empty c.args.target c.args.bytes.now (omega (arith, c.in_err-first.ensures)) in
    rw (p.1, p.2, c.in_err-first.ensures.1) ([], none, omega arith)

pub returns-in-0-clause-reads : goal.returns-in-0-clause-reads
returns-in-0-clause-reads c =
    let front = c.in_ok-first.ensures in
    let is = front_is c.args.bytes.now c.in_ok-first.field-0 front.0 front.1 in
    let are = are_bytes c.args.bytes.now (λ i. omega (arith, c.type_inv.bytes i)) in
    let other = is_other _ c.if-eq.ensures in
    let byte = rw is at are in (
      front.0,
      compact_at-integer c.args.target c.args.bytes.now other
          ∙ integer_at-one c.args.target c.args.bytes.now _ other are is c.in-0.is byte.0
          ∙ ap (λ (n : ℕ). Ok (n, drop 1 c.args.bytes.now)) (sym c.from.ensures),
    )

pub returns-in_err-front-in-1-clause-reads : goal.returns-in_err-front-in-1-clause-reads
returns-in_err-front-in-1-clause-reads c =
    let front = c.in_ok-first.ensures in
    let is = front_is c.args.bytes.now c.in_ok-first.field-0 front.0 front.1 in
    let p = err_from_is_err_and c.from_residual-in_err-front-in-1.result
    c.from_residual-in_err-front-in-1.ensures.1 in
    let cut = compact_at-integer c.args.target c.args.bytes.now (is_other _ c.if-eq.ensures)
    ∙ integer_at-cut c.args.target c.args.bytes.now _ is (rw c.in-1.is refl)
    (rw c.in-1.is c.in_err-front-in-1.ensures.0) in
    rw (p.1, p.2, c.in_err-front-in-1.ensures.1) ([], cut, omega arith)

pub judge-requires : goal.judge-requires
judge-requires c = record {
  shortest = rw c.from-in-1.ensures
      (two_shortest (c.from_le_bytes-number.result / 4) (omega arith));
}

pub returns-in_ok-front-in-1-clause-reads : goal.returns-in_ok-front-in-1-clause-reads
returns-in_ok-front-in-1-clause-reads c =
    let front = c.in_ok-first.ensures in
    let is = front_is c.args.bytes.now c.in_ok-first.field-0 front.0 front.1 in
    let there = c.in_ok-front-in-1.ensures in
    let value = c.from-in-1.ensures
    ∙ short_value w16 c.args.bytes.now _ _ 1 _ refl there.0 there.1 is
    (omega (arith, c.in-1.is)) c.from_le_bytes-number.ensures in
    rw (compact_at-integer c.args.target c.args.bytes.now (is_other _ c.if-eq.ensures))
    (judged_answers c.args.target c.args.bytes.now _ c.from-in-1.result 2
    (are_bytes c.args.bytes.now (λ i. omega (arith, c.type_inv.bytes i))) is
    (rw c.in-1.is refl) (rw c.in-1.is refl) there.0 value (omega arith)
    c.judge.result c.judge.ensures.exact)

pub returns-in_err-front-in-2-clause-reads : goal.returns-in_err-front-in-2-clause-reads
returns-in_err-front-in-2-clause-reads c =
    let front = c.in_ok-first.ensures in
    let is = front_is c.args.bytes.now c.in_ok-first.field-0 front.0 front.1 in
    let p = err_from_is_err_and c.from_residual-in_err-front-in-2.result
    c.from_residual-in_err-front-in-2.ensures.1 in
    let cut = compact_at-integer c.args.target c.args.bytes.now (is_other _ c.if-eq.ensures)
    ∙ integer_at-cut c.args.target c.args.bytes.now _ is (rw c.in-2.is refl)
    (rw c.in-2.is c.in_err-front-in-2.ensures.0) in
    rw (p.1, p.2, c.in_err-front-in-2.ensures.1) ([], cut, omega arith)

pub judge-requires-in-2 : goal.judge-requires-in-2
judge-requires-in-2 c = record {
  shortest = rw c.from-in-2.ensures
      (four_shortest (c.from_le_bytes-number-in-2.result / 4) (omega arith));
}

pub returns-in_ok-front-in-2-clause-reads : goal.returns-in_ok-front-in-2-clause-reads
returns-in_ok-front-in-2-clause-reads c =
    let front = c.in_ok-first.ensures in
    let is = front_is c.args.bytes.now c.in_ok-first.field-0 front.0 front.1 in
    let there = c.in_ok-front-in-2.ensures in
    let value = c.from-in-2.ensures
    ∙ short_value w32 c.args.bytes.now _ _ 3 _ refl there.0 there.1 is
    (omega (arith, c.in-2.is)) c.from_le_bytes-number-in-2.ensures in
    rw (compact_at-integer c.args.target c.args.bytes.now (is_other _ c.if-eq.ensures))
    (judged_answers c.args.target c.args.bytes.now _ c.from-in-2.result 4
    (are_bytes c.args.bytes.now (λ i. omega (arith, c.type_inv.bytes i))) is
    (rw c.in-2.is refl) (rw c.in-2.is refl) there.0 value (omega arith)
    c.judge-in-2.result c.judge-in-2.ensures.exact)

pub returns-in_default-clause-reads : goal.returns-in_default-clause-reads
returns-in_default-clause-reads c =
    rw (compact_at-integer c.args.target c.args.bytes.now (is_other _ c.if-eq.ensures))
    c.read_long.ensures.reads
