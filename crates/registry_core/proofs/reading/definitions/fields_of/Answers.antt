use Rattle.std.proofs.Common.{◌∷◌, [], ◌+◌, ap, ◌∙◌}
use Rattle.std.proofs.lemmas.List.{length-append}
use Rattle.std.proofs.lemmas.Result.{err_from_is_err_and}
use Rattle.registry_core.specs.Reading.{repeated, field_at, fields_at}
use Rattle.registry_core.proofs.Loops.{goes_on, ends}
use Rattle.registry_core.proofs.reading.definitions.fields_of.Goals as goal

pub returns-in_err-field : goal.returns-in_err-field
unfolding fields_at
returns-in_err-field c =
    let p = err_from_is_err_and c.from_residual-in_err-field.result
    c.from_residual-in_err-field.ensures.1 in
    rw (p.1, p.2, c.in_ok-count.ensures)
    (ends field_at c.in_err-field.field-0.0 c.fields.fields.items c.in_ok-count.count
    c.fields.counter c.fields.rest.now
    (repeated c.in_ok-count.count field_at c.in_ok-count.rest.now) c.fields-test.true
    c.in_err-field.ensures c.fields.invariant.0)

pub fields-preserved : goal.fields-preserved
fields-preserved c =
    let new = c.in_ok-append.ensures.items in (
      rw new (goes_on field_at c.fields.fields.items c.in_ok-count.count c.fields.counter
          c.fields.rest.now c.in_ok-field.field c.in_ok-field.after.now
          (repeated c.in_ok-count.count field_at c.in_ok-count.rest.now) c.fields-test.true
          c.in_ok-field.ensures c.fields.invariant.0),
      rw new (length-append c.fields.fields.items (c.in_ok-field.field ∷ [])
          ∙ ap (λ k. k + 1) c.fields.invariant.1),
    )
