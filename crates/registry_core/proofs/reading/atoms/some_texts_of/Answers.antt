use Rattle.std.proofs.lemmas.Result.{err_from_is_err_and}
use Rattle.registry_core.specs.Reading.{repeated, string_at, texts_at}
use Rattle.registry_core.proofs.Loops.{goes_on, ends}
use Rattle.registry_core.proofs.reading.atoms.some_texts_of.Goals as goal

pub returns-in_err-text : goal.returns-in_err-text
unfolding texts_at
returns-in_err-text c =
    let p = err_from_is_err_and c.from_residual-in_err-text.result
    c.from_residual-in_err-text.ensures.1 in
    rw (p.1, p.2, c.in_ok-count.ensures)
    (ends string_at c.in_err-text.field-0.0 c.texts.texts.items c.in_ok-count.count
    c.texts.counter c.texts.rest.now
    (repeated c.in_ok-count.count string_at c.in_ok-count.rest.now) c.texts-test.true
    c.in_err-text.ensures c.texts.invariant)

pub texts-preserved : goal.texts-preserved
texts-preserved c = rw c.in_ok-append.ensures.items
    (goes_on string_at c.texts.texts.items c.in_ok-count.count c.texts.counter c.texts.rest.now
    c.in_ok-text.text c.in_ok-text.after.now
    (repeated c.in_ok-count.count string_at c.in_ok-count.rest.now) c.texts-test.true
    c.in_ok-text.ensures c.texts.invariant)
