use Rattle.std.proofs.Common.{Ok, refl}
use Rattle.std.proofs.lemmas.Result.{err_from_is_err_and}
use Rattle.types_core.specs.declared.definition.TypeDef.TheVariants as def
use Rattle.registry_core.specs.Reading.{definition_at, type_id_at}
use Rattle.registry_core.proofs.Loops.{stops_then}
use Rattle.registry_core.proofs.reading.definitions.definition_of.Goals as goal

pub returns-in_err-element-in-2 : goal.returns-in_err-element-in-2
unfolding definition_at
returns-in_err-element-in-2 c =
    let p = err_from_is_err_and c.from_residual-in_err-element-in-2.result
    c.from_residual-in_err-element-in-2.ensures.1 in
    rw (p.1, p.2, c.in_ok-kind.ensures, c.in-2.is)
    (stops_then c.in_err-element-in-2.field-0.0 (type_id_at c.in_ok-kind.rest.now)
    (λ element. Ok (def.Sequence element.0, element.1)) c.in_err-element-in-2.ensures)

pub returns-in_ok-element-in-2 : goal.returns-in_ok-element-in-2
unfolding definition_at
returns-in_ok-element-in-2 c =
    rw (c.in_ok-kind.ensures, c.in-2.is, c.in_ok-element-in-2.ensures) refl
