use Rattle.std.proofs.lemmas.Bool.Decides.{Decides-eqb}
use Rattle.std.proofs.lemmas.Slice.Eq.{slice_eq-Decides}
use Rattle.chain_core.proofs.NameTexts.{after_dot, no_dot}
use Rattle.chain_core.proofs.finding.is_dotted.Goals as goal

pub returns-in-Some-after_front : goal.returns-in-Some-after_front
returns-in-Some-after_front c =
    after_dot _ _ _ _ _ _ c.in-Some.ensures c.in-Some-after_front.ensures
    (slice_eq-Decides Decides-eqb c.in-Some-after_front.rest.now c.args.inner.now c.eq.result
    c.eq.ensures)

pub returns-in-None : goal.returns-in-None
returns-in-None c =
    no_dot c.args.text.now c.args.outer.now c.args.inner.now c.in-Some.rest.now c.in-Some.ensures
    c.in-None.ensures
