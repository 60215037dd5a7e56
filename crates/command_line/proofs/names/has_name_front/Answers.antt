use Rattle.std.proofs.Common.{◌∙◌, ap, rules, tests, nat_eq, Bor, Bool, List, ℕ}
use Rattle.std.proofs.lemmas.Iterator.{YieldsList-from_slice}
use Rattle.std.proofs.lemmas.Iterator.Search.{any_from_yields_List}
use Rattle.std.specs.List.{list_any, starts_with}
use Rattle.command_line.proofs.names.has_name_front.Goals as goal

pub returns : goal.returns
returns c =
    let test : Bor (List ℕ) → Bool = λ front. starts_with nat_eq c.args.word.now front.now in
    any_from_yields_List test _ _ c.any.result c.any.ensures.ran
    (YieldsList-from_slice c.iter.result.rest.now cc) (λ x b q k. search (rules, tests))
    ∙ ap (list_any test) c.iter.ensures.rest
