use Rattle.std.proofs.Common.{List, ap, sym, ◌∙◌, option_map}
use Rattle.std.proofs.lemmas.Iterator.Consumers.{nth_from_yields_List, YieldsList-from_first}
use Rattle.node_core.specs.Shown.{Seen, children_of}
use Rattle.json_core.proofs.writing.child_at.Goals as goal

pub returns : goal.returns
returns c =
    let seen = λ (s : Seen). s in
    ap (option_map seen) (sym c.unwrap.ensures)
    ∙ nth_from_yields_List c.nth.result c.nth.new.self c.args.position c.nth.ensures.ran
    (YieldsList-from_first seen (λ (l : List Seen). l) (children_of c.args.node.now)
    c.children.ensures)
