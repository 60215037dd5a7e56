use Rattle.std.proofs.Common.{List, sym, ◌∙◌}
use Rattle.std.proofs.lemmas.Iterator.Adapters.{option_map_id}
use Rattle.std.proofs.lemmas.Iterator.Consumers.{nth_from_yields_List, YieldsList-from_first}
use Rattle.node_core.specs.Shown.{Seen, children_of}
use Rattle.chain_core.proofs.parts.child.Goals as goal

pub returns : goal.returns
returns c = sym (option_map_id c.nth.result)
    ∙ nth_from_yields_List c.nth.result c.nth.new.self c.args.position c.nth.ensures.ran
    (YieldsList-from_first (λ (s : Seen). s) (λ (l : List Seen). l) (children_of c.args.node.now)
    c.children.ensures)
