use Rattle.graph_core.proofs.Linked.{ReadsParts}
use Rattle.widths_core.proofs.linking.link_parts.Given as goal

abbrev pub invariant-parts : goal.invariant-parts
invariant-parts l = ReadsParts l.fn.graph l.graph l.counter l._part
