use Rattle.node_core.proofs.Below.{text_at}
use Rattle.node_core.proofs.node_ref.NodeRef.text.Goals as goal

pub from_utf8_unchecked-requires : goal.from_utf8_unchecked-requires
from_utf8_unchecked-requires c =
    text_at _ _ c.self.inside.nodes.now _ c.in-Text.start c.in-Text.len c.self.invariant
    c.in-Text.is
