use Rattle.std.proofs.Common.{ap, ◌∙◌, arith}
use Rattle.grammar_core.specs.Spelled.{index_byte}
use Rattle.node_core.proofs.SpelledNodes.{one_front}
use Rattle.node_core.proofs.writing.put_index.Goals as goal

pub returns-in-Some-clause-bytes : goal.returns-in-Some-clause-bytes
returns-in-Some-clause-bytes c = one_front c.args.out.now c.in-Some.index (omega arith)
    ∙ ap index_byte c.in-Some.ensures
