use Rattle.std.proofs.Common.{◌≡◌, ◌+◌, ◌*◌, ◌≤◌, length, take, flat_map}
use Rattle.std.specs.Io.KnownBytes.{Appends}
use Rattle.node_core.specs.Shown.{all_kept}
use Rattle.node_core.specs.Encoding.{node_bytes}
use Rattle.node_core.proofs.writing.encode.Given as goal

abbrev pub invariant-nodes : goal.invariant-nodes
invariant-nodes g l =
    record {
      sent : Appends (g.W.Write.contents l.fn.sink.device) (g.W.Write.contents l.sink.device)
          (flat_map (node_bytes l.value.types l.pool) (take l.node-index l.nodes));
      written : l.written ≡ length
          (flat_map (node_bytes l.value.types l.pool) (take l.node-index l.nodes));
      few : l.written ≤ 17 * l.node-index + all_kept (take l.node-index l.nodes);
      quiet : l.sink.failed ≡ l.fn.sink.failed;
      none : length (flat_map (node_bytes l.value.types l.pool) (take l.node-index l.nodes)) ≡ 0 →
          l.sink ≡ l.fn.sink;
    }
