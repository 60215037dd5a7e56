use Rattle.std.proofs.Common.{◌≡◌, ◌-◌, ◌≤◌, length, take}
use Rattle.std.specs.Io.KnownBytes.{Appends}
use Rattle.scale_core.proofs.sending.send.Given as goal

abbrev pub invariant-parts : goal.invariant-parts
invariant-parts g l = record {
  inside : l.written ≤ length l.bytes;
  sent : Appends (g.W.Write.contents l.fn.sink.device) (g.W.Write.contents l.sink.device)
      (take l.written l.bytes);
  quiet : l.sink.failed ≡ l.fn.sink.failed;
  none : length l.bytes ≡ 0 → l.sink ≡ l.fn.sink;
}

abbrev pub decreases-parts : goal.decreases-parts
decreases-parts g l = length l.bytes - l.written
