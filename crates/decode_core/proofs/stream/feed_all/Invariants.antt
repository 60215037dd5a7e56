use Rattle.std.proofs.Common.{◌≡◌, ℕ, ◌-◌, List}
use Rattle.std.specs.Io.KnownBytes.{Consumes}
use Rattle.decode_core.specs.Streaming.{ReadsGive, IsUnderWay}
use Rattle.decode_core.proofs.stream.feed_all.Given as goal

abbrev pub invariant-pieces : goal.invariant-pieces
invariant-pieces g l = record {
  so_far : (b : List ℕ) × IsUnderWay l.decoder b
      × Consumes (g.R.Read.remaining l.fn.source.device) (g.R.Read.remaining l.source.device) b
      × ((k : ℕ) × ReadsGive g.R.ReadOnce.reads l.fn.source.device k b l.source.device);
  query : l.decoder.query ≡ l.fn.decoder.query;
  quiet : l.source.failed ≡ l.fn.source.failed;
}

abbrev pub decreases-pieces : goal.decreases-pieces
decreases-pieces g l = l.fn.decoder.query.bytes - l.decoder.taken
