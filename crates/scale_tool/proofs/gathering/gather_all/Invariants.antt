use Rattle.std.proofs.Common.{◌≡◌, ◌-◌, ◌≤◌, ◌^◌, ℕ, List, vec_len}
use Rattle.decode_core.specs.Streaming.{ReadsGive}
use Rattle.scale_tool.specs.Moved.{LeavesReader}
use Rattle.scale_tool.proofs.gathering.gather_all.Given as goal

abbrev pub invariant-pieces : goal.invariant-pieces
invariant-pieces g l = record {
  grown : vec_len l.fn.out ≤ vec_len l.out;
  taken : LeavesReader (g.R.Read.remaining l.fn.source.device) (g.R.Read.remaining l.source.device)
      l.fn.out.items l.out.items (vec_len l.out - vec_len l.fn.out);
  given : (b : List ℕ) × (k : ℕ)
      × ReadsGive g.R.ReadOnce.reads l.fn.source.device k b l.source.device;
  quiet : l.source.failed ≡ l.fn.source.failed;
}

abbrev pub decreases-pieces : goal.decreases-pieces
decreases-pieces g l = 2 ^ 64 - vec_len l.out
