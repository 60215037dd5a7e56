use Rattle.machine_core.proofs.steps.FormSplits.{split_bare}
use Rattle.machine_core.proofs.partial.Partial.form_turn.Goals as goal

pub bare_turn-requires : goal.bare_turn-requires
bare_turn-requires g c = record {
  bare = split_bare c.args.form c.in_default.ensures.none c.in_default-form.not-ByteArray;
  next = c.requires.next;
  closed = c.requires.closed;
}

pub returns-in_default-form : goal.returns-in_default-form
returns-in_default-form g c = record {
  reports = c.bare_turn.ensures.reports c.args.piece.now;
  kept = c.bare_turn.ensures.kept;
}
