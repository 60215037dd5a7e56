use Rattle.std.proofs.Common.{rules, arith, ap, take, suc, [], ◌++◌, ◌∙◌, length-append, refl}
use Rattle.std.proofs.KnownBytes.{Consumes-nil, Consumes-trans}
use Rattle.std.proofs.lemmas.List.{length-take}
use Rattle.std.proofs.lemmas.Result.{err_from_is_err_and}
use Rattle.outcome_core.specs.Outcome.{Query}
use Rattle.decode_core.specs.Streaming.{FailsAfter, FailsAt}
use Rattle.decode_core.proofs.Streaming.{end_known, ended_known, gives_next, look_feeds, more_by}
use Rattle.decode_core.proofs.Streaming.{stops_open, trails_within, under_way_open}
use Rattle.decode_core.proofs.Streaming.{under_way_by, under_way_ends, whole_by}
use Rattle.decode_core.proofs.stream.feed_all.Goals as goal

pub pieces-init : goal.pieces-init
pieces-init g c = record {
  so_far = (
    [],
    c.requires,
    Consumes-nil (g.R.Read.remaining c.args.source.now.device),
    (0, (refl, refl)),
  );
  query = refl;
  quiet = refl;
}

pub returns-then-count-eq0-clause-answers : goal.returns-then-count-eq0-clause-answers
returns-then-count-eq0-clause-answers g c =
    let so_far = c.pieces.invariant.so_far in
    let read = c.in_ok-count.ensures.bytes in (
      so_far.0,
      so_far.1.led,
      under_way_ends c.pieces.decoder so_far.0 so_far.1,
      end_known _ _ _ so_far.0 c.pull.new.part c.in_ok-count.count c.if-count-eq0.true so_far.2
          read.0 (read.1 c.if-count-eq0.true (search rules)),
    )

pub returns-in_err-used-clause-answers : goal.returns-in_err-used-clause-answers
returns-in_err-used-clause-answers g c =
    let so_far = c.pieces.invariant.so_far in
    let part = take c.in_ok-count.count c.pull.new.part in
    let p = err_from_is_err_and c.from_residual-in_err-used.result
    c.from_residual-in_err-used.ensures.1 in
    rw (p.1, p.2) (ended_known _ _ c.feed.new.self.query (so_far.0 ++ part) c.in_err-used.field-0.0
    c.feed.new.self.taken (Consumes-trans _ _ _ so_far.0 part so_far.2
    c.in_ok-count.ensures.bytes.0) (c.in_err-used.ensures.answers so_far.0 so_far.1.led).0.1)

pub returns-then-used-count-clause-answers : goal.returns-then-used-count-clause-answers
returns-then-used-count-clause-answers g c =
    let so_far = c.pieces.invariant.so_far in
    let part = take c.in_ok-count.count c.pull.new.part in
    let w = whole_by c.pieces.decoder c.feed.new.self (so_far.0 ++ part) c.in_ok-used.field-0
    c.in-Done.used c.in-Done.is (c.in_ok-used.ensures.answers so_far.0 so_far.1.led).0 in
    trails_within _ _ c.feed.new.self.query (so_far.0 ++ part) w.tree c.feed.new.self.taken
    (Consumes-trans _ _ _ so_far.0 part so_far.2 c.in_ok-count.ensures.bytes.0) w.outcome
    (omega (
      arith,
      w.count,
      so_far.1.count,
      c.if-used-count.true,
      length-append so_far.0 part,
      length-take c.in_ok-count.count c.pull.new.part,
      c.in_ok-count.ensures.count,
    ))

pub returns-in-Done-clause-answers : goal.returns-in-Done-clause-answers
returns-in-Done-clause-answers g c =
    let so_far = c.pieces.invariant.so_far in
    let part = take c.in_ok-count.count c.pull.new.part in
    let answers = c.in_ok-used.ensures.answers so_far.0 so_far.1.led in
    let w = whole_by c.pieces.decoder c.feed.new.self (so_far.0 ++ part) c.in_ok-used.field-0
    c.in-Done.used c.in-Done.is answers.0 in
    let gives = gives_next g.R.ReadOnce.reads c.args.source.now.device so_far.3.0 so_far.0
    c.pieces.source.device _ c.in_ok-count.count c.pull.new.part c.pull.new.self.device so_far.3.1
    c.in_ok-count.ensures.once in
    look_feeds (FailsAt g.R.ReadOnce.reads c.pull.new.self.device c.has_more.new.source.device)
    (FailsAfter g.R.ReadOnce.reads c.args.source.now.device c.has_more.new.source.device) _ _ _
    c.feed.new.self (so_far.0 ++ part) w.tree c.has_more.result
    (λ failed. (c.pull.new.self.device, suc so_far.3.0, gives, failed))
    (Consumes-trans _ _ _ so_far.0 part so_far.2 c.in_ok-count.ensures.bytes.0) w.outcome
    answers.1
    (omega (
      arith,
      w.count,
      so_far.1.count,
      c.if-used-count.false,
      length-append so_far.0 part,
      length-take c.in_ok-count.count c.pull.new.part,
      c.in_ok-count.ensures.count,
    ))
    c.has_more.ensures.answers

pub pieces-smaller : goal.pieces-smaller
pieces-smaller g c =
    let so_far = c.pieces.invariant.so_far in
    let part = take c.in_ok-count.count c.pull.new.part in
    let next = under_way_by c.pieces.decoder c.feed.new.self so_far.0 part c.in_ok-used.field-0
    (more_by _ c.in_default.not-Done) (c.in_ok-used.ensures.answers so_far.0 so_far.1.led) in
    omega (
      arith,
      next.count,
      next.fits,
      so_far.1.count,
      length-append so_far.0 part,
      length-take c.in_ok-count.count c.pull.new.part,
      c.in_ok-count.ensures.count,
      c.if-count-eq0.false,
      ap (λ (j : Query). j.bytes)
          (c.in_ok-used.ensures.query ∙ c.pieces.invariant.query),
    )

pub pieces-preserved : goal.pieces-preserved
pieces-preserved g c =
    let so_far = c.pieces.invariant.so_far in
    let part = take c.in_ok-count.count c.pull.new.part in
    record {
      so_far = (
        so_far.0 ++ part,
        under_way_by c.pieces.decoder c.feed.new.self so_far.0 part c.in_ok-used.field-0
            (more_by _ c.in_default.not-Done) (c.in_ok-used.ensures.answers so_far.0 so_far.1.led),
        Consumes-trans _ _ _ so_far.0 part so_far.2 c.in_ok-count.ensures.bytes.0,
        (
          suc so_far.3.0,
          gives_next g.R.ReadOnce.reads c.args.source.now.device so_far.3.0 so_far.0
              c.pieces.source.device _ c.in_ok-count.count c.pull.new.part
              c.pull.new.self.device so_far.3.1 c.in_ok-count.ensures.once,
        ),
      );
      query = c.in_ok-used.ensures.query ∙ c.pieces.invariant.query;
      quiet = search rules;
    }

pub returns-in_err-count-clause-answers : goal.returns-in_err-count-clause-answers
returns-in_err-count-clause-answers g c =
    let so_far = c.pieces.invariant.so_far in
    let p = err_from_is_err_and c.from_residual.result c.from_residual.ensures.1 in
    rw (p.1, p.2) (stops_open
    (FailsAfter g.R.ReadOnce.reads c.args.source.now.device c.pull.new.self.device) _ _ _
    c.pieces.decoder.query so_far.0
    (c.pieces.source.device, so_far.3.0, so_far.3.1, (_, _, c.in_err-count.ensures.once))
    so_far.2 c.in_err-count.ensures.bytes (under_way_open c.pieces.decoder so_far.0 so_far.1))
