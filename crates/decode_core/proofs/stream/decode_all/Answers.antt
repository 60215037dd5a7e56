use Rattle.std.proofs.Common.{ap, ◌∙◌}
use Rattle.std.proofs.lemmas.Result.{err_from_is_err_and}
use Rattle.decode_core.specs.Decoding.{Decoding, first_of_all, opening_fault}
use Rattle.outcome_core.specs.Outcome.{Query}
use Rattle.decode_core.specs.Streaming.{FailsAfter, query_of}
use Rattle.decode_core.proofs.Answering.{end_streams, fault_streams, fed_false, stopped_open}
use Rattle.decode_core.proofs.Answering.{value_streams}
use Rattle.decode_core.proofs.Streaming.{opened}
use Rattle.decode_core.proofs.stream.decode_all.Goals as goal

pub returns-in_err-feed_all-clause-answers : goal.returns-in_err-feed_all-clause-answers
returns-in_err-feed_all-clause-answers g c =
    let fault = opening_fault c.args.checked.now.types c.args.root.0 c.args.limits in
    let first = opened fault (first_of_all c.args.checked.now.types c.args.root.0 c.args.limits)
    c.in_ok-decoder.decoder c.in_ok-decoder.ensures.opens in
    let query = c.in_err-feed_all.ensures.query ∙ ap (λ (d : Decoding). d.query) first.1 in
    let p = err_from_is_err_and c.from_residual-in_err-feed_all.result
    c.from_residual-in_err-feed_all.ensures.1 in
    rw (p.1, p.2) (fault_streams (FailsAfter g.R.ReadOnce.reads c.args.source.now.device
    c.feed_all.new.source.device)
    (g.R.Read.remaining c.args.source.now.device)
    (g.R.Read.remaining c.feed_all.new.source.device) fault
    (query_of c.args.checked.now.types c.args.root.0 c.args.limits) c.feed_all.new.decoder
    c.in_err-feed_all.field-0.0 first.0 query c.in_err-feed_all.ensures.answers)

pub returns-in_err-finish-clause-answers : goal.returns-in_err-finish-clause-answers
returns-in_err-finish-clause-answers g c =
    let fault = opening_fault c.args.checked.now.types c.args.root.0 c.args.limits in
    let first = opened fault (first_of_all c.args.checked.now.types c.args.root.0 c.args.limits)
    c.in_ok-decoder.decoder c.in_ok-decoder.ensures.opens in
    let query = c.in_ok-feed_all.ensures.query ∙ ap (λ (d : Decoding). d.query) first.1 in
    let known = g.R.Read.remaining c.args.source.now.device in
    let fed = fed_false (FailsAfter g.R.ReadOnce.reads c.args.source.now.device
    c.feed_all.new.source.device) known (g.R.Read.remaining c.feed_all.new.source.device)
    c.feed_all.new.decoder _ c.if-branch.false c.in_ok-feed_all.ensures.answers in
    let p = err_from_is_err_and c.from_residual-in_err-finish.result
    c.from_residual-in_err-finish.ensures.1 in
    rw (p.1, p.2) (end_streams (FailsAfter g.R.ReadOnce.reads c.args.source.now.device
    c.feed_all.new.source.device) known (g.R.Read.remaining c.feed_all.new.source.device) fault
    (query_of c.args.checked.now.types c.args.root.0 c.args.limits) c.feed_all.new.decoder fed.0
    c.in_err-finish.field-0.0 first.0 query fed.3 (c.in_err-finish.ensures.finishes fed.0 fed.1))

pub returns-clause-answers : goal.returns-clause-answers
returns-clause-answers g c =
    let fault = opening_fault c.args.checked.now.types c.args.root.0 c.args.limits in
    let first = opened fault (first_of_all c.args.checked.now.types c.args.root.0 c.args.limits)
    c.in_ok-decoder.decoder c.in_ok-decoder.ensures.opens in
    let query = c.in_ok-feed_all.ensures.query ∙ ap (λ (d : Decoding). d.query) first.1 in
    let known = g.R.Read.remaining c.args.source.now.device in
    let fed = fed_false (FailsAfter g.R.ReadOnce.reads c.args.source.now.device
    c.feed_all.new.source.device) known (g.R.Read.remaining c.feed_all.new.source.device)
    c.feed_all.new.decoder _ c.if-branch.false c.in_ok-feed_all.ensures.answers in
    value_streams (FailsAfter g.R.ReadOnce.reads c.args.source.now.device
    c.feed_all.new.source.device) known (g.R.Read.remaining c.feed_all.new.source.device) fault
    (query_of c.args.checked.now.types c.args.root.0 c.args.limits)
    c.feed_all.new.decoder fed.0 c.in_ok-finish.field-0 first.0 query fed.2 fed.3
    (c.in_ok-finish.ensures.finishes fed.0 fed.1)

pub returns-clause-same : goal.returns-clause-same
returns-clause-same g c =
    let first = opened (opening_fault c.args.checked.now.types c.args.root.0 c.args.limits)
    (first_of_all c.args.checked.now.types c.args.root.0 c.args.limits) c.in_ok-decoder.decoder
    c.in_ok-decoder.ensures.opens in
    let query = c.in_ok-feed_all.ensures.query ∙ ap (λ (d : Decoding). d.query) first.1 in
    let known = g.R.Read.remaining c.args.source.now.device in
    let fed = fed_false (FailsAfter g.R.ReadOnce.reads c.args.source.now.device
    c.feed_all.new.source.device) known (g.R.Read.remaining c.feed_all.new.source.device)
    c.feed_all.new.decoder _ c.if-branch.false c.in_ok-feed_all.ensures.answers in
    let value = c.in_ok-finish.ensures.finishes fed.0 fed.1 in
    (value.1 ∙ ap (λ (j : Query). j.registry) query, value.2 ∙ ap (λ (j : Query). j.ty) query)

pub returns-in_err-feed_all-clause-stopped : goal.returns-in_err-feed_all-clause-stopped
returns-in_err-feed_all-clause-stopped g c =
    let fault = opening_fault c.args.checked.now.types c.args.root.0 c.args.limits in
    let first = opened fault (first_of_all c.args.checked.now.types c.args.root.0 c.args.limits)
    c.in_ok-decoder.decoder c.in_ok-decoder.ensures.opens in
    let query = c.in_err-feed_all.ensures.query ∙ ap (λ (d : Decoding). d.query) first.1 in
    let p = err_from_is_err_and c.from_residual-in_err-feed_all.result
    c.from_residual-in_err-feed_all.ensures.1 in
    rw (p.1, p.2) (λ is. stopped_open (FailsAfter g.R.ReadOnce.reads c.args.source.now.device
    c.feed_all.new.source.device)
    (g.R.Read.remaining c.args.source.now.device)
    (g.R.Read.remaining c.feed_all.new.source.device)
    (query_of c.args.checked.now.types c.args.root.0 c.args.limits) c.feed_all.new.decoder
    c.in_err-feed_all.field-0.0 query is c.in_err-feed_all.ensures.answers)
