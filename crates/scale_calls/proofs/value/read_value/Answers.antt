use Rattle.std.proofs.Common.{◌∙◌, [], sym}
use Rattle.std.proofs.lemmas.Result.{err_from_is_err_and}
use Rattle.decode_core.specs.Decoding.{first_of_all, opening_fault}
use Rattle.scale_calls.proofs.Decoded.{one_front, one_value, refused_ended, refused_fed, was_fed}
use Rattle.scale_calls.proofs.value.read_value.Goals as goal

pub returns-in_err-feed : goal.returns-in_err-feed
returns-in_err-feed g c =
    let first = first_of_all c.args.checked.now.types c.args.id c.args.limits in
    let p = err_from_is_err_and c.from_residual-in_err-feed.result
    c.from_residual-in_err-feed.ensures.1 in
    rw (p.1, p.2) (refused_fed (opening_fault c.args.checked.now.types c.args.id c.args.limits)
    first c.in_ok-decoder.decoder c.feed.new.self c.args.bytes.now c.in_err-feed.field-0.0
    c.in_ok-decoder.ensures.opens c.in_err-feed.ensures.query
    (c.in_err-feed.ensures.answers [] c.in_ok-decoder.ensures.led).0)

pub returns-in_err-value : goal.returns-in_err-value
returns-in_err-value g c =
    let fed = was_fed _ (first_of_all c.args.checked.now.types c.args.id c.args.limits)
    c.in_ok-decoder.decoder c.feed.new.self c.args.bytes.now c.in_ok-feed.field-0
    c.in_ok-decoder.ensures.opens c.in_ok-feed.ensures.query
    (c.in_ok-feed.ensures.answers [] c.in_ok-decoder.ensures.led) in
    let p = err_from_is_err_and c.from_residual-in_err-value.result
    c.from_residual-in_err-value.ensures.1 in
    rw (p.1, p.2) (refused_ended _ _ _ _ c.in_err-value.field-0.0 fed
    (c.in_err-value.ensures.finishes c.args.bytes.now fed.led))

pub returns-then-taken-bytes : goal.returns-then-taken-bytes
returns-then-taken-bytes g c =
    let fed = was_fed _ (first_of_all c.args.checked.now.types c.args.id c.args.limits)
    c.in_ok-decoder.decoder c.feed.new.self c.args.bytes.now c.in_ok-feed.field-0
    c.in_ok-decoder.ensures.opens c.in_ok-feed.ensures.query
    (c.in_ok-feed.ensures.answers [] c.in_ok-decoder.ensures.led) in
    one_value _ _ _ _ c.in_ok-value.value fed (sym c.taken-taken.ensures ∙ c.if-taken-bytes.true)
    (c.in_ok-value.ensures.finishes c.args.bytes.now fed.led)

pub returns : goal.returns
returns g c =
    let fed = was_fed _ (first_of_all c.args.checked.now.types c.args.id c.args.limits)
    c.in_ok-decoder.decoder c.feed.new.self c.args.bytes.now c.in_ok-feed.field-0
    c.in_ok-decoder.ensures.opens c.in_ok-feed.ensures.query
    (c.in_ok-feed.ensures.answers [] c.in_ok-decoder.ensures.led) in
    one_front _ _ _ _ c.in_ok-value.value c.taken-taken.result fed c.taken-taken.ensures
    c.if-taken-bytes.false (c.in_ok-value.ensures.finishes c.args.bytes.now fed.led)
