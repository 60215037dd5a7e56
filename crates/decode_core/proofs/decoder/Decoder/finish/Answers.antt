use Rattle.std.proofs.Common.{◌≡◌, ◌++◌, [], Ok, true}
use Rattle.decode_core.specs.Decoding.{AnswersPiece, Decoding}
use Rattle.std.proofs.Common.{ap, refl, sym, subst, ◌∙◌}
use Rattle.std.proofs.lemmas.Result.{err_from_is_err_and}
use Rattle.value_core.specs.Built.{finished}
use Rattle.value_core.specs.Refusals.{is_complete}
use Rattle.node_core.specs.Shown.{Seen}
use Rattle.machine_core.specs.Running.{Running}
use Rattle.decode_core.specs.declared.decoder.Progress.{Progress}
use Rattle.decode_core.proofs.calls.Opening.{asks_at_end, ends_by, ends_refused, ends_short}
use Rattle.decode_core.proofs.calls.Opening.{ends_whole}
use Rattle.decode_core.proofs.calls.Opening.{same_run}
use Rattle.decode_core.proofs.calls.Small.{value_small}
use Rattle.decode_core.proofs.decoder.Decoder.finish.Goals as goal

pub into_value-requires : goal.into_value-requires
into_value-requires g c =
    let one : c.in-Ok.run' ≡ c.in_ok-run.field-0 =
    same_run c.in-Ok.run' c.in_ok-run.field-0 c.self.inside.run c.in-Ok.is c.in_ok-run.was in
    subst (λ (s : Running). is_complete s.built ≡ true) one
    (c.if-is_finished.ensures.ends refl []).2

pub returns-clause-finishes : goal.returns-clause-finishes
returns-clause-finishes g c = λ b led.
    let one : c.in-Ok.run' ≡ c.in_ok-run.field-0 =
    same_run c.in-Ok.run' c.in_ok-run.field-0 c.self.inside.run c.in-Ok.is c.in_ok-run.was in
    let run = sym (ap (λ (d : Decoding). d.run) c.self.view_is) ∙ c.in-Ok.is in
    let is = subst (λ (s : Running). c.into_value.result ≡ finished s.built) (sym one)
    c.into_value.ensures in
    ends_whole c.args.self b c.in-Ok.run' c.into_value.result run
    (c.if-is_finished.ensures.ends refl) (c.if-is_finished.ensures.sound refl) is led

pub returns-clause-small : goal.returns-clause-small
returns-clause-small g c = λ b led.
    value_small c.args.self.query b c.into_value.result (returns-clause-finishes g c b led)

pub returns-in_err-feed-clause-finishes : goal.returns-in_err-feed-clause-finishes
returns-in_err-feed-clause-finishes g c = λ b led.
    let p = err_from_is_err_and c.from_residual-in_err-feed.result
    c.from_residual-in_err-feed.ensures.1 in
    rw (p.1, p.2) (ends_refused c.args.self c.feed.new.self b c.in_err-feed.field-0.0
    c.in_err-feed.ensures.query (c.in_err-feed.ensures.answers b led).0)

pub returns-in_err-feed-clause-memory : goal.returns-in_err-feed-clause-memory
returns-in_err-feed-clause-memory g c =
    let p = err_from_is_err_and c.from_residual-in_err-feed.result
    c.from_residual-in_err-feed.ensures.1 in
    rw (p.1, p.2) (asks_at_end c.args.self c.feed.new.self.taken c.in_err-feed.field-0.0
    c.in_err-feed.ensures.memory)

pub returns-in-More-clause-finishes : goal.returns-in-More-clause-finishes
returns-in-More-clause-finishes g c = λ b led.
    let answers = subst (λ (p : Progress). AnswersPiece c.args.self c.feed.new.self (b ++ [])
    (Ok p)) c.in-More.is (c.in_ok-feed.ensures.answers b led).0 in
    ends_short c.args.self c.feed.new.self b c.decoder.inside.taken c.in_ok-feed.ensures.query
    (ap (λ (d : Decoding). d.taken) c.decoder.view_is) answers

pub returns-2-clause-whole : goal.returns-2-clause-whole
returns-2-clause-whole g c = λ s run is.
    let kept = (c.in_ok-feed.ensures.whole s run is).1 in
    let left = sym (ap (λ (d : Decoding). d.run) c.decoder.view_is) ∙ c.in_ok-run-2.was in
    let one : c.in_ok-run-2.field-0 ≡ s =
    same_run c.in_ok-run-2.field-0 s c.feed.new.self.run left (kept.run ∙ run) in
    ap (λ (v : Seen). Ok v)
    (c.into_value-2.ensures ∙ ap (λ (r : Running). finished r.built) one)

pub returns-2-clause-finishes : goal.returns-2-clause-finishes
returns-2-clause-finishes g c = λ b led.
    let run = sym (ap (λ (d : Decoding). d.run) c.decoder.view_is) ∙ c.in_ok-run-2.was in
    ends_by c.args.self c.feed.new.self b c.in_ok-feed.field-0 c.in_ok-run-2.field-0
    c.into_value-2.result c.in_ok-feed.ensures.query c.in_default-2.not-More run
    c.into_value-2.ensures (c.in_ok-feed.ensures.answers b led)

pub returns-2-clause-small : goal.returns-2-clause-small
returns-2-clause-small g c = λ b led.
    value_small c.args.self.query b c.into_value-2.result (returns-2-clause-finishes g c b led)
