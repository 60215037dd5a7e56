use Rattle.std.proofs.Common.{◌∷◌, [], codes, ap, ◌∙◌, decimal, refl}
use Rattle.std.proofs.lemmas.Result.{on_ok_weaker}
use Rattle.json.specs.Print.{escape_byte}
use Rattle.json.specs.Token.{number}
use Rattle.token_core.specs.Tokens.{prints}
use Rattle.json_core.proofs.Turns.{count_whole}
use Rattle.json_core.proofs.writing.write_count.Goals as goal

pub begin_member-requires : goal.begin_member-requires
unfolding escape_byte
begin_member-requires g c = refl

pub returns : goal.returns
returns g c = on_ok_weaker c.end_object.result (λ e. count_whole c.args.out.now
    c.begin_member.new.self c.unsigned.new.self c.end_object.new.self
    (codes "count") (decimal c.args.count) c.in_ok-begin_member.ensures
    (c.in_ok-unsigned.ensures
    ∙ ap (λ k. prints c.begin_member.new.self (number (decimal k) ∷ [])) c.from.ensures) e)
    c.end_object.ensures
