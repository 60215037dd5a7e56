use Rattle.std.proofs.Common.{◌∷◌, [], ◌++◌, subst, sym, ◌∙◌}
use Rattle.token_core.specs.Places.{OnlyPlaced}
use Rattle.token_core.proofs.strings.place_quoted.Goals as goal

pub returns : goal.returns
returns c = subst (λ s. OnlyPlaced c.args.buffer.now c.place_between.new.buffer c.args.at
    (34 ∷ (s ++ 34 ∷ [])) c.place_between.result)
    (c.as_bytes.ensures.value ∙ sym c.requires.plain) c.place_between.ensures
