use Rattle.std.proofs.Common.{◌≡◌, ◌∙◌, ap, map, subst, true, refl}
use Rattle.std.proofs.lemmas.Result.{IfErr-weaker, IfOk-weaker}
use Rattle.clap.specs.Words.{FailsBy, fault_of, is_simple, is_simple_and_free, matches_of}
use Rattle.clap.specs.Words.{subcommand_of, takes}
use Rattle.clap.proofs.OnLiterals.{clap_on_literals}
use Rattle.command_line.specs.Line.{line}
use Rattle.command_line.proofs.commands.line_matches.Goals as goal

-- the definition of the command line is one of those whose matches clap gives
simple : is_simple line ≡ true
unfolding clap_on_literals
simple = refl

pub returns-clause-found : goal.returns-clause-found
returns-clause-found c =
    IfOk-weaker c.try_get_matches_from.result _ _
    (λ m h. (h (ap is_simple c.in_ok-line.ensures ∙ simple)).0
    ∙ ap (λ a. matches_of a (map (λ s. s.now) c.args.words.now)) c.in_ok-line.ensures)
    c.try_get_matches_from.ensures.matches

pub returns-clause-subcommand : goal.returns-clause-subcommand
returns-clause-subcommand c =
    IfOk-weaker c.try_get_matches_from.result _ _
    (λ m h. (h (ap is_simple c.in_ok-line.ensures ∙ simple)).1
    ∙ ap (λ a. subcommand_of a (map (λ s. s.now) c.args.words.now)) c.in_ok-line.ensures)
    c.try_get_matches_from.ensures.matches

pub returns-clause-taken : goal.returns-clause-taken
returns-clause-taken c =
    IfErr-weaker c.try_get_matches_from.result _ _
    (λ e h taken. h (ap (λ a. takes a (map (λ s. s.now) c.args.words.now)) c.in_ok-line.ensures
    ∙ taken)) c.try_get_matches_from.ensures.passes

-- no argument of the command line has a rule on another, so clap reports the faults of its words
free : is_simple_and_free line ≡ true
unfolding clap_on_literals
free = refl

pub returns-clause-kinds : goal.returns-clause-kinds
returns-clause-kinds c =
    subst (λ a. FailsBy (fault_of a (map (λ s. s.now) c.args.words.now))
    c.try_get_matches_from.result) c.in_ok-line.ensures
    (c.try_get_matches_from.ensures.kinds (ap is_simple_and_free c.in_ok-line.ensures ∙ free))
