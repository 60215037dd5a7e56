-- A refusal waits for more bytes, or stands whatever follows.
use Rattle.std.proofs.Common.{◌≡◌, false, sym, ap, ◌∙◌}
use Rattle.std.specs.Prelude.{◌≢◌}
use Rattle.grammar_core.specs.Reading.{Refusal, truncated}
use Rattle.outcome_core.specs.Machine.{is_cut}

-- a refusal that is reported to be no cut is none
pub not_cut : (e : Refusal) → is_cut e ≡ false → e ≢ truncated
not_cut e h = λ is. let no : is_cut truncated ≡ false = ap is_cut (sym is) ∙ h in absurd cc
