-- Text to which tokens of JSON are printed one after the other.
use Rattle.std.specs.Prelude.{◌≡◌, ℕ, List, [], ◌∷◌, ◌++◌, Bool, true, false, cond, fold, Result}
use Rattle.std.specs.Prelude.{OnOk}
use Rattle.json.specs.Token.{Token}
use Rattle.json.specs.Print.{ends, print_from}
use Rattle.token_core.specs.declared.output.Role.{Role}
use Rattle.token_core.specs.declared.output.Role.TheVariants as role

-- a text, and whether it ends with a value, so that a comma stands before the next
pub record Text : Type 0 where
  pub text : List ℕ
  pub after_value : Bool

-- whether a comma comes before a token of this role, by whether a value ended before it
abbrev pub takes_comma : Role → Bool → Bool
takes_comma role.Closing after_value = false
takes_comma _ after_value = after_value

-- whether a value ends with a token of this role
abbrev pub ends_value : Role → Bool
ends_value role.Opening = false
ends_value _ = true

-- the characters of a token of this role after it
abbrev pub put : Text → Role → List ℕ → Text
put w role s = record {
  text = w.text ++ (cond (takes_comma role w.after_value) (44 ∷ []) [] ++ s);
  after_value = ends_value role;
}

-- the text with these tokens printed after it
abbrev pub prints : Text → List Token → Text
prints w ts = record {
  text = w.text ++ print_from w.after_value ts;
  after_value = fold (λ _ t. ends t) w.after_value ts;
}

-- if the call succeeds, the tokens were printed after the old text
abbrev pub AddsTokens : {E : Type 0} → Result (Unit {0}) E → Text → Text → List Token → Type 0
AddsTokens r old new ts = OnOk r (new ≡ prints old ts)
