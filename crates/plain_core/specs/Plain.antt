-- Texts that need no escape in JSON.
use Rattle.std.specs.Prelude.{◌≡◌, ◌≢◌, ℕ, List, Bool, true, false}
use Rattle.json.specs.Print.{escape}
use Rattle.json.specs.Written.{PlainBetween}
use Rattle.plain_core.specs.declared.plain.Escapes.{Escapes}
use Rattle.plain_core.specs.declared.plain.Escapes.TheVariants as escapes

-- such escapes the text needs
abbrev pub AreEscapes : Escapes → List ℕ → Type 0
AreEscapes escapes.None d = escape d ≡ d
AreEscapes escapes.Needed d = escape d ≢ d

-- the answer is whether no byte from i up to j needs an escape
abbrev pub TellsPlain : Bool → List ℕ → ℕ → ℕ → Type 0
TellsPlain true d i j = PlainBetween d i j
TellsPlain false d i j = PlainBetween d i j → ⊥

-- the answer is whether the text is its own escape
abbrev pub TellsAsIs : Bool → List ℕ → Type 0
TellsAsIs true d = escape d ≡ d
TellsAsIs false d = escape d ≢ d
