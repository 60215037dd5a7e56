-- The tokens of a value's JSON.
use Rattle.std.specs.Prelude.{ℕ, List, [], ◌∷◌, map, option_and_then, unwrap_or, slice_get}
use Rattle.std.specs.Prelude.{IsSome, Result}
use Rattle.std.specs.List.{AllByRecursion}
use Rattle.json.specs.Tree.{json_tokens}
use Rattle.serde_json.specs.Data.{Data, null, Members, no_members, member}
use Rattle.serde_json.specs.Written.{outline}
use Rattle.types_core.specs.declared.definition.Field.{Field}
use Rattle.token_core.specs.Tokens.{Text, AddsTokens}

-- the tokens of a value's JSON are added
abbrev pub AddsValue : {E : Type 0} → Result (Unit {0}) E → Text → Text → Data → Type 0
AddsValue r old new d = AddsTokens r old new (json_tokens (outline d))

-- the name of the field at a position
abbrev pub name_at : List Field → ℕ → List ℕ
name_at fs p = unwrap_or (option_and_then (λ f. f.name) (slice_get fs p)) []

-- the item at a position
abbrev pub data_at : List Data → ℕ → Data
data_at ds p = unwrap_or (slice_get ds p) null

-- the members at these positions, in this order
abbrev pub members_at : List Field → List Data → List ℕ → Members
members_at fs ds [] = no_members
members_at fs ds (p ∷ ps) = member (name_at fs p) (data_at ds p) (members_at fs ds ps)

-- the members in the order of the fields
abbrev pub members_in_order : List Field → List Data → Members
members_in_order [] ds = no_members
members_in_order (f ∷ fs) [] = no_members
members_in_order (f ∷ fs) (d ∷ ds) = member (unwrap_or f.name []) d (members_in_order fs ds)

-- each field has a name
abbrev pub AreNamed : List Field → Type 0
AreNamed fs = AllByRecursion (λ f. IsSome f.name) fs

abbrev pub names_of : List Field → List (List ℕ)
names_of fs = map (λ f. unwrap_or f.name []) fs
