-- Members that are put one after the other, where no name or no item is left.
use Rattle.std.proofs.Common.{◌≡◌, ℕ, List, [], ◌∷◌, length, refl}
use Rattle.serde_json.specs.Data.{Items, Members}
use Rattle.serde_json.specs.View.{items_view}
use Rattle.serde_json.specs.declared.value.Value.{Value}
use Rattle.types_core.specs.declared.definition.Field.{Field}
use Rattle.json_core.specs.Json.{with_members}
use Rattle.json_core.specs.Tokens.{names_of}

-- the members stay
pub no_fields : (fs : List Field) (ds : Items) (ms : Members) → length fs ≡ 0 →
    with_members (names_of fs) ds ms ≡ ms
no_fields [] ds ms e = refl
no_fields (f ∷ fs) ds ms e = absurd cc

-- where no item is left, nothing is put among the members, whatever names are left
pub no_values : (ns : List (List ℕ)) (vs : List Value) (ms : Members) → length vs ≡ 0 →
    with_members ns (items_view vs) ms ≡ ms
no_values [] vs ms e = refl
no_values (n ∷ ns) [] ms e = refl
no_values (n ∷ ns) (v ∷ vs) ms e = absurd cc
