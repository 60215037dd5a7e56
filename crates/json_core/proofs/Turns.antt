-- The tokens of an object as its members are written one after the other.
use Rattle.std.proofs.Common.{◌≡◌, ℕ, zero, suc, ◌+◌, ◌<◌, List, [], ◌∷◌, ◌++◌, length}
use Rattle.std.proofs.Common.{drop, get_or, Some, refl, sym, ap, ap₂, ◌∙◌, subst, arith}
use Rattle.std.specs.Prelude.{slice_get, unwrap_or, option_and_then, IsSome}
use Rattle.std.specs.List.{AllByRecursion}
use Rattle.std.proofs.lemmas.List.{drop_more}
use Rattle.std.proofs.lemmas.Option.{get_or_from_slice_get}
use Rattle.json.specs.Token.{Token, begin_object, end_object, begin_array, end_array, key, number}
use Rattle.json.specs.Tree.{json_tokens, items_tokens, members_tokens}
use Rattle.serde_json.specs.Data.{Data, Items, Members, no_items, item, no_members, member, array}
use Rattle.serde_json.specs.Data.{object}
use Rattle.serde_json.specs.Written.{outline, items_outline, members_outline}
use Rattle.types_core.specs.declared.definition.Field.{Field}
use Rattle.token_core.specs.Tokens.{Text, prints}
use Rattle.json_core.specs.Tokens.{name_at, data_at, members_at, members_in_order}
use Rattle.token_core.proofs.Outputs.{prints_again}
use Rattle.json_core.proofs.Ordered.{IsNamedAt}

-- an object with one member is printed by its begin, its key, the value and its end in turn
pub one_member : (old : Text) (ts : List Token) (k : List ℕ) →
    prints (prints (prints old (begin_object ∷ key k ∷ [])) ts) (end_object ∷ [])
    ≡ prints old (begin_object ∷ key k ∷ (ts ++ end_object ∷ []))
one_member old ts k = simp prints_again

-- a key, a value and what follows, printed in turn, are these tokens printed at once
next_member : (old : Text) (ts us : List Token) (k : List ℕ) →
    prints (prints (prints old (key k ∷ [])) ts) us ≡ prints old (key k ∷ (ts ++ us))
next_member old ts us k = simp prints_again

-- ---- in the order of the fields

-- a member that is written is no longer left
pub in_order_turn : (old new : Text) (f : Field) (fs : List Field) (d : Data)
    (ds : List Data) (n : List ℕ) → Some n ≡ f.name →
    new ≡ prints (prints old (key n ∷ [])) (json_tokens (outline d)) →
    prints new (members_tokens (members_outline (members_in_order fs ds)))
    ≡ prints old (members_tokens (members_outline (members_in_order (f ∷ fs) (d ∷ ds))))
in_order_turn old new f fs d ds n e said =
    ap (λ w. prints w (members_tokens (members_outline (members_in_order fs ds)))) said
    ∙ next_member old (json_tokens (outline d))
    (members_tokens (members_outline (members_in_order fs ds))) n
    ∙ ap (λ o. prints old (key (unwrap_or o []) ∷ (json_tokens (outline d)
    ++ members_tokens (members_outline (members_in_order fs ds))))) e

-- ---- in the order of keys

-- the field that is read there has a name
pub name_read : (fs : List Field) (p : ℕ) (f : Field) → IsNamedAt fs p → f ≡ get_or fs p f →
    IsSome f.name
name_read fs p f h is = let same : f ≡ h.0 = is ∙ get_or_from_slice_get fs p h.0 f h.1 in
    subst (λ (g : Field). IsSome g.name) (sym same) h.2

-- the name of the field at a position is the one that the code read there
pub name_is : (fs : List Field) (p : ℕ) (f : Field) (n : List ℕ) → IsNamedAt fs p →
    f ≡ get_or fs p f → Some n ≡ f.name → name_at fs p ≡ n
name_is fs p f n h is e = let same : f ≡ h.0 = is ∙ get_or_from_slice_get fs p h.0 f h.1 in
    ap (λ o. unwrap_or (option_and_then (λ (g : Field). g.name) o) []) (h.1 ∙ ap Some (sym same))
    ∙ ap (λ o. unwrap_or o []) (sym e)

-- a position at which there is an element is less than the length
pub slice_within : {X : Type 0} (xs : List X) (i : ℕ) (x : X) → slice_get xs i ≡ Some x →
    i < length xs
slice_within [] i x e = absurd cc
slice_within (y ∷ xs) zero x e = omega arith
slice_within (y ∷ xs) (suc i) x e = let later = slice_within xs i x e in omega (arith, later)

-- the next position of the order is that of a field with a name, and so are those after it
pub next_named : (fs : List Field) (order : List ℕ) (i : ℕ) → i < length order →
    AllByRecursion (IsNamedAt fs) (drop i order) →
    IsNamedAt fs (get_or order i 0) × AllByRecursion (IsNamedAt fs) (drop (i + 1) order)
next_named fs order i h named = subst (AllByRecursion (IsNamedAt fs)) (drop_more order i 0 h) named

-- a member that is written is no longer left
pub sorted_turn : (fs : List Field) (ds : List Data) (ps : List ℕ) (p : ℕ) (f : Field)
    (n : List ℕ) (d : Data) (old new : Text) → IsNamedAt fs p → f ≡ get_or fs p f →
    Some n ≡ f.name → data_at ds p ≡ d →
    new ≡ prints (prints old (key n ∷ [])) (json_tokens (outline d)) →
    prints new (members_tokens (members_outline (members_at fs ds ps)))
    ≡ prints old (members_tokens (members_outline (members_at fs ds (p ∷ ps))))
sorted_turn fs ds ps p f n d old new field is named read said =
    let ms = members_tokens (members_outline (members_at fs ds ps)) in
    ap (λ w. prints w ms) said ∙ next_member old (json_tokens (outline d)) ms n
    ∙ ap₂ (λ m x. prints old (key m ∷ (json_tokens (outline x) ++ ms)))
    (sym (name_is fs p f n field is named)) (sym read)

-- ---- the whole object

-- where no member is left, the object is written
pub object_whole : (old begun last new : Text) (all left : Members) (d : Data) →
    begun ≡ prints old (begin_object ∷ []) → prints last (members_tokens (members_outline left))
    ≡ prints begun (members_tokens (members_outline all)) → left ≡ no_members →
    new ≡ prints last (end_object ∷ []) → d ≡ object all →
    new ≡ prints old (json_tokens (outline d))
object_whole old begun last new all left d begins reported none ends is =
    let ms = members_tokens (members_outline all) in
    ends ∙ ap (λ l. prints last (members_tokens (members_outline l))) (sym none) ∙ reported
    ∙ ap (λ w. prints w ms) begins ∙ prints_again old (begin_object ∷ []) ms
    ∙ ap (λ x. prints old (json_tokens (outline x))) (sym is)

-- nothing is left after the last field or the last child
pub no_field_left : (fs : List Field) (ds : List Data) → length fs ≡ 0 →
    members_in_order fs ds ≡ no_members
no_field_left [] ds e = refl
no_field_left (f ∷ fs) ds e = absurd cc

-- where no item is left, no member is
pub no_item_left : (fs : List Field) (ds : List Data) → length ds ≡ 0 →
    members_in_order fs ds ≡ no_members
no_item_left [] ds e = refl
no_item_left (f ∷ fs) [] e = refl
no_item_left (f ∷ fs) (d ∷ ds) e = absurd cc

-- ---- an array

-- an item that is written is no longer left
pub item_turn : (old new : Text) (d : Data) (ds : Items) →
    new ≡ prints old (json_tokens (outline d)) →
    prints new (items_tokens (items_outline ds))
    ≡ prints old (items_tokens (items_outline (item d ds)))
item_turn old new d ds said = ap (λ w. prints w (items_tokens (items_outline ds))) said
    ∙ prints_again old (json_tokens (outline d)) (items_tokens (items_outline ds))

-- where no item is left, the array is written
pub array_whole : (old begun last new : Text) (all : Items) →
    begun ≡ prints old (begin_array ∷ []) → prints last (items_tokens (items_outline no_items))
    ≡ prints begun (items_tokens (items_outline all)) → new ≡ prints last (end_array ∷ []) →
    new ≡ prints old (json_tokens (outline (array all)))
array_whole old begun last new all begins reported ends =
    ends ∙ reported ∙ ap (λ w. prints w (items_tokens (items_outline all))) begins
    ∙ prints_again old (begin_array ∷ []) (items_tokens (items_outline all))

-- ---- an arm

-- where the value of an object's one member is written and the object ends, all of it is
pub member_whole : (old begun last new : Text) (n : List ℕ) (d : Data) →
    begun ≡ prints old (begin_object ∷ key n ∷ []) → last ≡ prints begun (json_tokens (outline d)) →
    new ≡ prints last (end_object ∷ []) →
    new ≡ prints old (json_tokens (outline (object (member n d no_members))))
member_whole old begun last new n d e f g = g
    ∙ ap (λ w. prints w (end_object ∷ []))
    (f ∙ ap (λ w. prints w (json_tokens (outline d))) e)
    ∙ one_member old (json_tokens (outline d)) n

-- the same where the value is an array, whose items are written
pub array_member_whole : (old begun last new : Text) (n : List ℕ) (all : Items) →
    begun ≡ prints old (begin_object ∷ key n ∷ begin_array ∷ []) →
    prints last (end_array ∷ []) ≡ prints begun (items_tokens (items_outline all)) →
    new ≡ prints last (end_array ∷ end_object ∷ []) →
    new ≡ prints old (json_tokens (outline (object (member n (array all) no_members))))
array_member_whole old begun last new n all e f g =
    let ts = items_tokens (items_outline all) in
    g ∙ sym (prints_again last (end_array ∷ []) (end_object ∷ []))
    ∙ ap (λ w. prints w (end_object ∷ [])) (f ∙ ap (λ w. prints w ts) e)
    ∙ ap (λ w. prints w (end_object ∷ []))
    (prints_again old (begin_object ∷ key n ∷ begin_array ∷ []) ts)
    ∙ prints_again old (begin_object ∷ key n ∷ begin_array ∷ ts) (end_object ∷ [])

-- ---- a count

-- a count is printed as an object of one number, token by token
pub count_whole : (old begun said new : Text) (k : List ℕ) (n : List ℕ) →
    begun ≡ prints old (begin_object ∷ key k ∷ []) → said ≡ prints begun (number n ∷ []) →
    new ≡ prints said (end_object ∷ []) →
    new ≡ prints old (begin_object ∷ key k ∷ number n ∷ end_object ∷ [])
count_whole old begun said new k n e f g = g
    ∙ ap (λ w. prints w (end_object ∷ [])) (f ∙ ap (λ w. prints w (number n ∷ [])) e)
    ∙ one_member old (number n ∷ []) k
