-- The order of the names of fields, and the object that has its members in that order.
use Rattle.std.proofs.Common.{◌≡◌, ℕ, zero, suc, ◌+◌, ◌≤◌, Bool, true, false, cond, not, List, []}
use Rattle.std.proofs.Common.{◌∷◌, length, map, drop, Option, Some, None, is_some, option_map}
use Rattle.std.proofs.Common.{Ordering, Less, Equal, Greater, nat_cmp, is_eq, bytes_eq, refl, sym}
use Rattle.std.proofs.Common.{ap, ap₂, ◌∙◌, subst, arith, add-one, true≢false, inl, inr, Vec}
use Rattle.std.proofs.Common.{Global}
use Rattle.std.specs.Prelude.{◌&&◌, ◌||◌, ◌⊎◌, option_and_then, unwrap_or, IsSome, slice_get}
use Rattle.std.specs.List.{AllByRecursion, range_with_len}
use Rattle.std.proofs.lemmas.Map.Text.{is_eq-slice_cmp}
use Rattle.std.proofs.lemmas.Slice.Eq.{bytes_eq-Decides}
use Rattle.std.specs.Cmp.Lexicographic.{slice_cmp}
use Rattle.std.specs.Ordering.{match_ordering}
use Rattle.serde_json.specs.Data.{Data, null, Items, Members, no_members, member, put, object}
use Rattle.serde_json.specs.Data.{array}
use Rattle.serde_json.specs.View.{items_of}
use Rattle.types_core.specs.declared.definition.Field.{Field}
use Rattle.types_core.specs.declared.keys.Keys.{Keys}
use Rattle.types_core.specs.declared.keys.Keys.TheVariants as keys
use Rattle.json_core.specs.Json.{with_name, names, is_new, all_differ, with_members, named_json}
use Rattle.json_core.specs.Json.{fields_json}
use Rattle.types_core.specs.Keys.{is_there, order_from, key_order, AreKeys}
use Rattle.types_core.proofs.KeyOrders.{Entries, insert, is_there_cons}
use Rattle.json_core.specs.Tokens.{data_at, name_at, members_at, members_in_order, AreNamed}
use Rattle.json_core.specs.Tokens.{names_of}

abbrev cmp : List ℕ → List ℕ → Ordering
cmp = slice_cmp nat_cmp

-- these names put at their positions, from i on
abbrev placed_from : List (List ℕ) → ℕ → Entries → Entries
placed_from [] i es = es
placed_from (n ∷ ns) i es = placed_from ns (suc i) (insert n i es)

-- members with these names, each with the item at its position
abbrev members_by : (ℕ → Data) → Entries → Members
members_by f [] = no_members
members_by f (e ∷ es) = member e.0 (f e.1) (members_by f es)

-- ---- which names are there

-- of three that are joined by or, the first two change places
or_assoc_swap : (a b c : Bool) → (a || (b || c)) ≡ (b || (a || c))
or_assoc_swap true true c = refl
or_assoc_swap true false c = refl
or_assoc_swap false true c = refl
or_assoc_swap false false c = refl

-- to name one alternative twice changes nothing
or_twice : (a c : Bool) → (a || c) ≡ (a || (a || c))
or_twice true c = refl
or_twice false c = refl

-- names that compare as equal are the same
same_name : (n k : List ℕ) → cmp n k ≡ Equal → n ≡ k
same_name n k e = (bytes_eq-Decides n k).0 (sym (is_eq-slice_cmp n k) ∙ ap is_eq e)

-- what is there after an insert
is_there-insert : (m n : List ℕ) (i : ℕ) (es : Entries) →
    is_there m (insert n i es) ≡ (is_eq (cmp m n) || is_there m es)
is_there-insert m n i [] = is_there_cons m (n, i) []
is_there-insert m n i (e ∷ es) = go (cmp n e.0) refl (is_there-insert m n i es) where
  go : (o : Ordering) → cmp n e.0 ≡ o →
      is_there m (insert n i es) ≡ (is_eq (cmp m n) || is_there m es) →
      is_there m (match_ordering o ((n, i) ∷ e ∷ es) ((e.0, i) ∷ es) (e ∷ insert n i es))
      ≡ (is_eq (cmp m n) || is_there m (e ∷ es))
  go Less is later = is_there_cons m (n, i) (e ∷ es)
  go Equal is later = is_there_cons m (e.0, i) es
      ∙ sym (ap (λ b. is_eq (cmp m n) || b) (is_there_cons m e es)
      ∙ ap (λ k. is_eq (cmp m k) || (is_eq (cmp m e.0) || is_there m es)) (same_name n e.0 is)
      ∙ sym (or_twice (is_eq (cmp m e.0)) (is_there m es)))
  go Greater is later = is_there_cons m e (insert n i es) ∙ ap (λ b. is_eq (cmp m e.0) || b) later
      ∙ or_assoc_swap (is_eq (cmp m e.0)) (is_eq (cmp m n)) (is_there m es)
      ∙ sym (ap (λ b. is_eq (cmp m n) || b) (is_there_cons m e es))

-- none of the names is there
abbrev all_new : List (List ℕ) → Entries → Bool
all_new [] es = true
all_new (n ∷ ns) es = not (is_there n es) && all_new ns es

-- all names are new where there is no entry
all_new_none : (ns : List (List ℕ)) → all_new ns [] ≡ true
all_new_none [] = refl
all_new_none (n ∷ ns) = all_new_none ns

-- equal whichever stands first
same_twice : (n k : List ℕ) (b : Bool) → bytes_eq n k ≡ b → bytes_eq k n ≡ b
same_twice n k true e = (bytes_eq-Decides k n).1 (sym ((bytes_eq-Decides n k).0 e))
same_twice n k false e = go (bytes_eq k n) refl where
  go : (c : Bool) → bytes_eq k n ≡ c → c ≡ false
  go true f =
      absurd (true≢false (sym ((bytes_eq-Decides n k).1 (sym ((bytes_eq-Decides k n).0 f))) ∙ e))
  go false f = refl

-- that neither of two is true and two others are may be asked in two pairs
split_new : (a b c d : Bool) → (not (a || b) && (c && d)) ≡ ((not b && c) && (not a && d))
split_new true true c d = refl
split_new true false true d = refl
split_new true false false d = refl
split_new false true c d = refl
split_new false false c d = refl

-- the names are new after an insert where they were new and differ from it
all_new_insert : (n : List ℕ) (i : ℕ) (ns : List (List ℕ)) (es : Entries) →
    all_new ns (insert n i es) ≡ (all_new ns es && is_new n ns)
all_new_insert n i [] es = refl
all_new_insert n i (m ∷ ns) es =
    ap₂ (λ b c. not b && c) (is_there-insert m n i es
    ∙ ap (λ b. b || is_there m es) (is_eq-slice_cmp m n ∙ same_twice n m (bytes_eq n m) refl))
    (all_new_insert n i ns es)
    ∙ split_new (bytes_eq n m) (is_there m es) (all_new ns es) (is_new n ns)

-- ---- the order is found where each field has a name and all differ

abbrev order_by : Option (List (List ℕ)) → ℕ → Entries → Option Entries
order_by None i es = None
order_by (Some ns) i es = cond (all_new ns es && all_differ ns) (Some (placed_from ns i es)) None

-- of four conditions the first, that something is false, may be asked before all others
and_turn : (a b c d : Bool) → (((not a && b) && (c && d)) ≡ cond a false ((b && c) && d))
and_turn true b c d = refl
and_turn false true c d = refl
and_turn false false c d = refl

-- going over the fields is going over their names
order_from_is : (fs : List Field) (i : ℕ) (es : Entries) →
    order_from fs i es ≡ order_by (names fs) i es
order_from_is [] i es = refl
order_from_is (f ∷ fs) i es = with_one (order_from_is fs (suc i)) f.name where
  when : ((later : Entries) → order_from fs (suc i) later ≡ order_by (names fs) (suc i) later) →
      (n : List ℕ) (there : Bool) (o : Option (List (List ℕ))) → is_there n es ≡ there →
      names fs ≡ o → cond there None (order_from fs (suc i) (insert n i es))
      ≡ order_by (with_name (Some n) o) i es
  when rest n true None is same = refl
  when rest n false None is same = rest (insert n i es)
      ∙ ap (λ o. order_by o (suc i) (insert n i es)) same
  when rest n true (Some ns) is same = rw is refl
  when rest n false (Some ns) is same = rest (insert n i es)
      ∙ ap (λ o. order_by o (suc i) (insert n i es)) same
      ∙ ap (λ b. cond (b && all_differ ns) (Some (placed_from ns (suc i) (insert n i es))) None)
      (all_new_insert n i ns es)
      ∙ ap (λ b. cond b (Some (placed_from ns (suc i) (insert n i es))) None)
      (sym (ap (λ b. (not b && all_new ns es) && (is_new n ns && all_differ ns)) is
      ∙ and_turn false (all_new ns es) (is_new n ns) (all_differ ns)))

  with_one : ((later : Entries) →
      order_from fs (suc i) later ≡ order_by (names fs) (suc i) later) → (o : Option (List ℕ)) →
      option_and_then (λ n. cond (is_there n es) None (order_from fs (suc i) (insert n i es))) o
      ≡ order_by (with_name o (names fs)) i es
  with_one rest None = refl
  with_one rest (Some n) = when rest n (is_there n es) (names fs) refl refl

-- ---- the members in this order are those that the names give one after the other

-- members of entries chosen by an order are the members chosen by that order
match_members : (f : ℕ → Data) (o : Ordering) (a b c : Entries) →
    members_by f (match_ordering o a b c)
    ≡ match_ordering o (members_by f a) (members_by f b) (members_by f c)
match_members f Less a b c = refl
match_members f Equal a b c = refl
match_members f Greater a b c = refl

-- to insert an entry is to put its item among the members, at its name
members_by-insert : (f : ℕ → Data) (n : List ℕ) (i : ℕ) (es : Entries) →
    members_by f (insert n i es) ≡ put n (f i) (members_by f es)
members_by-insert f n i [] = refl
members_by-insert f n i (e ∷ es) = match_members f (cmp n e.0) _ _ _
    ∙ ap (λ ms. match_ordering (cmp n e.0) (member n (f i) (member e.0 (f e.1) (members_by f es)))
    (member e.0 (f i) (members_by f es)) (member e.0 (f e.1) ms)) (members_by-insert f n i es)

-- f gives these items from i on
abbrev GivesItems : (ℕ → Data) → ℕ → List Data → Type 0
GivesItems f i [] = Unit {0}
GivesItems f i (d ∷ ds) = (f i ≡ d) × GivesItems f (suc i) ds

-- items put at their names in turn give the members of the entries placed in turn
members_placed : (f : ℕ → Data) (ns : List (List ℕ)) (i : ℕ) (ds : List Data) (es : Entries) →
    length ns ≤ length ds → GivesItems f i ds →
    with_members ns (items_of ds) (members_by f es) ≡ members_by f (placed_from ns i es)
members_placed f [] i ds es h g = refl
members_placed f (n ∷ ns) i [] es h g = absurd (omega (arith, h))
members_placed f (n ∷ ns) i (d ∷ ds) es h g =
    ap (with_members ns (items_of ds)) (ap (λ x. put n x (members_by f es)) (sym g.0)
    ∙ sym (members_by-insert f n i es))
    ∙ members_placed f ns (suc i) ds (insert n i es) (omega (arith, h)) g.1

-- an empty list has no first element after any number of others
drop_none : {X : Type 0} (i : ℕ) (x : X) (xs : List X) → drop i [] ≡ x ∷ xs → ⊥
drop_none zero x xs e = cc
drop_none (suc i) x xs e = cc

-- the first of what is left is the element at that position
head_at : {X : Type 0} (all : List X) (i : ℕ) (x : X) (xs : List X) → drop i all ≡ x ∷ xs →
    (slice_get all i ≡ Some x) × (drop (suc i) all ≡ xs)
head_at [] i x xs e = absurd (drop_none i x xs e)
head_at (y ∷ all) zero x xs e = (cc, cc)
head_at (y ∷ all) (suc i) x xs e = head_at all i x xs e

-- the item at a position is the one that is found there
data_is : (all : List Data) (i : ℕ) (d : Data) → slice_get all i ≡ Some d → data_at all i ≡ d
data_is all i d e = ap (λ o. unwrap_or o null) e

-- the items of a list by their positions
gives_from : (all : List Data) (i : ℕ) (ds : List Data) → drop i all ≡ ds →
    GivesItems (data_at all) i ds
gives_from all i [] e = tt
gives_from all i (d ∷ ds) e = let h = head_at all i d ds e in
    (data_is all i d h.0, gives_from all (suc i) ds h.1)

-- where each field has a name, there are as many names as fields
names_count : (fs : List Field) (ns : List (List ℕ)) → names fs ≡ Some ns → length ns ≡ length fs
names_count [] [] e = refl
names_count [] (n ∷ ns) e = absurd cc
names_count (f ∷ fs) ns e = go (names_count fs) f.name (names fs) refl e where
  go : ((ms : List (List ℕ)) → names fs ≡ Some ms → length ms ≡ length fs) →
      (o : Option (List ℕ)) (p : Option (List (List ℕ))) → names fs ≡ p →
      with_name o p ≡ Some ns → length ns ≡ suc (length fs)
  go rest None p is e = absurd cc
  go rest (Some n) None is e = absurd cc
  go rest (Some n) (Some ms) is e = let same : n ∷ ms ≡ ns = cc in
      ap length (sym same) ∙ ap suc (rest ms is)

-- ---- the fields that are found

-- the field at the position of an entry has its name
abbrev IsNamed : List Field → List ℕ × ℕ → Type 0
IsNamed fs e = (f : Field) × (slice_get fs e.1 ≡ Some f) × (f.name ≡ Some e.0)

abbrev AllNamed : List Field → Entries → Type 0
AllNamed fs es = AllByRecursion (IsNamed fs) es

-- entries that name their fields still do with one more that names its own
named_insert : (fs : List Field) (n : List ℕ) (i : ℕ) (es : Entries) → IsNamed fs (n, i) →
    AllNamed fs es → AllNamed fs (insert n i es)
named_insert fs n i [] h all = (h, tt)
named_insert fs n i (e ∷ es) h all = go (cmp n e.0) refl (named_insert fs n i es h all.1) where
  go : (o : Ordering) → cmp n e.0 ≡ o → AllNamed fs (insert n i es) →
      AllNamed fs (match_ordering o ((n, i) ∷ e ∷ es) ((e.0, i) ∷ es) (e ∷ insert n i es))
  go Less is later = (h, all)
  go Equal is later = (subst (λ m. IsNamed fs (m, i)) (same_name n e.0 is) h, all.1)
  go Greater is later = (all.0, later)

-- each entry of an order that is found from a position on is that of a field
found_from : (all fs : List Field) (i : ℕ) (es found : Entries) → drop i all ≡ fs →
    AllNamed all es → order_from fs i es ≡ Some found → AllNamed all found
found_from all [] i es found at named e = let same : es ≡ found = cc in
    subst (AllNamed all) same named
found_from all (f ∷ fs) i es found at named e = go (found_from all fs (suc i)) f.name refl e where
  go : ((es found : Entries) → drop (suc i) all ≡ fs → AllNamed all es →
      order_from fs (suc i) es ≡ Some found → AllNamed all found) → (o : Option (List ℕ)) →
      f.name ≡ o → option_and_then (λ n. cond (is_there n es) None
      (order_from fs (suc i) (insert n i es))) o ≡ Some found → AllNamed all found
  go rest None is h = absurd cc
  go rest (Some n) is h = new (is_there n es) refl h where
    new : (b : Bool) → is_there n es ≡ b →
        cond b None (order_from fs (suc i) (insert n i es)) ≡ Some found → AllNamed all found
    new true there g = absurd cc
    new false there g =
        let here = head_at all i f fs at in
        rest (insert n i es) found here.1 (named_insert all n i es (f, here.0, is) named) g

-- ---- what the order of keys says

abbrev positions : Entries → List ℕ
positions es = map (λ e. e.1) es

-- the order stands in these entries
record InEntries (fs : List Field) (ps : List ℕ) : Type 0 where
  pub entries : Entries
  pub from : order_from fs 0 [] ≡ Some entries
  pub are : positions entries ≡ ps

-- an order of keys is that of the entries that were found
in_entries : (fs : List Field) (ps : List ℕ) → key_order fs ≡ Some ps → InEntries fs ps
in_entries [] ps e = absurd cc
in_entries (f ∷ fs) ps e = go (order_from (f ∷ fs) 0 []) refl e where
  go : (o : Option Entries) → order_from (f ∷ fs) 0 [] ≡ o → option_map positions o ≡ Some ps →
      InEntries (f ∷ fs) ps
  go None is h = absurd cc
  go (Some es) is h = record { entries = es; from = is; are = cc }

-- the names that the entries are of
record HasNames (fs : List Field) (es : Entries) : Type 0 where
  pub all : List (List ℕ)
  pub are : names fs ≡ Some all
  pub differ : all_differ all ≡ true
  pub placed_are : placed_from all 0 [] ≡ es

-- fields whose order is found have names that all differ, and its entries are of these
has_names : (fs : List Field) (es : Entries) → order_from fs 0 [] ≡ Some es → HasNames fs es
has_names fs es e = go (names fs) refl (sym (order_from_is fs 0 []) ∙ e) where
  go : (o : Option (List (List ℕ))) → names fs ≡ o → order_by o 0 [] ≡ Some es → HasNames fs es
  go None is h = absurd cc
  go (Some ns) is h = differ (all_differ ns) refl
      (sym (ap (λ b. cond (b && all_differ ns) (Some (placed_from ns 0 [])) None)
      (all_new_none ns)) ∙ h)
    where
      differ : (b : Bool) → all_differ ns ≡ b → cond b (Some (placed_from ns 0 [])) None ≡ Some es →
          HasNames fs es
      differ true d g = record { all = ns; are = is; differ = d; placed_are = cc }
      differ false d g = absurd cc

-- there is a field at the position, and it has a name
abbrev pub IsNamedAt : List Field → ℕ → Type 0
IsNamedAt fs p = (f : Field) × (slice_get fs p ≡ Some f) × IsSome f.name

-- each position of entries that name their fields is that of a field with a name
named_positions : (fs : List Field) (es : Entries) → AllNamed fs es →
    AllByRecursion (IsNamedAt fs) (positions es)
named_positions fs [] all = tt
named_positions fs (e ∷ es) all =
    ((all.0.0, all.0.1, ap is_some all.0.2), named_positions fs es all.1)

-- each entry of an order of keys is that of a field
found : (fs : List Field) (ps : List ℕ) (k : InEntries fs ps) → AllNamed fs k.entries
found fs ps k = found_from fs fs 0 [] k.entries refl tt k.from

-- each position in the order is that of a field
pub positions_are_named : (fs : List Field) (ps : List ℕ) → key_order fs ≡ Some ps →
    AllByRecursion (IsNamedAt fs) ps
positions_are_named fs ps e = let k = in_entries fs ps e in
    subst (AllByRecursion (IsNamedAt fs)) k.are (named_positions fs k.entries (found fs ps k))

-- where all names are found, each field has one, and these are they
fields_named : (fs : List Field) (ns : List (List ℕ)) → names fs ≡ Some ns →
    AreNamed fs × (ns ≡ names_of fs)
fields_named [] ns e = (tt, cc)
fields_named (f ∷ fs) ns e = go (fields_named fs) f.name refl (names fs) refl e where
  go : ((ms : List (List ℕ)) → names fs ≡ Some ms → AreNamed fs × (ms ≡ names_of fs)) →
      (o : Option (List ℕ)) → f.name ≡ o → (p : Option (List (List ℕ))) → names fs ≡ p →
      with_name o p ≡ Some ns → AreNamed (f ∷ fs) × (ns ≡ names_of (f ∷ fs))
  go rest None at p is h = absurd cc
  go rest (Some n) at None is h = absurd cc
  go rest (Some n) at (Some ms) is h =
      let same : n ∷ ms ≡ ns = cc in
      let later = rest ms is in (
        (ap is_some at, later.0),
        sym same ∙ ap₂ (λ x xs. x ∷ xs) (sym (ap (λ o. unwrap_or o []) at)) later.1,
      )

-- each field has a name
pub are_named : (fs : List Field) (ps : List ℕ) → key_order fs ≡ Some ps → AreNamed fs
are_named fs ps e =
    let k = in_entries fs ps e in
    let n = has_names fs k.entries k.from in
    (fields_named fs n.all n.are).0

-- fields that are shown by name have an order of keys
pub order_of_keys : (fs : List Field) (k : Keys) → AreKeys fs k →
    (k ≡ keys.InOrder) ⊎ ((o : Vec ℕ Global) × (k ≡ keys.Sorted o)) →
    (ps : List ℕ) × (key_order fs ≡ Some ps)
order_of_keys fs k a (inl e) = (range_with_len 0 (length fs), subst (AreKeys fs) e a)
order_of_keys fs k a (inr (o, e)) = (o.items, subst (AreKeys fs) e a)

-- ---- the JSON of fields

-- the fields are an object by their names
pub named_json_is : (fs : List Field) (ps : List ℕ) (ds : Items) → key_order fs ≡ Some ps →
    fields_json fs ds ≡ object (with_members (names_of fs) ds no_members)
named_json_is [] ps ds e = absurd cc
named_json_is (f ∷ fs) ps ds e =
    let k = in_entries (f ∷ fs) ps e in
    let n = has_names (f ∷ fs) k.entries k.from in
    ap (λ o. named_json o ds) n.are
    ∙ ap (λ b. cond b (object (with_members n.all ds no_members)) (array ds)) n.differ
    ∙ ap (λ ns. object (with_members ns ds no_members)) (fields_named (f ∷ fs) n.all n.are).1

-- or an array
pub unnamed_json_is : (fs : List Field) (ds : Items) → key_order fs ≡ None →
    fields_json fs ds ≡ array ds
unnamed_json_is [] ds e = refl
unnamed_json_is (f ∷ fs) ds e = go (order_from (f ∷ fs) 0 []) refl e where
  differ : (ns : List (List ℕ)) (b : Bool) → cond b (Some (placed_from ns 0 [])) None ≡ None →
      cond b (object (with_members ns ds no_members)) (array ds) ≡ array ds
  differ ns true h = absurd cc
  differ ns false h = refl

  by_names : (o : Option (List (List ℕ))) → order_by o 0 [] ≡ None → named_json o ds ≡ array ds
  by_names None h = refl
  by_names (Some ns) h = differ ns (all_differ ns)
      (sym (ap (λ b. cond (b && all_differ ns) (Some (placed_from ns 0 [])) None)
      (all_new_none ns)) ∙ h)

  go : (o : Option Entries) → order_from (f ∷ fs) 0 [] ≡ o → option_map positions o ≡ None →
      named_json (names (f ∷ fs)) ds ≡ array ds
  go None is h = by_names (names (f ∷ fs)) (sym (order_from_is (f ∷ fs) 0 []) ∙ is)
  go (Some es) is h = absurd cc

-- the members of entries that name their fields are those at their positions
members_at_named : (fs : List Field) (ds : List Data) (es : Entries) → AllNamed fs es →
    members_by (data_at ds) es ≡ members_at fs ds (positions es)
members_at_named fs ds [] all = refl
members_at_named fs ds (e ∷ es) all =
    let name : name_at fs e.1 ≡ e.0 =
    ap (λ o. unwrap_or (option_and_then (λ (f : Field). f.name) o) []) all.0.1
    ∙ ap (λ o. unwrap_or o []) all.0.2 in
    ap₂ (λ n ms. member n (data_at ds e.1) ms) (sym name) (members_at_named fs ds es all.1)

-- the object has its members in the order of keys
pub sorted_json_is : (fs : List Field) (ps : List ℕ) (ds : List Data) → key_order fs ≡ Some ps →
    length fs ≡ length ds → fields_json fs (items_of ds) ≡ object (members_at fs ds ps)
sorted_json_is fs ps ds e h =
    let k = in_entries fs ps e in
    let n = has_names fs k.entries k.from in
    let same = fields_named fs n.all n.are in
    let count = names_count fs n.all n.are in
    named_json_is fs ps (items_of ds) e
    ∙ ap object (ap (λ ns. with_members ns (items_of ds) no_members) (sym same.1)
    ∙ members_placed (data_at ds) n.all 0 ds [] (omega (arith, count, h)) (gives_from ds 0 ds refl)
    ∙ ap (members_by (data_at ds)) n.placed_are
    ∙ members_at_named fs ds k.entries (found fs ps k)
    ∙ ap (members_at fs ds) k.are)

-- the members at positions that count up are those in the order of the fields
in_order : (all : List Field) (ds : List Data) (i : ℕ) (fs : List Field) (es : List Data) →
    drop i all ≡ fs → drop i ds ≡ es → length fs ≡ length es →
    members_at all ds (range_with_len i (length fs)) ≡ members_in_order fs es
in_order all ds i [] es e f h = refl
in_order all ds i (x ∷ fs) [] e f h = absurd (omega (arith, h))
in_order all ds i (x ∷ fs) (d ∷ es) e f h =
    let field = head_at all i x fs e in
    let item = head_at ds i d es f in
    let later = in_order all ds (i + 1) fs es (rw add-one field.1) (rw add-one item.1)
    (omega (arith, h)) in
    ap₂ (λ n ms. member n (data_at ds i) ms)
    (ap (λ o. unwrap_or (option_and_then (λ (f : Field). f.name) o) []) field.0) later
    ∙ ap (λ y. member (unwrap_or x.name []) y (members_in_order fs es)) (data_is ds i d item.0)

-- or in the order of the fields, where that is the same
pub in_order_json_is : (fs : List Field) (ds : List Data) →
    key_order fs ≡ Some (range_with_len 0 (length fs)) → length fs ≡ length ds →
    fields_json fs (items_of ds) ≡ object (members_in_order fs ds)
in_order_json_is fs ds e h = sorted_json_is fs (range_with_len 0 (length fs)) ds e h
    ∙ ap object (in_order fs ds 0 fs ds refl refl h)
