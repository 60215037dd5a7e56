-- The order of the names of fields, as they are inserted one after the other.
use Rattle.std.proofs.Common.{◌≡◌, ℕ, suc, ◌+◌, ◌<◌, Bool, true, false, cond, List, []}
use Rattle.std.proofs.Common.{◌∷◌, length, map, drop, Option, Some, None, is_some, option_map, Bor}
use Rattle.std.proofs.Common.{Ordering, Less, Equal, Greater, nat_cmp, is_eq, refl, sym, ap, ◌∙◌}
use Rattle.std.proofs.Common.{arith, true≢false, get_or}
use Rattle.std.specs.Prelude.{option_and_then, ◌||◌}
use Rattle.std.specs.Cmp.Lexicographic.{slice_cmp}
use Rattle.std.specs.List.{range_with_len}
use Rattle.std.specs.Map.{lookup}
use Rattle.std.specs.Ordering.{match_ordering}
use Rattle.std.specs.BTreeMap.{insert_entry, is_at}
use Rattle.std.proofs.lemmas.List.{drop_more, length-map}
use Rattle.types_core.specs.declared.definition.Field.{Field}
use Rattle.types_core.specs.declared.keys.Keys.TheVariants as keys
use Rattle.types_core.specs.Keys.{is_there, order_from, lent_entries, positions_of}
use Rattle.types_core.specs.Keys.{key_order, AreKeys}

abbrev pub Entries : Type 0
Entries = List (List ℕ × ℕ)

abbrev pub insert : List ℕ → ℕ → Entries → Entries
insert n i es = insert_entry (slice_cmp nat_cmp) es n i

-- entries whose names are lent
abbrev pub Lent : Type 0
Lent = List (Bor (List ℕ) × ℕ)

-- a name is among entries if it is the first or among the others
pub is_there_cons : (m : List ℕ) (e : List ℕ × ℕ) (es : Entries) →
    is_there m (e ∷ es) ≡ (is_eq (slice_cmp nat_cmp m e.0) || is_there m es)
is_there_cons m e es = go (is_eq (slice_cmp nat_cmp m e.0)) where
  go : (b : Bool) → is_some (cond b (Some e.1) (lookup (is_at (slice_cmp nat_cmp m)) es))
      ≡ (b || is_there m es)
  go true = refl
  go false = refl

-- the positions are those of the entries that they stand for
pub lent_positions : (es : Lent) → map (λ e. e.1) es ≡ positions_of (lent_entries es)
lent_positions [] = refl
lent_positions (e ∷ es) = ap (λ l. e.1 ∷ l) (lent_positions es)

-- ---- the next field

-- one field of the fields
next_field : (fs : List Field) (p : ℕ) (f : Field) (n : List ℕ) (es : Entries) →
    p < length fs → f ≡ get_or fs p f → f.name ≡ Some n → order_from (drop p fs) p es
    ≡ cond (is_there n es) None (order_from (drop (p + 1) fs) (p + 1) (insert n p es))
next_field fs p f n es h e is =
    ap (λ gs. order_from gs p es) (drop_more fs p f h ∙ ap (λ g. g ∷ drop (p + 1) fs) (sym e))
    ∙ ap (λ o. option_and_then (λ m. cond (is_there m es) None
    (order_from (drop (p + 1) fs) (suc p) (insert m p es))) o) is
    ∙ ap (λ q. cond (is_there n es) None (order_from (drop (p + 1) fs) q (insert n p es)))
    (omega arith)

-- with a name that is there already no order is found
pub found_here : (fs : List Field) (p : ℕ) (f : Field) (n : List ℕ) (es : Entries) →
    p < length fs → f ≡ get_or fs p f → f.name ≡ Some n → is_there n es ≡ true →
    order_from (drop p fs) p es ≡ None
found_here fs p f n es h e is there = next_field fs p f n es h e is
    ∙ ap (λ b. cond b None (order_from (drop (p + 1) fs) (p + 1) (insert n p es))) there

-- a name that is new is inserted
pub new_here : (fs : List Field) (p : ℕ) (f : Field) (n : List ℕ) (es new : Entries) →
    p < length fs → f ≡ get_or fs p f → f.name ≡ Some n → is_there n es ≡ false →
    new ≡ insert n p es →
    order_from (drop p fs) p es ≡ order_from (drop (p + 1) fs) (p + 1) new
new_here fs p f n es new h e is there i = next_field fs p f n es h e is
    ∙ ap (λ b. cond b None (order_from (drop (p + 1) fs) (p + 1) (insert n p es))) there
    ∙ ap (order_from (drop (p + 1) fs) (p + 1)) (sym i)

-- ---- as many positions as fields

-- a name that is new makes the entries one more
pub count_insert : (n : List ℕ) (i : ℕ) (es : Entries) → is_there n es ≡ false →
    length (insert n i es) ≡ suc (length es)
count_insert n i [] e = refl
count_insert n i (x ∷ es) e = go (slice_cmp nat_cmp n x.0) refl (count_insert n i es) where
  go : (o : Ordering) → slice_cmp nat_cmp n x.0 ≡ o →
      (is_there n es ≡ false → length (insert n i es) ≡ suc (length es)) →
      length (match_ordering o ((n, i) ∷ x ∷ es) ((x.0, i) ∷ es) (x ∷ insert n i es))
      ≡ suc (suc (length es))
  go Less is later = refl
  go Equal is later = absurd (true≢false (sym (ap (λ p. is_eq p || is_there n es) is)
      ∙ sym (is_there_cons n x es) ∙ e))
  go Greater is later = ap suc (later (sym (ap (λ p. is_eq p || is_there n es) is)
      ∙ sym (is_there_cons n x es) ∙ e))

-- an order that is found has one entry more for each field
order_count : (fs : List Field) (i : ℕ) (es found : Entries) → order_from fs i es ≡ Some found →
    length found ≡ length fs + length es
order_count [] i es found e = let same : es ≡ found = cc in ap length (sym same) ∙ omega arith
order_count (f ∷ fs) i es found e = go (order_count fs (suc i)) f.name e where
  go : ((es found : Entries) → order_from fs (suc i) es ≡ Some found →
      length found ≡ length fs + length es) → (o : Option (List ℕ)) →
      option_and_then (λ n. cond (is_there n es) None
      (order_from fs (suc i) (insert n i es))) o ≡ Some found →
      length found ≡ suc (length fs) + length es
  go rest None h = absurd cc
  go rest (Some n) h = new (is_there n es) refl h where
    new : (b : Bool) → is_there n es ≡ b →
        cond b None (order_from fs (suc i) (insert n i es)) ≡ Some found →
        length found ≡ suc (length fs) + length es
    new true there g = absurd cc
    new false there g =
        let later = rest (insert n i es) found g in
        omega (arith, later, count_insert n i es there)

-- the order of keys has a position for each field
positions_count : (fs : List Field) (ps : List ℕ) → key_order fs ≡ Some ps →
    length ps ≡ length fs
positions_count [] ps e = absurd cc
positions_count (f ∷ fs) ps e = go (order_from (f ∷ fs) 0 []) refl e where
  go : (o : Option Entries) → order_from (f ∷ fs) 0 [] ≡ o → option_map positions_of o ≡ Some ps →
      length ps ≡ suc (length fs)
  go None is h = absurd cc
  go (Some es) is h =
      let same : positions_of es ≡ ps = cc in
      let many : length (positions_of es) ≡ length es = length-map es (λ e. e.1) in
      omega (arith, many, ap length same, order_count (f ∷ fs) 0 [] es is)

-- an order that counts up is that of the fields themselves
pub counted_keys : (fs : List Field) (order : List ℕ) → key_order fs ≡ Some order →
    order ≡ range_with_len 0 (length order) → AreKeys fs keys.InOrder
counted_keys fs order e up = e
    ∙ ap Some (up ∙ ap (range_with_len 0) (positions_count fs order e))
