-- The map that the order of names is found by.
use Rattle.std.proofs.Common.{◌≡◌, ℕ, cond, List, [], ◌∷◌, Option, Some, is_some, Bor, Ordering}
use Rattle.std.proofs.Common.{Less, Equal, Greater, nat_cmp, is_eq, refl, ap, ◌∙◌}
use Rattle.std.specs.Cmp.Lexicographic.{slice_cmp}
use Rattle.std.specs.Map.{lookup}
use Rattle.std.specs.Ordering.{match_ordering}
use Rattle.std.specs.BTreeMap.{insert_entry, is_at}
use Rattle.types_core.specs.Keys.{is_there, lent_entries}
use Rattle.types_core.proofs.KeyOrders.{Lent, insert}

abbrev lent_cmp : Bor (List ℕ) → Bor (List ℕ) → Ordering
lent_cmp a b = slice_cmp nat_cmp a.now b.now

-- choosing by an order and then taking what is stood for, or the other way, is one
shown_match : (o : Ordering) (a b c : Lent) →
    lent_entries (match_ordering o a b c) ≡ match_ordering o (lent_entries a) (lent_entries b)
    (lent_entries c)
shown_match Less a b c = refl
shown_match Equal a b c = refl
shown_match Greater a b c = refl

-- to put a name into the map is to put it into the entries that it stands for
shown_insert : (es : Lent) (k : Bor (List ℕ)) (i : ℕ) →
    lent_entries (insert_entry lent_cmp es k i) ≡ insert k.now i (lent_entries es)
shown_insert [] k i = refl
shown_insert (e ∷ es) k i = shown_match (lent_cmp k e.0) _ _ _
    ∙ ap (λ s. match_ordering (lent_cmp k e.0) ((k.now, i) ∷ (e.0.now, e.1) ∷ lent_entries es)
    ((e.0.now, i) ∷ lent_entries es) ((e.0.now, e.1) ∷ s)) (shown_insert es k i)

-- a name is looked up in the map as it is in the entries that it stands for
shown_lookup : (es : Lent) (n : List ℕ) →
    lookup (is_at (λ k. slice_cmp nat_cmp n k.now)) es
    ≡ lookup (is_at (slice_cmp nat_cmp n)) (lent_entries es)
shown_lookup [] n = refl
shown_lookup (e ∷ es) n =
    ap (λ o. cond (is_eq (slice_cmp nat_cmp n e.0.now)) (Some e.1) o) (shown_lookup es n)

-- ---- names in a map

-- a look-up in the map finds something exactly where the name is one of the entries
pub there_in_map : (k : Bor (List ℕ)) (old : Lent) (found : Option ℕ) →
    found ≡ lookup (is_at (lent_cmp k)) old → is_some found ≡ is_there k.now (lent_entries old)
there_in_map k old found e = ap is_some (e ∙ shown_lookup old k.now)

-- to put a name into the map is to insert it
pub put_in_map : (k : Bor (List ℕ)) (i : ℕ) (old new : Lent) → new ≡ insert_entry lent_cmp old k i →
    lent_entries new ≡ insert k.now i (lent_entries old)
put_in_map k i old new e = ap lent_entries e ∙ shown_insert old k i
