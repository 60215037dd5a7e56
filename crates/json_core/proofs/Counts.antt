-- A value has as many children as its type has fields, and a child by its position.
use Rattle.std.proofs.Common.{◌≡◌, ℕ, zero, suc, ◌<◌, Bool, true, false, List, [], ◌∷◌, length, map}
use Rattle.std.proofs.Common.{get_or, Option, Some, option_map, refl, sym, ap, subst, ◌∙◌}
use Rattle.std.proofs.Common.{inl, inr, arith}
use Rattle.std.specs.Prelude.{slice_get, unwrap_or, ◌⊎◌}
use Rattle.std.proofs.lemmas.List.{length-map}
use Rattle.std.proofs.lemmas.Option.{slice_get-map, slice_get_read}
use Rattle.serde_json.specs.Data.{null}
use Rattle.types_core.specs.declared.definition.Arm.{Arm}
use Rattle.types_core.specs.declared.definition.Field.{Field}
use Rattle.types_core.specs.declared.definition.TypeDef.{TypeDef}
use Rattle.types_core.specs.declared.definition.TypeDef.TheVariants as Def
use Rattle.types_core.specs.declared.type_info.TypeInfo.{TypeInfo}
use Rattle.graph_core.specs.Types.{shape, field_types}
use Rattle.widths_core.specs.Arms.{arm_of}
use Rattle.widths_core.specs.Classes.{is_empty}
use Rattle.widths_core.specs.Layouts.{Layout, layout, layout_of_shape}
use Rattle.widths_core.specs.Layouts as layout
use Rattle.widths_core.proofs.ArmReads.{arm_position}
use Rattle.grammar_core.specs.Tree.{Tree, Trees, none, and, nodes}
use Rattle.grammar_core.specs.Tree as tree
use Rattle.grammar_core.specs.Grammar.{Val, Vals}
use Rattle.grammar_core.specs.Parts.{Part, each}
use Rattle.grammar_core.specs.Cells.{fields_part}
use Rattle.node_core.specs.Shown.{Seen, IsValue, seen_parts, children_by, children_of}
use Rattle.node_core.specs.Whats.{what_of}
use Rattle.node_core.specs.declared.what.What.{What}
use Rattle.node_core.specs.declared.what.What.TheVariants as what
use Rattle.node_core.proofs.Below.{arm_part_is}
use Rattle.json_core.specs.Defined.{defined_arm, composite_fields}
use Rattle.json_core.specs.Json.{json_seen}
use Rattle.json_core.specs.Tokens.{data_at}
use Rattle.json_core.proofs.Children.{AreBelow, children_below}
use Rattle.json_core.proofs.Reported.{defined_at}

-- ---- how many children there are

-- values of these types are as many as the types
parts_count : (r : List TypeInfo) (ts : List ℕ) (vs : Trees) (b : List ℕ) → Vals r ts vs b →
    length (seen_parts r (each ts) vs) ≡ length ts
unfolding Val
parts_count r [] none b h = refl
parts_count r (t ∷ ts) none b h = absurd h
parts_count r [] (and v vs) b h = absurd h
parts_count r (t ∷ ts) (and v vs) b h = ap suc (parts_count r ts vs h.1 h.4)

-- as many as the arm has fields, or the composite
abbrev Counted : List TypeInfo → ℕ → Tree → What → Type 0
Counted r t v what.Fields = (fs : List Field) → shape r t ≡ Some (Def.Composite fs) →
    length fs ≡ length (children_by r t v)
Counted r t v (what.Arm q) = (a : Arm) → defined_arm (shape r t) q ≡ Some a →
    length a.fields ≡ length (children_by r t v)
Counted r t v _ = Unit {0}

-- a composite that is laid out as fields has the types of its own fields there
fields_layout : (r : List TypeInfo) (e : Bool) (fs : List Field) (ts : List ℕ) →
    layout_of_shape r e (Some (Def.Composite fs)) ≡ layout.fields ts → field_types fs ≡ ts
fields_layout r true fs ts h = absurd cc
fields_layout r false fs ts h = cc

-- a composite's value has as many children as the composite has fields
fields_counted : (r : List TypeInfo) (t : ℕ) (ts : List ℕ) (vs : Trees) (b : List ℕ) →
    layout r t ≡ layout.fields ts → Vals r ts vs b →
    Counted r t (tree.branch tree.fields vs) what.Fields
unfolding layout
fields_counted r t ts vs b e h fs is =
    let same : field_types fs ≡ ts = fields_layout r (is_empty r t) fs ts
    (ap (layout_of_shape r (is_empty r t)) (sym is) ∙ e) in
    let many : length (children_by r t (tree.branch tree.fields vs)) ≡ length ts =
    ap (λ (f : Layout). length (seen_parts r (fields_part f) vs)) e ∙ parts_count r ts vs b h in
    let count : length ts ≡ length fs = ap length (sym same) ∙ length-map fs (λ f. f.ty.0) in
    sym (many ∙ count)

-- a value of an arm has as many children as the arm has fields
arm_counted : (r : List TypeInfo) (t q i : ℕ) (arms : List Arm) (a : Arm) (vs : Trees)
    (b : List ℕ) → layout r t ≡ layout.arms arms → arm_of arms i ≡ Some (q, a) →
    Vals r (field_types a.fields) vs b → Counted r t (tree.branch (tree.arm q) vs) (what.Arm q)
arm_counted r t q i arms a vs b e f h other is =
    let found : defined_arm (shape r t) q ≡ Some a =
    ap (λ (d : Option TypeDef). defined_arm d q) (defined_at r t (layout.arms arms) e)
    ∙ arm_position arms i q a f in
    let both : Some a ≡ Some other = sym found ∙ is in
    let same : a ≡ other = cc in
    let many : length (children_by r t (tree.branch (tree.arm q) vs))
    ≡ length (field_types a.fields) =
    ap (λ (p : Part). length (seen_parts r p vs)) (arm_part_is r t q arms i a e f)
    ∙ parts_count r (field_types a.fields) vs b h in
    let count : length (field_types a.fields) ≡ length other.fields =
    length-map a.fields (λ f. f.ty.0) ∙ ap (λ (x : Arm). length x.fields) same in
    sym (many ∙ count)

-- any value has as many children as the fields of its composite or arm
counted_by : (r : List TypeInfo) (t : ℕ) (v : Tree) (b : List ℕ) → Val r t v b →
    Counted r t v (what_of v)
unfolding Val
counted_by r t (tree.branch tree.fields vs) b h = fields_counted r t h.0 vs b h.1 h.2
counted_by r t (tree.branch (tree.arm q) vs) b h = arm_counted r t q h.1 h.0 h.2 vs h.3 h.4 h.5 h.7
counted_by r t (tree.leaf tree.unit) b h = tt
counted_by r t _ b h = tt

-- the same of a value as contracts see it, by what its node is
counted : (s : Seen) (w : What) → IsValue s → w ≡ what_of s.tree → Counted s.types s.ty s.tree w
counted s w h e =
    subst (Counted s.types s.ty s.tree) (sym e) (counted_by s.types s.ty s.tree h.0 h.2)

-- only a composite has the fields of a composite
composite : (d : Option TypeDef) (fs : List Field) → composite_fields d ≡ Some fs →
    d ≡ Some (Def.Composite fs)
composite (Some (Def.Composite gs)) fs e = let same : gs ≡ fs = cc in
    ap (λ l. Some (Def.Composite l)) same
composite _ fs e = absurd cc

-- a composite's value has a child for each field
pub fields_count : (s : Seen) (fs : List Field) → IsValue s → what.Fields ≡ what_of s.tree →
    composite_fields (shape s.types s.ty) ≡ Some fs → length fs ≡ length (children_of s)
fields_count s fs h e f = counted s what.Fields h e fs (composite (shape s.types s.ty) fs f)

-- and an arm's
pub arm_count : (s : Seen) (q : ℕ) (a : Arm) → IsValue s → what.Arm q ≡ what_of s.tree →
    defined_arm (shape s.types s.ty) q ≡ Some a → length a.fields ≡ length (children_of s)
arm_count s q a h e f = counted s (what.Arm q) h e a f

-- ---- a child by its position

-- what is in the list of the children, where there is one, is the child there
pub child_listed : (s : Seen) (listed : List Seen) (i : ℕ) (child : Seen) →
    (listed ≡ []) ⊎ (listed ≡ children_of s) → i < length listed → child ≡ get_or listed i child →
    slice_get (children_of s) i ≡ Some child
child_listed s listed i child (inl h) less is = absurd (omega (arith, less, ap length h))
child_listed s listed i child (inr h) less is =
    slice_get_read (children_of s) (length (children_of s)) i child refl
    (omega (arith, less, ap length h)) (is ∙ ap (λ l. get_or l i child) h)

-- a child at a position is of the same registry and has fewer nodes, if all have
below_at : (r : List TypeInfo) (n : ℕ) (ss : List Seen) (i : ℕ) (s : Seen) → AreBelow r n ss →
    slice_get ss i ≡ Some s → (s.types ≡ r) × (nodes s.tree < n)
below_at r n [] i s h e = absurd cc
below_at r n (x ∷ ss) zero s h e = let same : x ≡ s = cc in
    (ap (λ (y : Seen). y.types) (sym same) ∙ h.0, subst (λ (y : Seen). nodes y.tree < n) same h.1)
below_at r n (x ∷ ss) (suc i) s h e = below_at r n ss i s h.2 e

-- a child is smaller, and of the same registry
pub child_below : (s : Seen) (i : ℕ) (child : Seen) → slice_get (children_of s) i ≡ Some child →
    (child.types ≡ s.types) × (nodes child.tree < nodes s.tree)
child_below s i child e =
    below_at s.types (nodes s.tree) (children_of s) i child (children_below s) e

-- the JSON of the item at its position
pub child_data : (s : Seen) (i : ℕ) (child : Seen) → slice_get (children_of s) i ≡ Some child →
    data_at (map json_seen (children_of s)) i ≡ json_seen child
child_data s i child e = ap (λ o. unwrap_or o null)
    (slice_get-map json_seen (children_of s) i ∙ ap (option_map json_seen) e)
