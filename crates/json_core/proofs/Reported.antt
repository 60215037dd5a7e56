-- A node of a value, by what it is: the JSON that its definition and its children give is that of
-- the value.
use Rattle.std.proofs.Common.{◌≡◌, ℕ, ◌-◌, ◌*◌, ◌^◌, ◌<◌, ◌≤◌, Bool, true, false, cond, List}
use Rattle.std.proofs.Common.{length, Option, Some, None, refl, sym, ap, subst, ◌∙◌, arith, inl}
use Rattle.std.proofs.Common.{inr, Bor, option_map}
use Rattle.std.specs.Option.{IsSome}
use Rattle.std.proofs.Math.Nat.{pow-le-pow_right}
use Rattle.std.proofs.lemmas.Bool.{leb-true, ltb-true, ltb-false}
use Rattle.std.specs.Int.{w64}
use Rattle.std.specs.Prelude.{ℤ, pos, neg_ℤ, nat_lt, nat_le, codes, FitsSigned, slice_get}
use Rattle.std.specs.Char.{encode_utf8}
use Rattle.std.specs.Fmt.{signed_decimal}
use Rattle.std.specs.Prelude.{decimal, if◌then◌else◌}
use Rattle.serde_json.specs.Find.{of_integer}
use Rattle.serde_json.specs.Data.{Data, Items, no_members, member}
use Rattle.serde_json.specs.Data as json
use Rattle.scale_core.specs.Number.{AreBytes, number, signed_number}
use Rattle.scale_core.specs.Compact.{IsCompact, target_bytes}
use Rattle.scale_core.specs.declared.compact.Target.{Target}
use Rattle.scale_core.specs.declared.compact.Target.TheVariants as target
use Rattle.scale_core.proofs.Numbers.{number-bound, neg-pos}
use Rattle.types_core.specs.declared.bits.BitForm.{BitForm}
use Rattle.types_core.specs.declared.definition.Arm.{Arm}
use Rattle.types_core.specs.declared.definition.Field.{Field}
use Rattle.types_core.specs.declared.definition.TypeDef.{TypeDef}
use Rattle.types_core.specs.declared.definition.TypeDef.TheVariants as Def
use Rattle.types_core.specs.Kinds.{kind_of}
use Rattle.types_core.specs.declared.kind.PrimitiveKind.{PrimitiveKind}
use Rattle.types_core.specs.declared.kind.PrimitiveKind.TheVariants as K
use Rattle.types_core.specs.declared.type_info.TypeInfo.{TypeInfo}
use Rattle.graph_core.specs.Types.{shape, field_types}
use Rattle.widths_core.specs.Arms.{arm_of}
use Rattle.widths_core.specs.Classes.{is_empty}
use Rattle.widths_core.specs.Targets.{target_of, compact_target_of, compact_target_of_shape}
use Rattle.widths_core.specs.Layouts.{Plain, Layout, layout, layout_of_shape, sized_layout}
use Rattle.widths_core.specs.Layouts.{kind_layout, sequence_layout, array_layout, is_byte}
use Rattle.widths_core.specs.Layouts.{bits_layout, compact_layout}
use Rattle.widths_core.specs.Layouts as layout
use Rattle.grammar_core.specs.Tree.{Tree, Trees, how_many}
use Rattle.grammar_core.specs.Tree as tree
use Rattle.grammar_core.specs.Runs.{run_leaf}
use Rattle.grammar_core.specs.Ways.{SpelledBy, way_of}
use Rattle.widths_core.specs.declared.run_kind.RunKind.{RunKind}
use Rattle.widths_core.specs.declared.run_kind.RunKind.TheVariants as kind
use Rattle.widths_core.proofs.ArmReads.{arm_position}
use Rattle.grammar_core.specs.Grammar.{Val, Vals}
use Rattle.grammar_core.specs.Parts.{Part, times}
use Rattle.grammar_core.specs.Cells.{fields_part, arm_part, list_part}
use Rattle.node_core.specs.Shown.{Seen, IsValue, seen_parts, children_by, bytes_of, children_of}
use Rattle.node_core.specs.Shown.{text_of, words_of}
use Rattle.node_core.specs.Whats.{what_of}
use Rattle.node_core.specs.declared.what.What.{What}
use Rattle.node_core.specs.declared.what.What.TheVariants as what
use Rattle.node_core.proofs.Below.{arm_part_is}
use Rattle.json_core.specs.Defined.{unsigned_by, signed_by, width_json, kind_json, integer_json}
use Rattle.json_core.specs.Defined.{compact_json}
use Rattle.json_core.specs.declared.integer_json.IntegerJson.{IntegerJson}
use Rattle.json_core.specs.declared.integer_json.IntegerJson.TheVariants as shown
use Rattle.json_core.specs.Defined.{defined_arm, composite_fields}
use Rattle.json_core.specs.Json.{json_of, json_seen, all_json, each_json, unsigned_json}
use Rattle.json_core.specs.Json.{signed_json, unsigned_data, signed_data, bytes_json, wide_json}
use Rattle.json_core.specs.Json.{parts_json, fields_json, arm_json, arm_at_position, arm_types}
use Rattle.json_core.specs.Json.{declared_bits, bits_json, part_types, element_type}
use Rattle.json_core.proofs.Children.{jsons, all_is, each_is}

-- ---- what the layout of a type says of its definition

abbrev pub Defined : List TypeInfo → Layout → Option TypeDef → Type 0
Defined r (layout.plain (layout.unsigned k)) d = integer_json d ≡ width_json k
Defined r (layout.plain (layout.signed k)) d = integer_json d ≡ width_json k
Defined r (layout.arms as') d = d ≡ Some (Def.Variant as')
Defined r (layout.plain (layout.compact m)) d = compact_target_of_shape r d ≡ Some m
Defined r _ d = Unit {0}

-- a primitive's layout says how its integers are shown, as its kind does
defined_kind : (r : List TypeInfo) (k : PrimitiveKind) (d : Option TypeDef) →
    integer_json d ≡ kind_json k → Defined r (kind_layout k) d
defined_kind r (K.Unsigned w) d h = h
defined_kind r (K.Signed w) d h = h
defined_kind r _ d h = tt

-- the layout of a sequence says nothing of integers, arms or targets
defined_sequence : (r : List TypeInfo) (t : ℕ) (e byte : Bool) (d : Option TypeDef) →
    Defined r (sequence_layout t e byte) d
defined_sequence r t true byte d = tt
defined_sequence r t false true d = tt
defined_sequence r t false false d = tt

-- the layout of an array says nothing of integers, arms or targets
defined_array : (r : List TypeInfo) (n t : ℕ) (byte : Bool) (d : Option TypeDef) →
    Defined r (array_layout n t byte) d
defined_array r n t true d = tt
defined_array r n t false d = tt

-- the layout of a compact has the target that the compact leads to
defined_compact : (r : List TypeInfo) (o : Option Target) (d : Option TypeDef) →
    compact_target_of_shape r d ≡ o → Defined r (compact_layout o) d
defined_compact r (Some m) d e = e
defined_compact r None d e = tt

-- the layout of a bit sequence says nothing of integers, arms or targets
defined_bits : (r : List TypeInfo) (o : Option BitForm) (d : Option TypeDef) →
    Defined r (bits_layout o) d
defined_bits r (Some f) d = tt
defined_bits r None d = tt

-- the layout of a type whose values have bytes agrees with its definition
defined_sized : (r : List TypeInfo) (d : TypeDef) → Defined r (sized_layout r d) (Some d)
defined_sized r (Def.Composite fs) = tt
defined_sized r (Def.Variant as') = refl
defined_sized r (Def.Sequence t) =
    defined_sequence r t.0 (is_empty r t.0) (is_byte (shape r t.0)) (Some (Def.Sequence t))
defined_sized r (Def.Array n t) =
    defined_array r n t.0 (is_byte (shape r t.0)) (Some (Def.Array n t))
defined_sized r (Def.Tuple ts) = tt
defined_sized r (Def.Primitive p) = defined_kind r (kind_of p) (Some (Def.Primitive p)) refl
defined_sized r (Def.Compact t) = defined_compact r (target_of r t.0) (Some (Def.Compact t)) refl
defined_sized r (Def.BitSequence store order form) =
    defined_bits r form (Some (Def.BitSequence store order form))

-- the layout of a definition agrees with it, whether or not it takes bytes
defined_from : (r : List TypeInfo) (e : Bool) (d : Option TypeDef) →
    Defined r (layout_of_shape r e d) d
defined_from r true d = tt
defined_from r false (Some d) = defined_sized r d
defined_from r false None = tt

-- the layout of the type at a position agrees with its definition
defined : (r : List TypeInfo) (t : ℕ) → Defined r (layout r t) (shape r t)
unfolding layout
defined r t = defined_from r (is_empty r t) (shape r t)

-- the same for a layout that is known to be that of the type
pub defined_at : (r : List TypeInfo) (t : ℕ) (f : Layout) → layout r t ≡ f → Defined r f (shape r t)
defined_at r t f e = subst (λ (g : Layout). Defined r g (shape r t)) e (defined r t)

-- ---- integers

-- an unsigned integer's JSON by its width is that by how integers of the width are shown
unsigned_same : (k n : ℕ) (s : IntegerJson) → s ≡ width_json k → unsigned_json k n ≡ unsigned_by s n
unsigned_same k n s is = by (nat_le k 8) ∙ ap (λ i. unsigned_by i n) (sym is) where
  by : (b : Bool) → (if b then json.number (json.unsigned n) else json.string (decimal n))
      ≡ unsigned_by (if b then shown.Number else shown.Text) n
  by true = refl
  by false = refl

-- a signed integer's JSON by its width is that by how integers of the width are shown
signed_same : (k : ℕ) (z : ℤ) (s : IntegerJson) → s ≡ width_json k → signed_json k z ≡ signed_by s z
signed_same k z s is = by (nat_le k 8) ∙ ap (λ i. signed_by i z) (sym is) where
  by : (b : Bool) → (if b then json.number (of_integer z) else json.string (signed_decimal z))
      ≡ signed_by (if b then shown.Number else shown.Text) z
  by true = refl
  by false = refl

-- where integers of so many bytes are numbers, there are no more of them than 64 bits hold
short : (k : ℕ) (s : IntegerJson) → s ≡ width_json k → s ≡ shown.Number → 256 ^ k ≤ 2 ^ 64
short k s is e = by (nat_le k 8) refl (sym is ∙ e) where
  by : (b : Bool) → nat_le k 8 ≡ b → (if b then shown.Number else shown.Text) ≡ shown.Number →
      256 ^ k ≤ 2 ^ 64
  by true within h = pow-le-pow_right {n = 256} (omega arith) (leb-true k 8 within)
  by false within h = absurd cc

-- a number of at most 64 bits, taken in two's complement, fits 64 bits with a sign
signed_within : (range n : ℕ) (c : Bool) → nat_lt (2 * n) range ≡ c → n < range → range ≤ 2 ^ 64 →
    FitsSigned w64 (cond c (pos n) (neg_ℤ (pos (range - n))))
signed_within range n true e less small = let half = ltb-true (2 * n) range e in
    omega (arith, half, small)
signed_within range n false e less small =
    let half = ltb-false (2 * n) range e in
    rw (neg-pos (range - n) (omega (arith, less))) (omega (arith, half, less, small))

-- the integer that up to eight bytes spell in two's complement fits 64 bits with a sign
signed_fits : (b : List ℕ) → AreBytes b → 256 ^ length b ≤ 2 ^ 64 → FitsSigned w64 (signed_number b)
signed_fits b h small = signed_within (256 ^ length b) (number b)
    (nat_lt (2 * number b) (256 ^ length b)) refl (number-bound b h) small

-- a number with a compact spelling for a target fits the bytes of the target
compact_bound : (m : Target) (x : ℕ) (b : List ℕ) → IsCompact m x b → x < 256 ^ target_bytes m
compact_bound target.Unit x b h = omega (arith, h.0)
compact_bound _ x b h = h.0

-- ---- a node by what it is

abbrev pub JsonReported : List TypeInfo → ℕ → Tree → What → Type 0
JsonReported r t v what.Empty = json_of r t v ≡ json.null
JsonReported r t v (what.Bool b) = json_of r t v ≡ json.boolean b
JsonReported r t v (what.Char c) = json_of r t v ≡ json.string (encode_utf8 c)
JsonReported r t v what.Text = (s : List ℕ) × (text_of v ≡ Some s) × (json_of r t v ≡ json.string s)
JsonReported r t v what.Bytes = (s : List ℕ) × (bytes_of v ≡ Some s)
    × (json_of r t v ≡ bytes_json s)
JsonReported r t v (what.Unsigned n) = (integer_json (shape r t) ≡ shown.Number → n < 2 ^ 64)
    × (json_of r t v ≡ unsigned_by (integer_json (shape r t)) n)
JsonReported r t v (what.Signed z) = (integer_json (shape r t) ≡ shown.Number → FitsSigned w64 z)
    × (json_of r t v ≡ signed_by (integer_json (shape r t)) z)
JsonReported r t v (what.Wide s) = json_of r t v ≡ wide_json s
JsonReported r t v (what.Bits n) = (s : List ℕ) × (words_of v ≡ Some s)
    × (json_of r t v ≡ bits_json (declared_bits (shape r t)) n s)
JsonReported r t v (what.Compact n) =
    (compact_json (compact_target_of r t) ≡ shown.Number → n < 2 ^ 64)
    × (json_of r t v ≡ unsigned_by (compact_json (compact_target_of r t)) n)
JsonReported r t v what.Fields = json_of r t v ≡ parts_json (shape r t) (jsons (children_by r t v))
JsonReported r t v (what.Arm q) = (a : Arm) × (defined_arm (shape r t) q ≡ Some a)
    × (json_of r t v ≡ json.object
    (member a.name (fields_json a.fields (jsons (children_by r t v))) no_members))
JsonReported r t v what.List = json_of r t v ≡ json.array (jsons (children_by r t v))
JsonReported r t v (what.Count k) =
    json_of r t v ≡ json.object (member (codes "count") (json.number (json.unsigned k)) no_members)

-- an unsigned integer's node reports its JSON, and it fits 64 bits if it is shown as a number
unsigned_reported : (r : List TypeInfo) (t k : ℕ) (b : List ℕ) → AreBytes b →
    layout r t ≡ layout.plain (layout.unsigned k) → length b ≡ k →
    JsonReported r t (tree.leaf (tree.unsigned (number b))) (what.Unsigned (number b))
unfolding json_of
unsigned_reported r t k b are e len =
    let long = defined_at r t (layout.plain (layout.unsigned k)) e in
    let less : number b < 256 ^ k = rw (← len) (number-bound b are) in (
      λ h. omega (arith, less, short k _ long h),
      ap (λ (f : Layout). unsigned_data f (number b)) e ∙ unsigned_same k (number b) _ long,
    )

-- a signed integer's node reports its JSON, and it fits 64 bits if it is shown as a number
signed_reported : (r : List TypeInfo) (t k : ℕ) (b : List ℕ) → AreBytes b →
    layout r t ≡ layout.plain (layout.signed k) → length b ≡ k →
    JsonReported r t (tree.leaf (tree.signed (signed_number b))) (what.Signed (signed_number b))
unfolding json_of
signed_reported r t k b are e len =
    let long = defined_at r t (layout.plain (layout.signed k)) e in (
      λ h. signed_fits b are (rw len (short k _ long h)),
      ap (λ (f : Layout). signed_data f (signed_number b)) e
          ∙ signed_same k (signed_number b) _ long,
    )

-- a compact integer's node reports its JSON, and it fits 64 bits if it is shown as a number
compact_reported : (r : List TypeInfo) (t x : ℕ) (m : Target) (b : List ℕ) →
    layout r t ≡ layout.plain (layout.compact m) → IsCompact m x b →
    JsonReported r t (tree.leaf (tree.compact x)) (what.Compact x)
unfolding json_of
compact_reported r t x m b e h =
    let is : compact_target_of r t ≡ Some m = defined_at r t (layout.plain (layout.compact m)) e in
    let long : compact_json (compact_target_of r t) ≡ width_json (target_bytes m) =
    ap compact_json is in (
      λ s. omega (arith, compact_bound m x b h, short (target_bytes m) _ long s),
      ap (λ (f : Layout). unsigned_data f x) e ∙ unsigned_same (target_bytes m) x _ long,
    )

-- the node of a composite or a tuple has the JSON that its children's JSON gives
fields_reported : (r : List TypeInfo) (t : ℕ) (ts : List ℕ) (vs : Trees) (b : List ℕ) →
    layout r t ≡ layout.fields ts → Vals r ts vs b →
    JsonReported r t (tree.branch tree.fields vs) what.Fields
unfolding json_of
fields_reported r t ts vs b e h =
    let parts : jsons (seen_parts r (fields_part (layout r t)) vs) ≡ all_json r ts vs =
    ap (λ (f : Layout). jsons (seen_parts r (fields_part f) vs)) e ∙ all_is r ts vs b h in
    ap (parts_json (shape r t)) (ap (λ (f : Layout). all_json r (part_types f) vs) e ∙ sym parts)

-- the node of an arm has the JSON that the arm's name and its children's JSON give
arm_reported : (r : List TypeInfo) (t q i : ℕ) (arms : List Arm) (a : Arm)
    (vs : Trees) (b : List ℕ) →
    layout r t ≡ layout.arms arms → arm_of arms i ≡ Some (q, a) →
    Vals r (field_types a.fields) vs b → JsonReported r t (tree.branch (tree.arm q) vs) (what.Arm q)
unfolding json_of
arm_reported r t q i arms a vs b e f h =
    let got : slice_get arms q ≡ Some a = arm_position arms i q a f in
    let at : arm_at_position (layout r t) q ≡ Some a = ap (λ (g : Layout). arm_at_position g q) e
    ∙ got in
    let parts : jsons (seen_parts r (arm_part (layout r t) q) vs)
    ≡ all_json r (field_types a.fields) vs =
    ap (λ (p : Part). jsons (seen_parts r p vs)) (arm_part_is r t q arms i a e f)
    ∙ all_is r (field_types a.fields) vs b h in (
      a,
      ap (λ (d : Option TypeDef). defined_arm d q) (defined_at r t (layout.arms arms) e) ∙ got,
      ap (λ (o : Option Arm). arm_json o (all_json r (arm_types o) vs)) at
          ∙ ap (arm_json (Some a)) (sym parts),
    )

-- the node of a list has the array of its children's JSON, if all are of its element type
list_reported : (r : List TypeInfo) (t u : ℕ) (vs : Trees) → element_type (layout r t) ≡ u →
    list_part (layout r t) (how_many vs) ≡ times (how_many vs) u →
    JsonReported r t (tree.branch tree.list vs) what.List
unfolding json_of
list_reported r t u vs e p =
    ap json.array (ap (λ (x : ℕ). each_json r x vs) e ∙ sym (each_is r u vs)
    ∙ sym (ap (λ (q : Part). jsons (seen_parts r q vs)) p))

-- a run's node reports its bytes and its JSON
run_leaf_reported : (r : List TypeInfo) (t : ℕ) (k : RunKind) (x : ℕ × List ℕ) →
    JsonReported r t (tree.leaf (run_leaf k x)) (what_of (tree.leaf (run_leaf k x)))
unfolding json_of
run_leaf_reported r t kind.Text x = (x.1, refl, refl)
run_leaf_reported r t _ x = (x.1, refl, refl)

-- the node of a leaf has the JSON that its kind gives
leaf_reported : (r : List TypeInfo) (t : ℕ) (p : Plain) (l : tree.Leaf) (b : List ℕ) →
    AreBytes b → layout r t ≡ layout.plain p → SpelledBy (way_of p) l b →
    JsonReported r t (tree.leaf l) (what_of (tree.leaf l))
unfolding json_of
leaf_reported r t layout.empty l b are e h = rw h.0 refl
leaf_reported r t (layout.run k) l b are e h = rw h.1 (run_leaf_reported r t k h.0)
leaf_reported r t (layout.unsigned k) l b are e h = rw h.1 (unsigned_reported r t k b are e h.0)
leaf_reported r t (layout.signed k) l b are e h = rw h.1 (signed_reported r t k b are e h.0)
leaf_reported r t (layout.compact m) l b are e h = rw h.1 (compact_reported r t h.0 m b e h.2)
leaf_reported r t _ l b are e h = rw h.1 refl

-- each node of a value has the JSON that its definition and its children give
reported_by : (r : List TypeInfo) (t : ℕ) (v : Tree) (b : List ℕ) → AreBytes b → Val r t v b →
    JsonReported r t v (what_of v)
unfolding Val json_of
reported_by r t (tree.leaf l) b are h = leaf_reported r t h.0 l b are h.1 h.2
reported_by r t (tree.branch tree.fields vs) b are h = fields_reported r t h.0 vs b h.1 h.2
reported_by r t (tree.branch (tree.arm q) vs) b are h =
    arm_reported r t q h.1 h.0 h.2 vs h.3 h.4 h.5 h.7
reported_by r t (tree.branch tree.list vs) b are (inl h) =
    list_reported r t h.1 vs (ap element_type h.2)
    (ap (λ (f : Layout). list_part f (how_many vs)) h.2)
reported_by r t (tree.branch tree.list vs) b are (inr h) =
    list_reported r t h.0 vs (ap element_type h.3)
    (ap (λ (f : Layout). list_part f (how_many vs)) h.3)

-- the same of a value as contracts see it, by what its node is
pub reported : (s : Seen) (w : What) → IsValue s → w ≡ what_of s.tree →
    JsonReported s.types s.ty s.tree w
reported s w h e = subst (JsonReported s.types s.ty s.tree) (sym e)
    (reported_by s.types s.ty s.tree h.0 h.1 h.2)

-- ---- what the code has found of a node's text, of its fields and of its arm

-- what was found is what is there
pub found_is : {X : Type 0} {there : Option X} {found : Option (Bor X)} {x : Bor X} →
    option_map (λ y. y.now) found ≡ there → found ≡ Some x → there ≡ Some x.now
found_is e f = sym e ∙ ap (option_map (λ y. y.now)) f

-- a node that is a text has the JSON string of the text that was found for it
pub text_is : (s : Seen) (found : Option (Bor (List ℕ))) (text : Bor (List ℕ)) →
    option_map (λ x. x.now) found ≡ text_of s.tree → found ≡ Some text →
    JsonReported s.types s.ty s.tree what.Text → json_seen s ≡ json.string text.now
text_is s found text e f h =
    let same : Some text.now ≡ Some h.0 = sym (found_is e f) ∙ h.1 in
    let is : text.now ≡ h.0 = cc in
    h.2 ∙ ap json.string (sym is)

-- a node that is a run of bytes has the hexadecimal digits of the bytes that were found for it
pub bytes_are : (s : Seen) (found : Option (Bor (List ℕ))) (bytes : Bor (List ℕ)) →
    option_map (λ x. x.now) found ≡ bytes_of s.tree → found ≡ Some bytes →
    JsonReported s.types s.ty s.tree what.Bytes → json_seen s ≡ bytes_json bytes.now
bytes_are s found bytes e f h =
    let same : Some bytes.now ≡ Some h.0 = sym (found_is e f) ∙ h.1 in
    let is : bytes.now ≡ h.0 = cc in
    h.2 ∙ ap bytes_json (sym is)

-- a node that is a bit sequence has the digits of the bits in the words that were found for it
pub bits_are : (s : Seen) (n : ℕ) (found : Option (Bor (List ℕ))) (bytes : Bor (List ℕ)) →
    option_map (λ x. x.now) found ≡ words_of s.tree → found ≡ Some bytes →
    JsonReported s.types s.ty s.tree (what.Bits n) →
    json_seen s ≡ bits_json (declared_bits (shape s.types s.ty)) n bytes.now
bits_are s n found bytes e f h =
    let same : Some bytes.now ≡ Some h.0 = sym (found_is e f) ∙ h.1 in
    let is : bytes.now ≡ h.0 = cc in
    h.2 ∙ ap (bits_json (declared_bits (shape s.types s.ty)) n) (sym is)

-- a composite's value has the JSON of its fields
pub fields_are : (s : Seen) (fs : List Field) → composite_fields (shape s.types s.ty) ≡ Some fs →
    JsonReported s.types s.ty s.tree what.Fields →
    json_seen s ≡ fields_json fs (jsons (children_of s))
fields_are s fs e h = h ∙ go (shape s.types s.ty) e where
  go : (d : Option TypeDef) → composite_fields d ≡ Some fs →
      parts_json d (jsons (children_of s)) ≡ fields_json fs (jsons (children_of s))
  go (Some (Def.Composite gs)) f = let same : gs ≡ fs = cc in
      ap (λ (l : List Field). fields_json l (jsons (children_of s))) same
  go _ f = absurd cc

-- what is no composite has no names
pub no_fields_json : (d : Option TypeDef) (ds : Items) → composite_fields d ≡ None →
    parts_json d ds ≡ json.array ds
no_fields_json (Some (Def.Composite gs)) ds e = absurd cc
no_fields_json _ ds e = refl

-- a node of an arm has that arm in its definition, so it was found
pub arm_there : (s : Seen) (q : ℕ) (found : Option (Bor Arm)) →
    option_map (λ x. x.now) found ≡ defined_arm (shape s.types s.ty) q →
    JsonReported s.types s.ty s.tree (what.Arm q) → IsSome found
arm_there s q None e h = let no : None ≡ Some h.0 = e ∙ h.1 in absurd cc
arm_there s q (Some a) e h = refl

-- a node of an arm is an object with the name of the arm in its definition as the one key
pub arm_is : (s : Seen) (q : ℕ) (a : Arm) → defined_arm (shape s.types s.ty) q ≡ Some a →
    JsonReported s.types s.ty s.tree (what.Arm q) → json_seen s
    ≡ json.object (member a.name (fields_json a.fields (jsons (children_of s))) no_members)
arm_is s q a e h =
    let both : Some h.0 ≡ Some a = sym h.1 ∙ e in
    let is : h.0 ≡ a = cc in
    h.2 ∙ ap (λ (x : Arm). json.object
    (member x.name (fields_json x.fields (jsons (children_of s))) no_members)) is
