-- The bytes that spell a value by the grammar are those of its nodes.
use Rattle.std.proofs.Common.{◌≡◌, ℕ, zero, suc, ◌+◌, ◌-◌, ◌*◌, ◌/◌, ◌%◌, ◌^◌, ◌<◌, ◌≤◌, Bool, true}
use Rattle.std.proofs.Common.{false, cond, List, [], ◌∷◌, ◌++◌, length, flat_map, Option, Some}
use Rattle.std.proofs.Common.{None, refl, sym, ap, subst, ◌∙◌, arith, inl, inr}
use Rattle.std.specs.Prelude.{ℤ, pos, neg_ℤ, nat_lt}
use Rattle.std.proofs.lemmas.List.{append-nil}
use Rattle.std.proofs.lemmas.Nat.{pow-add}
use Rattle.std.proofs.lemmas.Grind.{flat_map-append}
use Rattle.std.proofs.Math.Nat.{pow-suc, mul-add}
use Rattle.scale_core.specs.Number.{AreBytes, number, signed_number, le_bytes}
use Rattle.scale_core.specs.Compact.{compact, IsCompact}
use Rattle.scale_core.specs.declared.compact.Target.{Target}
use Rattle.scale_core.specs.declared.compact.Target.TheVariants as target
use Rattle.scale_core.proofs.Numbers.{le_bytes-number, number-bound, front_bytes, rest_bytes}
use Rattle.scale_core.proofs.Numbers.{neg-pos}
use Rattle.types_core.specs.declared.definition.Arm.{Arm}
use Rattle.types_core.specs.Kinds.{kind_of}
use Rattle.types_core.specs.declared.kind.PrimitiveKind.{PrimitiveKind}
use Rattle.types_core.specs.declared.kind.PrimitiveKind.TheVariants as K
use Rattle.types_core.proofs.Widths.{width_most}
use Rattle.types_core.specs.declared.bits.BitForm.{BitForm}
use Rattle.types_core.specs.declared.definition.TypeDef.{TypeDef}
use Rattle.types_core.specs.declared.definition.TypeDef.TheVariants as Def
use Rattle.types_core.specs.declared.type_info.TypeInfo.{TypeInfo}
use Rattle.graph_core.specs.Types.{shape, field_types}
use Rattle.widths_core.specs.Arms.{arm_of}
use Rattle.widths_core.specs.Targets.{target_of}
use Rattle.widths_core.specs.Classes.{is_empty}
use Rattle.widths_core.specs.Layouts.{bits_layout, Plain, Layout, layout, layout_of_shape}
use Rattle.widths_core.specs.Layouts.{sized_layout}
use Rattle.widths_core.specs.Layouts.{bits_layout, kind_layout, sequence_layout, array_layout}
use Rattle.widths_core.specs.Layouts.{is_byte}
use Rattle.widths_core.specs.Layouts.{bits_layout, compact_layout}
use Rattle.widths_core.specs.Layouts as layout
use Rattle.widths_core.specs.RunBytes.{run_bytes}
use Rattle.widths_core.specs.declared.run_kind.RunKind.{RunKind}
use Rattle.widths_core.specs.declared.run_kind.RunKind.TheVariants as kind
use Rattle.grammar_core.specs.Runs.{IsRunLength, run_leaf}
use Rattle.widths_core.proofs.Known.{empty_class, layout_empty}
use Rattle.widths_core.proofs.FirstArm.{arm_is_first}
use Rattle.widths_core.proofs.ArmReads.{arm_position}
use Rattle.grammar_core.specs.Tree.{Leaf, Branch, Tree, leaf, branch, fields, arm}
use Rattle.grammar_core.specs.Tree.{list, Trees, none, and, how_many}
use Rattle.grammar_core.specs.Ways.{SpelledBy, way_of}
use Rattle.grammar_core.specs.Grammar.{Val, Vals, Each}
use Rattle.grammar_core.proofs.Ways.{bool_is}
use Rattle.grammar_core.specs.Parts.{Part, each, how_many_left, times}
use Rattle.grammar_core.specs.Preorder as head
use Rattle.grammar_core.specs.Tree as tree
use Rattle.grammar_core.specs.Begun.{BranchOpens}
use Rattle.grammar_core.specs.Cells.{cells, all_cells}
use Rattle.grammar_core.proofs.Emptiness.{known_at}
use Rattle.grammar_core.specs.Spelled.{leaf_spelling, kind_width, width_of, word, index_of}
use Rattle.grammar_core.specs.Spelled.{index_byte, is_sequence, length_bytes, cell_bytes, own_bytes}
use Rattle.grammar_core.specs.Spelled.{spelled}
use Rattle.grammar_core.specs.Spelled.{EncodedIsValue}
use Rattle.grammar_core.specs.Laws.{OneSpelling}

-- ---- what the layout of a type says of its definition

abbrev Shaped : Layout → Option TypeDef → Type 0
Shaped (layout.plain (layout.unsigned k)) d = width_of d ≡ k
Shaped (layout.plain (layout.signed k)) d = (width_of d ≡ k) × (k ≤ 16)
Shaped (layout.arms as') d = d ≡ Some (Def.Variant as')
Shaped (layout.plain (layout.run kind.Bytes)) d = is_sequence d ≡ true
Shaped (layout.plain (layout.run (kind.ByteArray n))) d = is_sequence d ≡ false
Shaped (layout.sequence t) d = is_sequence d ≡ true
Shaped (layout.array n t) d = is_sequence d ≡ false
Shaped _ d = Unit {0}

-- the layout of a primitive's kind has the width that the definition has
shaped_kind : (k : PrimitiveKind) (d : Option TypeDef) → width_of d ≡ kind_width k →
    Shaped (kind_layout k) d
shaped_kind (K.Unsigned w) d h = h
shaped_kind (K.Signed w) d h = (h, width_most w)
shaped_kind _ d h = tt

-- what is laid out by a sequence is a sequence by its definition
shaped_sequence : (t : ℕ) (e byte : Bool) (d : Option TypeDef) → is_sequence d ≡ true →
    Shaped (sequence_layout t e byte) d
shaped_sequence t true byte d h = tt
shaped_sequence t false true d h = h
shaped_sequence t false false d h = h

-- what is laid out by an array is no sequence by its definition
shaped_array : (n t : ℕ) (byte : Bool) (d : Option TypeDef) → is_sequence d ≡ false →
    Shaped (array_layout n t byte) d
shaped_array n t true d h = h
shaped_array n t false d h = h

-- the layout of a compact asks nothing of the definition
shaped_compact : (o : Option Target) (d : Option TypeDef) → Shaped (compact_layout o) d
shaped_compact (Some m) d = tt
shaped_compact None d = tt

-- the layout of a bit sequence asks nothing of the definition
shaped_bits : (o : Option BitForm) (d : Option TypeDef) → Shaped (bits_layout o) d
shaped_bits (Some bits) d = tt
shaped_bits None d = tt

-- the layout by a definition agrees with it on width, arms, and whether it is a sequence
shaped_sized : (r : List TypeInfo) (d : TypeDef) → Shaped (sized_layout r d) (Some d)
shaped_sized r (Def.Composite fs) = tt
shaped_sized r (Def.Variant as') = refl
shaped_sized r (Def.Sequence t) = shaped_sequence t.0 (is_empty r t.0) (is_byte (shape r t.0))
    (Some (Def.Sequence t)) refl
shaped_sized r (Def.Array n t) =
    shaped_array n t.0 (is_byte (shape r t.0)) (Some (Def.Array n t)) refl
shaped_sized r (Def.Tuple ts) = tt
shaped_sized r (Def.Primitive p) = shaped_kind (kind_of p) (Some (Def.Primitive p)) refl
shaped_sized r (Def.Compact t) = shaped_compact (target_of r t.0) (Some (Def.Compact t))
shaped_sized r (Def.BitSequence store order bits) =
    shaped_bits bits (Some (Def.BitSequence store order bits))

-- the same for a type that takes no bytes, and where no such type is known
shaped_from : (r : List TypeInfo) (e : Bool) (d : Option TypeDef) → Shaped (layout_of_shape r e d) d
shaped_from r true d = tt
shaped_from r false (Some d) = shaped_sized r d
shaped_from r false None = tt

-- the layout of a type agrees with its definition on width, arms, and whether it is a sequence
shaped : (r : List TypeInfo) (t : ℕ) → Shaped (layout r t) (shape r t)
unfolding layout
shaped r t = shaped_from r (is_empty r t) (shape r t)

-- the same, where the layout is known by an equation
shaped_at : (r : List TypeInfo) (t : ℕ) (f : Layout) → layout r t ≡ f → Shaped f (shape r t)
shaped_at r t f e = subst (λ (g : Layout). Shaped g (shape r t)) e (shaped r t)

-- ---- integers in two's complement

-- what stands above k bytes is not in them
le_bytes-above : (k n q : ℕ) → le_bytes k (n + 256 ^ k * q) ≡ le_bytes k n
le_bytes-above zero n q = refl
le_bytes-above (suc k) n q =
    let big : 256 ^ suc k * q ≡ 256 * (256 ^ k * q) = rw (pow-suc 256 k) (omega arith) in
    let low : (n + 256 ^ suc k * q) % 256 ≡ n % 256 = omega (arith, big) in
    let high : (n + 256 ^ suc k * q) / 256 ≡ n / 256 + 256 ^ k * q = omega (arith, big) in
    rw (low, high, le_bytes-above k (n / 256) q) refl

-- a power of 256 is above 0
pow-pos : (k : ℕ) → 0 < 256 ^ k
pow-pos zero = omega arith
pow-pos (suc k) = rw (pow-suc 256 k) (omega (arith, pow-pos k))

-- a product by a number above 0 is the one by a number less by 1, and the other factor once more
mul-pred : (m n : ℕ) → 0 < n → m * n ≡ m * (n - 1) + m
mul-pred m n h =
    let is : n ≡ n - 1 + 1 = omega arith in
    ap (λ (x : ℕ). m * x) is ∙ mul-add m (n - 1) 1 ∙ omega arith

-- k bytes that spell an integer are those of its 128 bits
signed_by : (b : List ℕ) (c : Bool) (range : ℕ) → AreBytes b → length b ≤ 16 →
    range ≡ 256 ^ length b →
    le_bytes (length b) (word (cond c (pos (number b)) (neg_ℤ (pos (range - number b))))) ≡ b
signed_by b true range h small is = le_bytes-number b h
signed_by b false range h small is =
    let k = length b in
    let n = number b in
    let less : n < range = rw is (number-bound b h) in
    let above : ℕ = 256 ^ (16 - k) in
    let sixteen : k + (16 - k) ≡ 16 = omega arith in
    let whole : range * above ≡ 2 ^ 128 = ap (λ (x : ℕ). x * above) is
    ∙ sym (pow-add 256 k (16 - k)) ∙ ap (λ (x : ℕ). 256 ^ x) sixteen in
    let some : 0 < above = pow-pos (16 - k) in
    let split : range * above ≡ range * (above - 1) + range = mul-pred range above some in
    let spelled : word (neg_ℤ (pos (range - n))) ≡ n + range * (above - 1) =
    ap word (neg-pos (range - n) (omega arith)) ∙ omega (arith, whole, split, less) in
    ap (le_bytes k) (spelled ∙ ap (λ (x : ℕ). n + x * (above - 1)) is)
    ∙ le_bytes-above k n (above - 1) ∙ le_bytes-number b h

-- up to 16 bytes that spell a signed integer are as many of its word's, the lowest first
signed_bytes_are : (k : ℕ) (z : ℤ) (b : List ℕ) → AreBytes b → k ≤ 16 → length b ≡ k →
    signed_number b ≡ z → le_bytes k (word z) ≡ b
signed_bytes_are k z b h small len e =
    ap (λ (x : ℕ). le_bytes x (word z)) (sym len)
    ∙ ap (λ (y : ℤ). le_bytes (length b) (word y)) (sym e)
    ∙ signed_by b (nat_lt (2 * number b) (256 ^ length b)) (256 ^ length b) h (omega (arith, len))
    refl

-- bytes that spell an unsigned integer are its own, the lowest first
unsigned_bytes_are : (k n : ℕ) (b : List ℕ) → AreBytes b → length b ≡ k → number b ≡ n →
    le_bytes k n ≡ b
unsigned_bytes_are k n b h len e = ap (λ (x : ℕ). le_bytes x n) (sym len)
    ∙ ap (le_bytes (length b)) (sym e) ∙ le_bytes-number b h

-- ---- a compact integer is no value without bytes

-- what spells a compact integer of a type laid out so is the compact spelling of the number
compact_is : (r : List TypeInfo) (t : ℕ) (m : Target) (x : ℕ) (b : List ℕ) →
    layout r t ≡ layout.plain (layout.compact m) → IsCompact m x b → compact x ≡ b
compact_is r t target.Unit x b e h =
    let empty = layout_empty r t
    (empty_class r t (known_at r t (layout.plain (layout.compact target.Unit)) e refl)) in
    let no = sym empty ∙ e in absurd cc
compact_is r t _ x b e h = sym h.1

-- ---- the index of an arm

-- the arm at the position that is found for an index has this index as its byte
index_at : (arms : List Arm) (i q : ℕ) (a : Arm) → arm_of arms i ≡ Some (q, a) →
    index_byte (index_of (Some (Def.Variant arms)) q) ≡ i ∷ []
index_at arms i q a e =
    let s = (arm_is_first arms i q a).0 e in
    rw (arm_position arms i q a e) (ap (λ (x : ℕ). x ∷ []) s.4)

-- ---- what stands before children

-- where a type is laid out by arms, its definition reports the index of the arm that is found
pub arm_byte : (r : List TypeInfo) (t : ℕ) (arms : List Arm) (i q : ℕ) (a : Arm) →
    layout r t ≡ layout.arms arms → arm_of arms i ≡ Some (q, a) →
    index_byte (index_of (shape r t) q) ≡ i ∷ []
arm_byte r t arms i q a e h =
    ap (λ (d : Option TypeDef). index_byte (index_of d q)) (shaped_at r t (layout.arms arms) e)
    ∙ index_at arms i q a h

-- the elements of what is laid out as an array have no length before them
pub array_length : (r : List TypeInfo) (t n u k : ℕ) → layout r t ≡ layout.array n u →
    length_bytes (shape r t) k ≡ []
array_length r t n u k e = rw (shaped_at r t (layout.array n u) e) refl

-- the elements of what is laid out as a sequence have their compact length before them
pub sequence_length : (r : List TypeInfo) (t u k : ℕ) → layout r t ≡ layout.sequence u →
    length_bytes (shape r t) k ≡ compact k
sequence_length r t u k e = rw (shaped_at r t (layout.sequence u) e) refl

-- the bytes of a run by itself are its own after those that may stand before so many
run_spelling : (r : List TypeInfo) (t : ℕ) (k : RunKind) (n : ℕ) (s c : List ℕ) →
    layout r t ≡ layout.plain (layout.run k) → IsRunLength k n c → length s ≡ run_bytes k n →
    leaf_spelling (shape r t) (run_leaf k (n, s)) ≡ c ++ s
run_spelling r t kind.Text n s c e h len = rw (len, h.1) refl
run_spelling r t kind.Bytes n s c e h len =
    rw (shaped_at r t (layout.plain (layout.run kind.Bytes)) e, len, h.1) refl
run_spelling r t (kind.ByteArray k) n s c e h len =
    rw (shaped_at r t (layout.plain (layout.run (kind.ByteArray k))) e, h.1) refl
run_spelling r t (kind.Bits f) n s c e h len = rw h.1 refl

-- ---- all nodes

-- the bytes of a leaf by itself are those that spell it
leaf_spells : (r : List TypeInfo) (t : ℕ) (p : Plain) (l : Leaf) (b : List ℕ) → AreBytes b →
    layout r t ≡ layout.plain p → SpelledBy (way_of p) l b → leaf_spelling (shape r t) l ++ [] ≡ b
leaf_spells r t layout.empty l b a e h = rw (h.0, h.1) refl
leaf_spells r t layout.bool l b a e h = rw h.1 (sym (bool_is b h.2))
leaf_spells r t layout.char l b a e h = rw h.1 (unsigned_bytes_are 4 (number b) b a h.0 refl)
leaf_spells r t (layout.run k) l b a e h =
    rw h.1 (append-nil (leaf_spelling (shape r t) (run_leaf k h.0))
    ∙ run_spelling r t k h.0.0 h.0.1 h.2.0 e h.2.1 h.2.2 ∙ sym h.2.4)
leaf_spells r t (layout.unsigned k) l b a e h =
    rw (h.1, append-nil, shaped_at r t (layout.plain (layout.unsigned k)) e)
    (unsigned_bytes_are k (number b) b a h.0 refl)
leaf_spells r t (layout.signed k) l b a e h =
    let s = shaped_at r t (layout.plain (layout.signed k)) e in
    rw (h.1, append-nil, s.0) (signed_bytes_are k (signed_number b) b a s.1 h.0 refl)
leaf_spells r t layout.wide l b a e h = rw h.1 (append-nil b)
leaf_spells r t layout.counted l b a e h = rw h.1 (append-nil (compact h.0) ∙ sym h.2.1)
leaf_spells r t (layout.compact m) l b a e h =
    rw h.1 (append-nil (compact h.0) ∙ compact_is r t m h.0 b e h.2)

mutual
  unfolding Val

  pub spells : (r : List TypeInfo) (t : ℕ) (v : Tree) (b : List ℕ) → AreBytes b → Val r t v b →
      spelled r t v ≡ b
  spells r t (leaf l) b p h = leaf_spells r t h.0 l b p h.1 h.2
  spells r t (branch fields vs) b p h = rw h.1 (spells_vals r h.0 vs b p h.2)
  spells r t (branch (arm q) vs) b p h =
      let first = arm_byte r t h.0 h.1 q h.2 h.4 h.5 in
      let rest = spells_vals r (field_types h.2.fields) vs h.3 (subst AreBytes h.6 p).1 h.7 in
      rw (first, h.4, arm_position h.0 h.1 q h.2 h.5, rest) (sym h.6)
  spells r t (branch list vs) b p (inl h) =
      rw (shaped_at r t (layout.array h.0 h.1) h.2, h.2) (spells_each r h.1 vs b p h.4)
  spells r t (branch list vs) b p (inr h) =
      let rest = spells_each r h.0 vs h.2 (rest_bytes h.1 h.2 (rw (← h.5) p)) h.6 in
      rw (shaped_at r t (layout.sequence h.0) h.3, h.3, rest)
      (ap (λ (x : List ℕ). x ++ h.2) (sym h.4.1) ∙ sym h.5)

  pub spells_vals : (r : List TypeInfo) (ts : List ℕ) (vs : Trees) (b : List ℕ) → AreBytes b →
      Vals r ts vs b → flat_map (cell_bytes r) (all_cells r (each ts) vs) ≡ b
  spells_vals r [] none b p h = sym h
  spells_vals r (t ∷ ts) none b p h = absurd h
  spells_vals r [] (and v vs) b p h = absurd h
  spells_vals r (t ∷ ts) (and v vs) b p h =
      let q : AreBytes (h.0 ++ h.1) = rw (← h.2) p in
      flat_map-append (cell_bytes r) (cells r t v) (all_cells r (each ts) vs)
      ∙ rw (
        spells r t v h.0 (front_bytes h.0 h.1 q) h.3,
        spells_vals r ts vs h.1 (rest_bytes h.0 h.1 q) h.4,
      ) (sym h.2)

  pub spells_each : (r : List TypeInfo) (t : ℕ) (vs : Trees) (b : List ℕ) → AreBytes b →
      Each r t vs b → flat_map (cell_bytes r) (all_cells r (times (how_many vs) t) vs) ≡ b
  spells_each r t none b p h = sym h
  spells_each r t (and v vs) b p h =
      let q : AreBytes (h.0 ++ h.1) = rw (← h.2) p in
      flat_map-append (cell_bytes r) (cells r t v) (all_cells r (times (how_many vs) t) vs)
      ∙ rw (
        spells r t v h.0 (front_bytes h.0 h.1 q) h.3,
        spells_each r t vs h.1 (rest_bytes h.0 h.1 q) h.4,
      ) (sym h.2)

-- bytes that spell a value by the grammar are those of its nodes, one after the other
pub encoded_is_value : EncodedIsValue
encoded_is_value = spells

-- so two lists of bytes that spell the same value of a type are the same
pub one_spelling_of : OneSpelling
one_spelling_of r t v a b p q h k = sym (spells r t v a p h) ∙ spells r t v b q k

-- a branch by itself spells its own bytes
pub branch_own : (r : List TypeInfo) (t : ℕ) (kind : Branch) (c : List ℕ) (p : Part) →
    BranchOpens (layout r t) kind c p →
    own_bytes (shape r t) (head.branch kind (how_many_left p)) ≡ c
branch_own r t tree.fields c p h = sym h.2
branch_own r t (tree.arm q) c p h = arm_byte r t h.0 h.1 q h.2 h.3 h.4 ∙ sym h.5
branch_own r t tree.list c p h = elim h.2 [
  | inl a ↦ array_length r t h.0 h.1 (how_many_left p) a.0 ∙ sym a.1
  | inr s ↦ sequence_length r t h.1 (how_many_left p) s.0 ∙ rw h.3 (sym s.1.1)
]
