-- The nodes of a value fit their types: signed integers have at most 128 bits, and bit sequences as
-- many bytes as their words.
use Rattle.std.proofs.Common.{◌≡◌, ℕ, ◌^◌, ◌≤◌, Bool, true, false, List, [], ◌∷◌, ◌++◌}
use Rattle.std.proofs.Common.{length, Option, Some, None, sym, subst, arith, refl, ◌∙◌}
use Rattle.std.specs.Prelude.{ℤ, pos, negsuc, FitsSigned}
use Rattle.std.specs.Int.{w128}
use Rattle.std.proofs.Math.Nat.{pow-le-pow_right}
use Rattle.widths_core.specs.declared.run_kind.RunKind.{RunKind}
use Rattle.widths_core.specs.declared.run_kind.RunKind.TheVariants as kind
use Rattle.grammar_core.specs.Runs.{run_leaf}
use Rattle.scale_core.specs.Laws.{FitsSigned as FitsBytes}
use Rattle.scale_core.specs.Number.{AreBytes, signed_number}
use Rattle.scale_core.specs.declared.compact.Target.{Target}
use Rattle.scale_core.proofs.Numbers.{signed_is_spelled}
use Rattle.types_core.specs.Kinds.{kind_of}
use Rattle.types_core.specs.declared.kind.PrimitiveKind.{PrimitiveKind}
use Rattle.types_core.specs.declared.kind.PrimitiveKind.TheVariants as K
use Rattle.types_core.specs.declared.definition.TypeDef.{TypeDef}
use Rattle.types_core.specs.declared.definition.TypeDef.TheVariants as Def
use Rattle.types_core.specs.declared.type_info.TypeInfo.{TypeInfo}
use Rattle.types_core.proofs.Widths.{width_most}
use Rattle.graph_core.specs.Types.{shape}
use Rattle.widths_core.specs.Classes.{is_empty}
use Rattle.widths_core.specs.Targets.{target_of}
use Rattle.widths_core.specs.Layouts.{Layout, Plain, array_layout, compact_layout, is_byte}
use Rattle.widths_core.specs.Layouts.{kind_layout, layout, layout_of_shape, sequence_layout}
use Rattle.widths_core.specs.Layouts.{sized_layout}
use Rattle.widths_core.specs.Layouts as layout
use Rattle.grammar_core.specs.Grammar.{Val}
use Rattle.grammar_core.specs.Cells.{Cell, all_cells, cells, child_type, part_of}
use Rattle.grammar_core.specs.Parts.{Part, left_after}
use Rattle.node_core.specs.Shown.{AreValues}
use Rattle.node_core.proofs.Below.{children_are}
use Rattle.grammar_core.specs.Preorder as head
use Rattle.grammar_core.specs.Preorder.{Head}
use Rattle.grammar_core.specs.Tree.{Leaf, Tree, Trees, and, arm, branch, fields, how_many, leaf}
use Rattle.grammar_core.specs.Tree.{list, none}
use Rattle.types_core.specs.Bits.{bits_bytes}
use Rattle.widths_core.specs.RunBytes.{run_bytes}
use Rattle.record_core.specs.Records.{words_len}
use Rattle.grammar_core.specs.Tree as tree
use Rattle.grammar_core.specs.Ways.{SpelledBy, way_of}

-- what a leaf of a type of this definition is: a signed integer of at most 128 bits, a bit sequence
-- with as many bytes as its words have, or any other
abbrev FitsLeaf : Option TypeDef → Leaf → Type 0
FitsLeaf d (tree.signed z) = FitsSigned w128 z
FitsLeaf d (tree.bits n s) = length s ≡ words_len d n
FitsLeaf d _ = Unit {0}

-- the same of a node
abbrev pub FitsHead : Option TypeDef → Head → Type 0
FitsHead d (head.leaf l) = FitsLeaf d l
FitsHead d (head.branch k n) = Unit {0}

abbrev pub CellsFit : List TypeInfo → List Cell → Type 0
CellsFit r [] = Unit {0}
CellsFit r (c ∷ cs) = FitsHead (shape r c.ty) c.head × CellsFit r cs

-- ---- the layout of a definition

-- in a layout a signed integer has at most sixteen bytes, and bits stand in the definition's words
abbrev FitsShape : Option TypeDef → Layout → Type 0
FitsShape d (layout.plain (layout.signed k)) = k ≤ 16
FitsShape d (layout.plain (layout.run (kind.Bits f))) = (n : ℕ) → bits_bytes f n ≡ words_len d n
FitsShape d _ = Unit {0}

-- the layout of a primitive
kind_fits : (d : Option TypeDef) (k : PrimitiveKind) → FitsShape d (kind_layout k)
kind_fits d (K.Signed w) = width_most w
kind_fits d _ = tt

-- a sequence has no layout of these
sequence_fits : (d : Option TypeDef) (t : ℕ) (e byte : Bool) →
    FitsShape d (sequence_layout t e byte)
sequence_fits d t true byte = tt
sequence_fits d t false true = tt
sequence_fits d t false false = tt

-- nor has an array
array_fits : (d : Option TypeDef) (n t : ℕ) (byte : Bool) → FitsShape d (array_layout n t byte)
array_fits d n t true = tt
array_fits d n t false = tt

-- nor has a compact
compact_fits : (d : Option TypeDef) (o : Option Target) → FitsShape d (compact_layout o)
compact_fits d (Some m) = tt
compact_fits d None = tt

-- the layout by a definition
sized_fits : (r : List TypeInfo) (d : TypeDef) → FitsShape (Some d) (sized_layout r d)
sized_fits r (Def.Composite fs) = tt
sized_fits r (Def.Variant as') = tt
sized_fits r (Def.Sequence t) =
    sequence_fits (Some (Def.Sequence t)) t.0 (is_empty r t.0) (is_byte (shape r t.0))
sized_fits r (Def.Array n t) = array_fits (Some (Def.Array n t)) n t.0 (is_byte (shape r t.0))
sized_fits r (Def.Tuple ts) = tt
sized_fits r (Def.Primitive p) = kind_fits (Some (Def.Primitive p)) (kind_of p)
sized_fits r (Def.Compact t) = compact_fits (Some (Def.Compact t)) (target_of r t.0)
sized_fits r (Def.BitSequence store order (Some f)) = λ (n : ℕ). refl
sized_fits r (Def.BitSequence store order None) = tt

-- the same of any type
shape_fits : (r : List TypeInfo) (e : Bool) (d : Option TypeDef) →
    FitsShape d (layout_of_shape r e d)
shape_fits r true d = tt
shape_fits r false (Some d) = sized_fits r d
shape_fits r false None = tt

-- and by position
layout_fits : (r : List TypeInfo) (t : ℕ) → FitsShape (shape r t) (layout r t)
unfolding layout
layout_fits r t = shape_fits r (is_empty r t) (shape r t)

-- ---- the integer that the bytes spell

-- a power of 256 is at most the sixteenth where its exponent is at most sixteen
sixteen_most : (k : ℕ) → k ≤ 16 → 256 ^ k ≤ 2 ^ 128
sixteen_most k h = pow-le-pow_right {n = 256} (omega arith) {i = k} {j = 16} h

-- an integer that fits at most sixteen bytes fits 128 bits
fits_more : (k : ℕ) (z : ℤ) → k ≤ 16 → FitsBytes k z → FitsSigned w128 z
fits_more k (pos n) small h = omega (arith, sixteen_most k small, h)
fits_more k (negsuc n) small h = omega (arith, sixteen_most k small, h)

-- a run of words has the bytes of its bits
run_fits : (d : Option TypeDef) (k : RunKind) (n : ℕ) (s : List ℕ) →
    FitsShape d (layout.plain (layout.run k)) → length s ≡ run_bytes k n →
    FitsLeaf d (run_leaf k (n, s))
run_fits d kind.Text n s fits e = tt
run_fits d kind.Bytes n s fits e = tt
run_fits d (kind.ByteArray k) n s fits e = tt
run_fits d (kind.Bits f) n s fits e = e ∙ fits n

-- a leaf that its bytes spell fits its type
leaf_fits : (d : Option TypeDef) (p : Plain) (l : Leaf) (b : List ℕ) → AreBytes b →
    FitsShape d (layout.plain p) → SpelledBy (way_of p) l b → FitsLeaf d l
leaf_fits d (layout.signed k) l b a fits h =
    subst (FitsLeaf d) (sym h.1) (fits_more (length b) (signed_number b)
    (subst (λ (n : ℕ). n ≤ 16) (sym h.0) fits) (signed_is_spelled.read b a).0)
leaf_fits d (layout.run k) l b a fits h = subst (FitsLeaf d) (sym h.1)
    (run_fits d k h.0.0 h.0.1 fits h.2.2)
leaf_fits d layout.empty l b a fits h = subst (FitsLeaf d) (sym h.0) tt
leaf_fits d layout.bool l b a fits h = subst (FitsLeaf d) (sym h.1) tt
leaf_fits d layout.char l b a fits h = subst (FitsLeaf d) (sym h.1) tt
leaf_fits d (layout.unsigned k) l b a fits h = subst (FitsLeaf d) (sym h.1) tt
leaf_fits d layout.wide l b a fits h = subst (FitsLeaf d) (sym h.1) tt
leaf_fits d layout.counted l b a fits h = subst (FitsLeaf d) (sym h.1) tt
leaf_fits d (layout.compact m) l b a fits h = subst (FitsLeaf d) (sym h.1) tt

-- ---- a value

-- nodes that fit stay so when they are joined
cells_append : (r : List TypeInfo) (as' bs : List Cell) → CellsFit r as' → CellsFit r bs →
    CellsFit r (as' ++ bs)
cells_append r [] bs f g = g
cells_append r (a ∷ as') bs f g = (f.0, cells_append r as' bs f.1 g)

mutual
  unfolding Val

  -- the nodes of a value fit their types
  pub cells_fit : (r : List TypeInfo) (t : ℕ) (v : Tree) (b : List ℕ) → AreBytes b →
      Val r t v b → CellsFit r (cells r t v)
  cells_fit r t (leaf l) b a h =
      let fits = subst (FitsShape (shape r t)) h.1 (layout_fits r t) in
      (leaf_fits (shape r t) h.0 l b a fits h.2, tt)
  cells_fit r t (branch k vs) b a h = (
    tt,
    all_fit r (part_of (layout r t) k (how_many vs)) vs
        (children_are r t (branch k vs) b a h),
  )

  all_fit : (r : List TypeInfo) (p : Part) (vs : Trees) → AreValues r p vs →
      CellsFit r (all_cells r p vs)
  all_fit r p none h = tt
  all_fit r p (and v vs) h =
      cells_append r (cells r (child_type p) v) (all_cells r (left_after p) vs)
      (cells_fit r (child_type p) v h.0.0 h.0.1 h.0.2) (all_fit r (left_after p) vs h.1)
