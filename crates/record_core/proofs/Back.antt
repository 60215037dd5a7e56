-- The records of a value, read back, are its tree.
use Rattle.std.proofs.Common.{◌≡◌, ℕ, ◌+◌, ◌-◌, ◌*◌, ◌/◌, ◌%◌, ◌^◌, List, [], ◌∷◌, ◌++◌, length}
use Rattle.std.proofs.Common.{map}
use Rattle.std.proofs.Common.{take, drop, refl, sym, ap, ◌∙◌, arith, append_assoc, true, false}
use Rattle.std.proofs.Common.{length-append, slice_range}
use Rattle.std.specs.Prelude.{ℤ}
use Rattle.std.specs.Int.{w128, cast_unsigned}
use Rattle.std.proofs.Math.Seq.{take-append_seam, drop-append_seam}
use Rattle.types_core.specs.declared.type_info.TypeInfo.{TypeInfo}
use Rattle.graph_core.specs.Types.{shape}
use Rattle.grammar_core.specs.Cells.{Cell}
use Rattle.grammar_core.specs.Preorder as head
use Rattle.grammar_core.specs.Preorder.{Head, tree_of, tree_of-preorder}
use Rattle.grammar_core.specs.Tree as tree
use Rattle.node_core.specs.Shown.{signed_from}
use Rattle.node_core.proofs.CellsOf.{cells_preorder}
use Rattle.node_core.proofs.Words.{signed_same}
use Rattle.record_core.specs.Records.{RecordsAreTree, record_head, nodes_of, head_pool_bytes}
use Rattle.record_core.specs.Records.{pool_of}
use Rattle.record_core.specs.Records.{record_of, records_from}
use Rattle.record_core.proofs.Fitting.{CellsFit, FitsHead, cells_fit}

-- ---- one node

-- what stands between a front and a rest
between_is : (front s rest : List ℕ) (at : ℕ) → at ≡ length front →
    slice_range (front ++ (s ++ rest)) at (at + length s) ≡ s
between_is front s rest at e =
    let long : at + length s - at ≡ length s = omega arith in
    ap (λ (k : ℕ). take k (drop at (front ++ (s ++ rest)))) long
    ∙ ap (λ (k : ℕ). take (length s) (drop k (front ++ (s ++ rest)))) e
    ∙ ap (take (length s)) (drop-append_seam front (s ++ rest))
    ∙ take-append_seam s rest

-- the halves of a number are the number
halves_are : (n : ℕ) → n % 2 ^ 64 + 2 ^ 64 * (n / 2 ^ 64) ≡ n
halves_are n = omega arith

-- a node is read back from its record, where its bytes stand in the pool
head_back : (r : List TypeInfo) (front rest : List ℕ) (at : ℕ) (c : Cell) → at ≡ length front →
    FitsHead (shape r c.ty) c.head →
    record_head r (front ++ (head_pool_bytes c.head ++ rest)) (record_of at c) ≡ c.head
head_back r front rest at c e fits = by c.head fits where
  by : (h : Head) → FitsHead (shape r c.ty) h → record_head r (front ++ (head_pool_bytes h ++ rest))
      (record_of at (record { ty = c.ty; head = h; size = c.size })) ≡ h
  by (head.leaf tree.unit) f = refl
  by (head.leaf (tree.bool true)) f = refl
  by (head.leaf (tree.bool false)) f = refl
  by (head.leaf (tree.char x)) f = refl
  by (head.leaf (tree.unsigned n)) f =
      ap (λ (k : ℕ). head.leaf (tree.unsigned k)) (halves_are n)
  by (head.leaf (tree.signed z)) f = ap (λ (y : ℤ). head.leaf (tree.signed y))
      (ap signed_from (halves_are (cast_unsigned w128 z)) ∙ signed_same z f)
  by (head.leaf (tree.compact n)) f =
      ap (λ (k : ℕ). head.leaf (tree.compact k)) (halves_are n)
  by (head.leaf (tree.count n)) f = refl
  by (head.leaf (tree.text s)) f =
      ap (λ (x : List ℕ). head.leaf (tree.text x)) (between_is front s rest at e)
  by (head.leaf (tree.bytes s)) f =
      ap (λ (x : List ℕ). head.leaf (tree.bytes x)) (between_is front s rest at e)
  by (head.leaf (tree.wide s)) f =
      ap (λ (x : List ℕ). head.leaf (tree.wide x)) (between_is front s rest at e)
  by (head.leaf (tree.bits n s)) f = ap (λ (x : List ℕ). head.leaf (tree.bits n x))
      (ap (λ (k : ℕ). slice_range (front ++ (s ++ rest)) at (at + k)) (sym f)
      ∙ between_is front s rest at e)
  by (head.branch tree.fields n) f = refl
  by (head.branch (tree.arm q) n) f = refl
  by (head.branch tree.list n) f = refl

-- ---- all nodes

abbrev bare : List Cell → List Head
bare cs = map (λ (c : Cell). c.head) cs

-- all nodes are read back from their records, after what stands in front of their bytes
heads_back : (r : List TypeInfo) (front : List ℕ) (at : ℕ) (cs : List Cell) →
    at ≡ length front → CellsFit r cs →
    map (record_head r (front ++ pool_of cs)) (records_from at cs) ≡ bare cs
heads_back r front at [] e f = refl
heads_back r front at (c ∷ cs) e f =
    let own = head_pool_bytes c.head in
    let again : front ++ (own ++ pool_of cs) ≡ (front ++ own) ++ pool_of cs =
    sym (append_assoc front own (pool_of cs)) in
    let long : at + length own ≡ length (front ++ own) =
    omega (arith, e, length-append front own) in
    ap (λ (h : Head). h ∷ map (record_head r (front ++ (own ++ pool_of cs)))
    (records_from (at + length own) cs)) (head_back r front (pool_of cs) at c e f.0)
    ∙ ap (λ (hs : List Head). c.head ∷ hs)
    (ap (λ (pool : List ℕ). map (record_head r pool) (records_from (at + length own) cs)) again
    ∙ heads_back r (front ++ own) (at + length own) cs long f.1)

-- the records of a value and its pool, read back, are its tree
pub records_are_tree : RecordsAreTree
records_are_tree v h =
    ap tree_of (heads_back v.types [] 0 (nodes_of v) refl
    (cells_fit v.types v.ty v.tree h.0 h.1 h.2) ∙ cells_preorder v.types v.ty v.tree)
    ∙ tree_of-preorder v.tree
