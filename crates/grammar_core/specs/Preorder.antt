-- A tree as the list of its nodes in preorder, each with its number of children.
use Rattle.std.specs.Prelude.{◌≡◌, ℕ, zero, suc, ◌≤◌, ℤ, pos, List, [], ◌∷◌, ◌++◌, length, true}
use Rattle.std.specs.Prelude.{refl, if◌then◌else◌, ◌==◌}
use Rattle.std.specs.Coded.{Coded, code_by, coded×, coded_ℕ, coded_ℤ, coded_list}
use Rattle.std.proofs.Common.{arith, append_assoc, ap, sym, ◌∙◌, length-append}
use Rattle.std.proofs.lemmas.List.{append-nil}
use Rattle.grammar_core.specs.Tree as tree
use Rattle.grammar_core.specs.Tree.{Leaf, Branch, Tree, Trees, none, and, how_many, levels}
use Rattle.grammar_core.specs.Tree.{most_levels}

-- a node without its children: what it is, and how many children it has or will have
pub data Head : Type 0 where
  leaf : Leaf → Head
  branch : Branch → ℕ → Head

abbrev pub head_of : Tree → Head
head_of (tree.leaf l) = leaf l
head_of (tree.branch k vs) = branch k (how_many vs)

abbrev pub child_count : Head → ℕ
child_count (leaf l) = 0
child_count (branch k n) = n

-- the tree of a node with these children
abbrev pub tree_with : Head → Trees → Tree
tree_with (leaf l) vs = tree.leaf l
tree_with (branch k n) vs = tree.branch k vs

abbrev mutual
  pub preorder : Tree → List Head
  preorder (tree.leaf l) = leaf l ∷ []
  preorder (tree.branch k vs) = branch k (how_many vs) ∷ all_preorder vs

  pub all_preorder : Trees → List Head
  all_preorder none = []
  all_preorder (and v vs) = preorder v ++ all_preorder vs

-- n trees, each grown by the function `one`
abbrev pub many : (List Head → Tree × List Head) → ℕ → List Head → Trees × List Head
many one zero hs = (none, hs)
many one (suc n) hs = let v = one hs in let vs = many one n v.1 in (and v.0 vs.0, vs.1)

abbrev pub grown : Head → Trees × List Head → Tree × List Head
grown h vs = (tree_with h vs.0, vs.1)

-- the tree at the front of the list, of at most so many levels, and the nodes after it
abbrev pub grow : ℕ → List Head → Tree × List Head
grow zero hs = (tree.leaf tree.unit, hs)
grow (suc k) [] = (tree.leaf tree.unit, [])
grow (suc k) (h ∷ hs) = grown h (many (grow k) (child_count h) hs)

abbrev pub tree_of : List Head → Tree
tree_of hs = (grow (length hs) hs).0

pub levels-pos : (v : Tree) → 1 ≤ levels v
levels-pos (tree.leaf l) = omega arith
levels-pos (tree.branch k vs) = omega arith

mutual
  levels-le : (v : Tree) → levels v ≤ length (preorder v)
  levels-le (tree.leaf l) = omega arith
  levels-le (tree.branch k vs) = omega (arith, most_levels-le vs)

  most_levels-le : (vs : Trees) → most_levels vs ≤ length (all_preorder vs)
  most_levels-le none = omega arith
  most_levels-le (and v vs) =
      omega (arith, levels-le v, most_levels-le vs, length-append (preorder v) (all_preorder vs))

mutual
  pub grow-preorder : (v : Tree) (k : ℕ) (rest : List Head) → levels v ≤ k →
      grow k (preorder v ++ rest) ≡ (v, rest)
  grow-preorder v zero rest h = absurd (omega (arith, levels-pos v))
  grow-preorder (tree.leaf l) (suc k) rest h = refl
  grow-preorder (tree.branch b vs) (suc k) rest h =
      ap (grown (branch b (how_many vs))) (many-preorder vs k rest (omega arith))

  pub many-preorder : (vs : Trees) (k : ℕ) (rest : List Head) → most_levels vs ≤ k →
      many (grow k) (how_many vs) (all_preorder vs ++ rest) ≡ (vs, rest)
  many-preorder none k rest h = refl
  many-preorder (and v vs) k rest h =
      rw (
        append_assoc,
        grow-preorder v k (all_preorder vs ++ rest) (omega arith),
        many-preorder vs k rest (omega arith),
      ) refl

pub tree_of-preorder : (v : Tree) → tree_of (preorder v) ≡ v
tree_of-preorder v = ap (λ (hs : List Head). (grow (length (preorder v)) hs).0)
    (sym (append-nil (preorder v)))
    ∙ ap (λ (p : Tree × List Head). p.0) (grow-preorder v (length (preorder v)) [] (levels-le v))

-- ---- how contracts store a tree: as its nodes, each by the number of its form, two numbers, an
-- integer and bytes

abbrev Stored : Type 0
Stored = ℕ × (ℕ × (ℕ × (ℤ × List ℕ)))

abbrev stored : Head → Stored
stored (leaf tree.unit) = (0, (0, (0, (pos 0, []))))
stored (leaf (tree.bool b)) = (1, ((if b then 1 else 0), (0, (pos 0, []))))
stored (leaf (tree.char c)) = (2, (c, (0, (pos 0, []))))
stored (leaf (tree.text s)) = (3, (0, (0, (pos 0, s))))
stored (leaf (tree.bytes s)) = (4, (0, (0, (pos 0, s))))
stored (leaf (tree.unsigned n)) = (5, (n, (0, (pos 0, []))))
stored (leaf (tree.signed z)) = (6, (0, (0, (z, []))))
stored (leaf (tree.wide s)) = (7, (0, (0, (pos 0, s))))
stored (leaf (tree.compact n)) = (8, (n, (0, (pos 0, []))))
stored (leaf (tree.count n)) = (9, (n, (0, (pos 0, []))))
stored (branch tree.fields n) = (10, (n, (0, (pos 0, []))))
stored (branch (tree.arm q) n) = (11, (q, (n, (pos 0, []))))
stored (branch tree.list n) = (12, (n, (0, (pos 0, []))))
stored (leaf (tree.bits n s)) = (13, (n, (0, (pos 0, s))))

abbrev head_by_mark : ℕ → ℕ → ℕ → ℤ → List ℕ → Head
head_by_mark zero n m z s = leaf tree.unit
head_by_mark (suc zero) n m z s = leaf (tree.bool (n == 1))
head_by_mark (suc (suc zero)) n m z s = leaf (tree.char n)
head_by_mark (suc (suc (suc zero))) n m z s = leaf (tree.text s)
head_by_mark (suc (suc (suc (suc zero)))) n m z s = leaf (tree.bytes s)
head_by_mark (suc (suc (suc (suc (suc zero))))) n m z s = leaf (tree.unsigned n)
head_by_mark (suc (suc (suc (suc (suc (suc zero)))))) n m z s = leaf (tree.signed z)
head_by_mark (suc (suc (suc (suc (suc (suc (suc zero))))))) n m z s = leaf (tree.wide s)
head_by_mark (suc (suc (suc (suc (suc (suc (suc (suc zero)))))))) n m z s = leaf (tree.compact n)
head_by_mark (suc (suc (suc (suc (suc (suc (suc (suc (suc zero))))))))) n m z s =
    leaf (tree.count n)
head_by_mark (suc (suc (suc (suc (suc (suc (suc (suc (suc (suc zero)))))))))) n m z s =
    branch tree.fields n
head_by_mark (suc (suc (suc (suc (suc (suc (suc (suc (suc (suc (suc zero))))))))))) n m z s =
    branch (tree.arm n) m
head_by_mark (suc (suc (suc (suc (suc (suc (suc (suc (suc (suc (suc (suc zero)))))))))))) n m z s =
    branch tree.list n
head_by_mark (suc (suc (suc (suc (suc (suc (suc (suc (suc (suc (suc (suc (suc k))))))))))))) n m z
    s =
    leaf (tree.bits n s)

abbrev head_from : Stored → Head
head_from x = head_by_mark x.0 x.1.0 x.1.1.0 x.1.1.1.0 x.1.1.1.1

pub head_from-stored : (h : Head) → head_from (stored h) ≡ h
head_from-stored (leaf (tree.bool true)) = refl
head_from-stored (branch tree.fields n) = refl
head_from-stored _ = refl

abbrev pub head_code : Coded Head
head_code = code_by Stored
    (coded× coded_ℕ (coded× coded_ℕ (coded× coded_ℕ (coded× coded_ℤ (coded_list coded_ℕ))))) stored
    head_from head_from-stored

abbrev pub tree_code : Coded Tree
tree_code = code_by (List Head) (coded_list head_code) preorder tree_of tree_of-preorder

-- a node with its type
pub record Entry : Type 0 where
  pub ty : ℕ
  pub head : Head
