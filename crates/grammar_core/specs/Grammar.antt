-- Which bytes spell which value of a type (SCALE codec; scale-info for the definitions).
use Rattle.std.specs.Prelude.{◌≡◌, ℕ, List, [], ◌∷◌, ◌++◌, Some, ◌⊎◌}
use Rattle.scale_core.specs.Compact.{IsCompact}
use Rattle.scale_core.specs.declared.compact.Target.TheVariants as target
use Rattle.types_core.specs.declared.definition.Arm.{Arm}
use Rattle.types_core.specs.declared.type_info.TypeInfo.{TypeInfo}
use Rattle.graph_core.specs.Types.{field_types}
use Rattle.widths_core.specs.Arms.{arm_of}
use Rattle.widths_core.specs.Layouts.{Plain, Layout, layout}
use Rattle.widths_core.specs.Layouts as layout
use Rattle.grammar_core.specs.Tree.{Leaf, Tree, leaf, branch, fields, arm, list, Trees, none, and}
use Rattle.grammar_core.specs.Tree.{how_many}
use Rattle.grammar_core.specs.Ways.{SpelledBy, way_of}

-- the bytes spell this leaf, a value of a type of this layout
abbrev pub SpellsLeaf : Layout → Leaf → List ℕ → Type 0
SpellsLeaf f l b = (p : Plain) × (f ≡ layout.plain p) × SpelledBy (way_of p) l b

-- v is a value of type t, and b is its bytes
unfoldable mutual
  pub Val : List TypeInfo → ℕ → Tree → List ℕ → Type 0
  Val r t (leaf l) b = SpellsLeaf (layout r t) l b
  Val r t (branch fields vs) b = (ts : List ℕ) × (layout r t ≡ layout.fields ts) × Vals r ts vs b
  Val r t (branch (arm q) vs) b = (arms : List Arm) × (i : ℕ) × (a : Arm) × (rest : List ℕ)
      × (layout r t ≡ layout.arms arms) × (arm_of arms i ≡ Some (q, a)) × (b ≡ i ∷ rest)
      × Vals r (field_types a.fields) vs rest
  Val r t (branch list vs) b =
      ((n u : ℕ) × (layout r t ≡ layout.array n u) × (how_many vs ≡ n) × Each r u vs b)
      ⊎ ((u : ℕ) × (c rest : List ℕ) × (layout r t ≡ layout.sequence u)
      × IsCompact target.U32 (how_many vs) c × (b ≡ c ++ rest) × Each r u vs rest)

  -- values of these types, one after the other
  pub Vals : List TypeInfo → List ℕ → Trees → List ℕ → Type 0
  Vals r [] none b = b ≡ []
  Vals r (t ∷ ts) none b = ⊥
  Vals r [] (and v vs) b = ⊥
  Vals r (t ∷ ts) (and v vs) b = (b1 b2 : List ℕ) × (b ≡ b1 ++ b2) × Val r t v b1 × Vals r ts vs b2

  -- values of one type, one after the other
  pub Each : List TypeInfo → ℕ → Trees → List ℕ → Type 0
  Each r t none b = b ≡ []
  Each r t (and v vs) b = (b1 b2 : List ℕ) × (b ≡ b1 ++ b2) × Val r t v b1 × Each r t vs b2
