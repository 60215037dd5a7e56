-- How many references and arms a registry has, and how many parts a value has at most.
use Rattle.std.specs.Prelude.{◌≡◌, ℕ, ◌+◌, List, [], ◌∷◌, length, flat_map}
use Rattle.types_core.specs.declared.definition.TypeDef.{TypeDef}
use Rattle.types_core.specs.declared.definition.TypeDef.TheVariants as Def
use Rattle.types_core.specs.declared.type_info.TypeInfo.{TypeInfo}
use Rattle.graph_core.specs.declared.sizes.Sizes.{Sizes}
use Rattle.graph_core.specs.References.{references}
use Rattle.graph_core.specs.Widths.{width, widest}

abbrev pub arm_count : TypeDef → ℕ
arm_count (Def.Variant arms) = length arms
arm_count _ = 0

abbrev pub arm_counts : List TypeInfo → ℕ
arm_counts [] = 0
arm_counts (x ∷ r) = arm_count x.shape + arm_counts r

-- the numbers of references and of arms of a registry, and its width
pub record AreSizes (r : List TypeInfo) (s : Sizes) : Type 0 where
  pub references : s.references ≡ length (flat_map (λ i. references i.shape) r)
  pub arms : s.arms ≡ arm_counts r
  pub widest : s.widest ≡ widest r

-- the same for one definition
pub record AreSizesOf (d : TypeDef) (s : Sizes) : Type 0 where
  pub references : s.references ≡ length (references d)
  pub arms : s.arms ≡ arm_count d
  pub widest : s.widest ≡ width d
