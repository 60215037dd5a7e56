-- The result of analysing a registry, and how often its types and references were looked at.
use Rattle.std.specs.Prelude.{◌≡◌, ℕ, ◌<◌, ◌≤◌, List, flat_map, length, reverse}
use Rattle.types_core.specs.declared.type_info.TypeInfo.{TypeInfo}
use Rattle.graph_core.specs.declared.graph.Graph.{Graph}
use Rattle.graph_core.specs.declared.looks.Looks.{Looks}
use Rattle.graph_core.specs.Graphs.{refs}
use Rattle.graph_core.specs.References.{IsChecked, references}
use Rattle.graph_core.specs.Widths.{widest}
use Rattle.graph_core.specs.Counts.{times}
use Rattle.widths_core.specs.declared.linking.Linked.{Linked}
use Rattle.widths_core.specs.declared.rows.Rows.{Rows}
use Rattle.widths_core.specs.declared.type_step.TypeStep.{TypeStep}
use Rattle.widths_core.specs.Linking.{AreTypesLinked}
use Rattle.widths_core.specs.Steps.{AreDrafts, IsTable}

-- each type was looked at once or twice; each reference was looked at once in its definition, in
-- the order of the registry's bytes, and no more than once in a list
pub record HasFewLooks (r : List TypeInfo) (l : Looks) : Type 0 where
  pub types : (t : ℕ) → times t l.opened.entries ≤ 2
  pub seen : (t : ℕ) → t < length r → 1 ≤ times t l.opened.entries
  pub read : reverse l.read.entries ≡ flat_map (λ i. references i.shape) r
  pub listed : (e : ℕ) → times e l.listed.entries ≤ 1

-- both passes over the types are done, and this is their result
pub record IsLinkedWith (r : List TypeInfo) (x : Linked) (w : ℕ) (g : Graph) : Type 0 where
  pub linked : AreTypesLinked r x.counters.items g
  pub drafts : AreDrafts r (refs g) x.rows x.steps.items
  pub widest_is : w ≡ widest r

-- the table of a registry whose references are all positions, made with few looks
pub record AreSettled (r : List TypeInfo) (rows : Rows) (steps : List TypeStep) (g : Graph) : Type 0
  where
    pub checked : IsChecked r
    pub types : g.registry ≡ r
    pub table : IsTable r g.members.items rows steps
    pub looks : HasFewLooks r g.looks

-- the same with the width
pub record IsAnalysed (r : List TypeInfo) (rows : Rows) (steps : List TypeStep) (w : ℕ)
    (g : Graph) :
    Type 0 where
  pub settled : AreSettled r rows steps g
  pub widest_is : w ≡ widest r
