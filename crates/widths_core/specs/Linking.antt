-- The types of a registry as they are linked: the counters and the references of the rules that
-- settle them.
use Rattle.std.specs.Prelude.{◌≡◌, ℕ, ◌<◌, ◌≤◌, List, [], ◌++◌, length, map}
use Rattle.types_core.specs.declared.definition.TypeDef.{TypeDef}
use Rattle.types_core.specs.declared.type_info.TypeInfo.{TypeInfo}
use Rattle.graph_core.specs.declared.graph.Graph.{Graph}
use Rattle.graph_core.specs.Counts.{times}
use Rattle.graph_core.specs.Graphs.{refs, numbers, IsLinked, ReadsReferences}
use Rattle.widths_core.specs.declared.counter.Counter.{Counter}
use Rattle.widths_core.specs.declared.rows.Rows.{Rows}
use Rattle.widths_core.specs.declared.type_step.TypeStep.{TypeStep}
use Rattle.widths_core.specs.Rows.{IsPaired, Keeps}
use Rattle.widths_core.specs.Steps.{IsDraft, IsRow}
use Rattle.widths_core.specs.Rules.{Rule, rules, rules_of, counter_of, all_parts, numbers_from}

-- these rules were added
pub record AddsRules (news : List Rule) (cs ds : List Counter) (a b : Graph) : Type 0 where
  pub counters : ds ≡ cs ++ map counter_of news
  pub reads : ReadsReferences a b (all_parts news) (numbers_from (length cs) news)

-- a type with this definition was linked, and s is its step before any type has settled
pub record LinksType (t : ℕ) (d : TypeDef) (cs ds : List Counter) (x y : Rows) (a b : Graph)
    (s : TypeStep) : Type 0 where
  pub adds : AddsRules (rules_of t d) cs ds a b
  pub paired : IsPaired y
  pub keeps : Keeps x y
  pub step : IsDraft (refs b) (IsRow (refs b) y) d s

-- all these types were read: their rules have counters, and their references are in the lists; each
-- type was looked at once or twice
pub record AreTypesLinked (r : List TypeInfo) (cs : List Counter) (d : Graph) : Type 0 where
  pub linked : IsLinked d
  pub types : d.registry ≡ r
  pub counters : cs ≡ map counter_of (rules r)
  pub read : refs d ≡ all_parts (rules r)
  pub counted : numbers d ≡ numbers_from 0 (rules r)
  pub opened : (t : ℕ) → times t d.looks.opened.entries ≤ 2
  pub seen : (t : ℕ) → t < length r → 1 ≤ times t d.looks.opened.entries
  pub listed : d.looks.listed.entries ≡ []
