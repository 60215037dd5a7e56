-- The remaining parts of an open node, as the node keeps them.
use Rattle.std.specs.Prelude.{ℕ, zero, suc, ◌+◌, ◌-◌, ◌<◌, ◌≤◌, List, [], ◌∷◌, length}
use Rattle.std.specs.Prelude.{Bool, true, false, Option, Some, None, slice_get}
use Rattle.types_core.specs.declared.type_info.TypeInfo.{TypeInfo}
use Rattle.widths_core.specs.Steps.{references_of}
use Rattle.grammar_core.specs.Parts.{Part, each, times}
use Rattle.node_core.specs.declared.remaining.Remaining.{Remaining}

-- the reference and those that follow it, or none if there is no reference
abbrev pub followed_by : Option ℕ → List ℕ → List ℕ
followed_by (Some t) ts = t ∷ ts
followed_by None ts = []

-- the last n references before position `end`
abbrev pub members_before : List ℕ → ℕ → ℕ → List ℕ
members_before refs end zero = []
members_before refs end (suc n) =
    followed_by (slice_get refs (end - suc n)) (members_before refs end n)

-- n parts: all of one type if the last number is 0, and otherwise the last n references before
-- position `end`, which is that number less 1
abbrev pub parts_by : List ℕ → ℕ → ℕ → ℕ → Part
parts_by refs n element zero = times n element
parts_by refs n element (suc end) = each (members_before refs end n)

abbrev pub left_by : List ℕ → Remaining → Part
left_by refs l = parts_by refs l.count l.element l.end

abbrev pub left_of : List TypeInfo → Remaining → Part
left_of r l = left_by (references_of r) l

-- all remaining references exist, so that there are as many parts as are counted
pub record IsWithin (refs : List ℕ) (l : Remaining) : Type 0 where
  pub counted : 1 ≤ l.end → l.count < l.end
  pub there : l.end ≤ length refs + 1

-- `count` references from position `from` on
abbrev pub members_of : ℕ → ℕ → Remaining
members_of from count =
    record { count = count; element = 0; end = suc (from + count) }

-- `count` parts of one type
abbrev pub copies_of : ℕ → ℕ → Remaining
copies_of count t = record { count = count; element = t; end = 0 }

-- whether at least one part is left and all have one type
abbrev pub repeats_by : ℕ → ℕ → Bool
repeats_by (suc n) zero = true
repeats_by _ _ = false

abbrev pub repeats : Remaining → Bool
repeats l = repeats_by l.count l.end

-- how many parts follow the first one if all have one type; otherwise 0
abbrev pub after_first : Part → ℕ
after_first (each ts) = 0
after_first (times n t) = n - 1

-- whether the parts have one type by definition: their node is an array or a sequence
abbrev pub have_one_type : Part → Bool
have_one_type (each ts) = false
have_one_type (times n t) = true
