-- The open parts of a walk, as its fields keep them.
use Rattle.std.specs.Prelude.{ℕ, List, [], ◌∷◌, map, reverse}
use Rattle.types_core.specs.declared.type_info.TypeInfo.{TypeInfo}
use Rattle.node_core.specs.Remaining.{left_of, IsWithin}
use Rattle.node_core.specs.declared.remaining.Frame.{Frame}
use Rattle.value_core.specs.Walked.{OpenPart}

-- all remaining references of these frames exist
abbrev pub AreWithin : List ℕ → List Frame → Type 0
AreWithin refs [] = Unit {0}
AreWithin refs (f ∷ fs) = IsWithin refs f.left × AreWithin refs fs

abbrev pub open_part_of : List TypeInfo → Frame → OpenPart
open_part_of r f = record { node = f.node; left = left_of r f.left }

-- the innermost part first; the fields keep those around it with the outermost first
abbrev pub frames_of : List TypeInfo → Frame → List Frame → List OpenPart
frames_of r top around = open_part_of r top ∷ map (open_part_of r) (reverse around)
