-- What the call on the path to an error writes and reports.
use Rattle.std.specs.Prelude.{◌≡◌, ◌⊎◌, ◌<◌, ◌≤◌, ℕ, List, length, map, nat_le, if◌then◌else◌}
use Rattle.std.specs.Prelude.{is_some, unwrap_or, Option, Some, None, Result, Ok, Err}
use Rattle.limits_core.specs.declared.limits.Limits.{Limits}
use Rattle.value_core.specs.Built.{Built}
use Rattle.value_core.specs.OpenNodes.{open_path}
use Rattle.value_core.specs.Walked.{next_type}
use Rattle.value_core.specs.declared.open_nodes.PathStep.{PathStep}
use Rattle.decode_core.specs.Decoding.{opening_fault}
use Rattle.decode_core.specs.Paths.{FindsPath}
use Rattle.decode_core.specs.Streaming.{query_of}
use Rattle.decode_core.specs.declared.fault.OpenFault.{OpenFault}
use Rattle.record_core.specs.Written.{StandsIn}
use Rattle.scale_calls.specs.Refused.{opening_refusal}
use Rattle.c_answers.specs.Codes.{plain, value_answer}
use Rattle.c_answers.specs.declared.answer.Answer.{Answer}
use Rattle.scaleview_c.specs.declared.opened.Opened.{Opened}
use Rattle.scaleview_c.specs.declared.paths.StepRecord.{StepRecord}
use Rattle.scaleview_c.specs.declared.resource.Resource.{Resource}
use Rattle.scaleview_c.specs.declared.resource.Resource.TheVariants as held

-- a step as numbers; the arm is 0 if the node is no variant
abbrev pub step_record : PathStep → StepRecord
step_record s = record { ty = s.ty.0; arm = unwrap_or s.arm 0; part = s.part }

abbrev pub steps_of : Built → List StepRecord
steps_of b = map step_record (open_path b)

-- the steps are written, or they don't fit and nothing is written
abbrev pub WritesSteps : Built → List StepRecord → List StepRecord → Type 0
WritesSteps b old new = ((length (open_path b) ≤ length old) × StandsIn (steps_of b) old new)
    ⊎ ((length old < length (open_path b)) × (new ≡ old))

-- how many steps there are, and whether a node follows them and of which type
abbrev pub path_answer : ℕ → Option ℕ → ℕ → Answer
path_answer len next room = record {
  code = if nat_le len room then 0 else 2;
  from = unwrap_or next 0;
  at = if is_some next then 1 else 0;
  length = len;
}

abbrev pub PutsPath : Built → List StepRecord → List StepRecord → Answer → Type 0
PutsPath b old new a = WritesSteps b old new
    × (a ≡ path_answer (length (open_path b)) (next_type b.walk) (length old))

-- nothing is written, and this answer is reported
abbrev pub LeavesSteps : Answer → List StepRecord → List StepRecord → Answer → Type 0
LeavesSteps reported old new a = (new ≡ old) × (a ≡ reported)

abbrev pub PutsFound : Result Built OpenFault → List StepRecord → List StepRecord → Answer → Type 0
PutsFound (Ok b) old new a = PutsPath b old new a
PutsFound (Err e) old new a = LeavesSteps (value_answer (opening_refusal e)) old new a

-- the path to where the bytes are rejected or end is written, or the answer says why there is none;
-- or an allocation failed
abbrev pub WritesPath : Opened → ℕ → Limits → List ℕ → List StepRecord → List StepRecord →
    Answer → Type 0
WritesPath o id limits b old new a = LeavesSteps (plain 3) old new a
    ⊎ ((r : Result Built OpenFault)
    × FindsPath (opening_fault o.checked.types id limits) (query_of o.checked.types id limits) b r
    × PutsFound r old new a)

abbrev pub PathOf : Option Resource → ℕ → Limits → List ℕ → List StepRecord → List StepRecord →
    Answer → Type 0
PathOf (Some (held.Registry o)) id limits b old new a = WritesPath o id limits b old new a
PathOf (Some (held.Session s)) id limits b old new a = LeavesSteps (plain 5) old new a
PathOf None id limits b old new a = LeavesSteps (plain 5) old new a
