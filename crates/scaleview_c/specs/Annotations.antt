-- What the calls on parameters, names of fields' types and documentation report.
use Rattle.std.specs.Prelude.{ℕ, List, [], nat_lt, if◌then◌else◌, Option, Some, None, Result}
use Rattle.std.specs.Prelude.{Ok, Err}
use Rattle.types_core.specs.declared.type_id.TypeId.{TypeId}
use Rattle.types_core.specs.declared.type_info.Param.{Param}
use Rattle.scale_calls.specs.Annotations.{docs_line, type_name, type_param}
use Rattle.scale_calls.specs.declared.annotations.Subject.{Subject}
use Rattle.scale_calls.specs.declared.annotations.Subject.TheVariants as subject
use Rattle.scale_calls.specs.declared.describing.PartRefusal.{PartRefusal}
use Rattle.scaleview_c.specs.Calls.{Leaves}
use Rattle.scaleview_c.specs.Types.{WritesName, part_code}
use Rattle.c_answers.specs.Codes.{plain}
use Rattle.c_answers.specs.declared.answer.Answer.{Answer}
use Rattle.scaleview_c.specs.declared.resource.Resource.{Resource}
use Rattle.scaleview_c.specs.declared.resource.Resource.TheVariants as held

-- the subject of two positions, where 2^32 - 1 stands for none
abbrev pub subject_of : ℕ → ℕ → Subject
subject_of arm field = if nat_lt arm 4294967295
    then (if nat_lt field 4294967295 then subject.ArmField arm field else subject.Arm arm)
    else (if nat_lt field 4294967295 then subject.Field field else subject.Type)

-- the type that stands for a parameter, or 0, and whether there is one
abbrev pub type_or_0 : Option TypeId → ℕ
type_or_0 (Some ty) = ty.0
type_or_0 None = 0

abbrev pub has_type : Option TypeId → ℕ
has_type (Some ty) = 1
has_type None = 0

-- the name of a parameter is written; or the answer says why there is none
abbrev pub DescribesParam : Result Param PartRefusal → List ℕ → List ℕ → Answer → Type 0
DescribesParam (Ok p) old new a = WritesName p.name (type_or_0 p.ty) (has_type p.ty) old new a
DescribesParam (Err e) old new a = Leaves old new (plain (part_code e)) a

-- the name of a type is written, with 1 if it was kept; or the answer says why there is none
abbrev pub DescribesName :
    Result (Option (List ℕ)) PartRefusal → List ℕ → List ℕ → Answer → Type 0
DescribesName (Ok (Some name)) old new a = WritesName name 0 1 old new a
DescribesName (Ok None) old new a = WritesName [] 0 0 old new a
DescribesName (Err e) old new a = Leaves old new (plain (part_code e)) a

-- a line is written; or the answer says why there is none
abbrev pub DescribesLine : Result (List ℕ) PartRefusal → List ℕ → List ℕ → Answer → Type 0
DescribesLine (Ok line) old new a = WritesName line 0 0 old new a
DescribesLine (Err e) old new a = Leaves old new (plain (part_code e)) a

abbrev pub WritesParam : Option Resource → ℕ → ℕ → List ℕ → List ℕ → Answer → Type 0
WritesParam (Some (held.Registry o)) id i old new a =
    DescribesParam (type_param o.checked.types id i) old new a
WritesParam (Some (held.Session s)) id i old new a = Leaves old new (plain 5) a
WritesParam None id i old new a = Leaves old new (plain 5) a

abbrev pub WritesTypeName : Option Resource → ℕ → Subject → List ℕ → List ℕ → Answer → Type 0
WritesTypeName (Some (held.Registry o)) id s old new a =
    DescribesName (type_name o.checked.types id s) old new a
WritesTypeName (Some (held.Session x)) id s old new a = Leaves old new (plain 5) a
WritesTypeName None id s old new a = Leaves old new (plain 5) a

abbrev pub WritesDocsLine : Option Resource → ℕ → Subject → ℕ → List ℕ → List ℕ → Answer → Type 0
WritesDocsLine (Some (held.Registry o)) id s i old new a =
    DescribesLine (docs_line o.checked.types id s i) old new a
WritesDocsLine (Some (held.Session x)) id s i old new a = Leaves old new (plain 5) a
WritesDocsLine None id s i old new a = Leaves old new (plain 5) a
