-- What the calls that describe a type report.
use Rattle.std.specs.Prelude.{◌≡◌, ℕ, List, [], length, nat_le, if◌then◌else◌, Option, Some}
use Rattle.std.specs.Prelude.{None, Result, Ok, Err}
use Rattle.json_core.specs.Printed.{IsInFront}
use Rattle.types_core.specs.Bytes.{primitive_byte}
use Rattle.types_core.specs.declared.definition.Arm.{Arm}
use Rattle.types_core.specs.declared.definition.TypeDef.{TypeDef}
use Rattle.types_core.specs.declared.definition.TypeDef.TheVariants as definition
use Rattle.widths_core.specs.declared.class.Class.{Class}
use Rattle.widths_core.specs.declared.class.Class.TheVariants as class
use Rattle.scale_calls.specs.Describing.{IsFirstOfPath, Named, arm_field, type_arm, type_definition}
use Rattle.scale_calls.specs.Describing.{type_part, type_path}
use Rattle.scale_calls.specs.declared.describing.PartRefusal.{PartRefusal}
use Rattle.scale_calls.specs.declared.describing.PartRefusal.TheVariants as refusal
use Rattle.scaleview_c.specs.Calls.{Leaves, WritesKnown}
use Rattle.c_answers.specs.Codes.{plain}
use Rattle.c_answers.specs.declared.answer.Answer.{Answer}
use Rattle.scaleview_c.specs.declared.resource.Resource.{Resource}
use Rattle.scaleview_c.specs.declared.resource.Resource.TheVariants as held
use Rattle.scaleview_c.specs.declared.types.TypeShape.{TypeShape}

-- ---- the numbers of a type

-- the number of a class
abbrev pub class_number : Class → ℕ
class_number class.NoValue = 0
class_number class.Empty = 1
class_number class.Sized = 2

-- the number of a definition's kind, which is the byte that the definition begins with
abbrev pub kind_number : TypeDef → ℕ
kind_number (definition.Composite fields) = 0
kind_number (definition.Variant arms) = 1
kind_number (definition.Sequence element) = 2
kind_number (definition.Array len element) = 3
kind_number (definition.Tuple members) = 4
kind_number (definition.Primitive p) = 5
kind_number (definition.Compact target) = 6
kind_number (definition.BitSequence store order form) = 7

-- a kind and a class alone: every number without a meaning for the kind is 0
abbrev pub plain_shape : ℕ → Class → TypeShape
plain_shape kind c = record {
  kind = kind;
  class = class_number c;
  primitive = 0;
  element = 0;
  order = 0;
  length = 0;
  parts = 0;
}

-- the byte of a primitive type
abbrev pub primitive_of : TypeDef → ℕ
primitive_of (definition.Primitive p) = primitive_byte p
primitive_of _ = 0

-- the type of the elements, a compact's target, or a bit sequence's store
abbrev pub element_of : TypeDef → ℕ
element_of (definition.Sequence element) = element.0
element_of (definition.Array len element) = element.0
element_of (definition.Compact target) = target.0
element_of (definition.BitSequence store order form) = store.0
element_of _ = 0

-- the type that names a bit sequence's order
abbrev pub order_of : TypeDef → ℕ
order_of (definition.BitSequence store order form) = order.0
order_of _ = 0

-- the number of an array's elements
abbrev pub length_of : TypeDef → ℕ
length_of (definition.Array len element) = len
length_of _ = 0

-- the number of fields, arms or members
abbrev pub parts_of : TypeDef → ℕ
parts_of (definition.Composite fields) = length fields
parts_of (definition.Variant arms) = length arms
parts_of (definition.Tuple members) = length members
parts_of _ = 0

-- all numbers of a type
abbrev pub shape_numbers : Class → TypeDef → TypeShape
shape_numbers c d = record {
  kind = kind_number d;
  class = class_number c;
  primitive = primitive_of d;
  element = element_of d;
  order = order_of d;
  length = length_of d;
  parts = parts_of d;
}

-- the numbers of the type are reported; or the answer says that there is no type, and the numbers
-- are unchanged
abbrev pub DescribesShape : Option (Class × TypeDef) → TypeShape → TypeShape → Answer → Type 0
DescribesShape (Some x) old new a = (new ≡ shape_numbers x.0 x.1) × (a ≡ plain 0)
DescribesShape None old new a = (new ≡ old) × (a ≡ plain 201)

abbrev pub ReportsShape : Option Resource → ℕ → TypeShape → TypeShape → Answer → Type 0
ReportsShape (Some (held.Registry o)) id old new a =
    DescribesShape (type_definition o.checked.types id) old new a
ReportsShape (Some (held.Session s)) id old new a = (new ≡ old) × (a ≡ plain 5)
ReportsShape None id old new a = (new ≡ old) × (a ≡ plain 5)

-- ---- names of parts and arms

-- the answer for a name of `len` bytes and memory for `room` bytes, with two more numbers
abbrev pub name_answer : ℕ → ℕ → ℕ → ℕ → Answer
name_answer len room from at =
    record { code = if nat_le len room then 0 else 2; from = from; at = at; length = len }

-- the name is written if it fits, and the numbers are reported
abbrev pub WritesName : List ℕ → ℕ → ℕ → List ℕ → List ℕ → Answer → Type 0
WritesName name from at old new a = IsInFront name old new
    × (a ≡ name_answer (length name) (length old) from at)

-- the code that says why there is no part
abbrev pub part_code : PartRefusal → ℕ
part_code refusal.UnknownType = 201
part_code refusal.UnknownPart = 203

-- the name of a part with its type, and 1 if it has a name; or the answer says why there is no part
abbrev pub WritesPart : Result Named PartRefusal → List ℕ → List ℕ → Answer → Type 0
WritesPart (Ok (Some name, ty)) old new a = WritesName name ty 1 old new a
WritesPart (Ok (None, ty)) old new a = WritesName [] ty 0 old new a
WritesPart (Err e) old new a = Leaves old new (plain (part_code e)) a

abbrev pub WritesTypePart : Option Resource → ℕ → ℕ → List ℕ → List ℕ → Answer → Type 0
WritesTypePart (Some (held.Registry o)) id part old new a =
    WritesPart (type_part o.checked.types id part) old new a
WritesTypePart (Some (held.Session s)) id part old new a = Leaves old new (plain 5) a
WritesTypePart None id part old new a = Leaves old new (plain 5) a

abbrev pub WritesArmField : Option Resource → ℕ → ℕ → ℕ → List ℕ → List ℕ → Answer → Type 0
WritesArmField (Some (held.Registry o)) id arm field old new a =
    WritesPart (arm_field o.checked.types id arm field) old new a
WritesArmField (Some (held.Session s)) id arm field old new a = Leaves old new (plain 5) a
WritesArmField None id arm field old new a = Leaves old new (plain 5) a

-- the name of an arm with its index and its number of fields; or the answer says why there is none
abbrev pub DescribesArm : Result Arm PartRefusal → List ℕ → List ℕ → Answer → Type 0
DescribesArm (Ok arm) old new a = WritesName arm.name arm.index (length arm.fields) old new a
DescribesArm (Err e) old new a = Leaves old new (plain (part_code e)) a

abbrev pub WritesArm : Option Resource → ℕ → ℕ → List ℕ → List ℕ → Answer → Type 0
WritesArm (Some (held.Registry o)) id arm old new a =
    DescribesArm (type_arm o.checked.types id arm) old new a
WritesArm (Some (held.Session s)) id arm old new a = Leaves old new (plain 5) a
WritesArm None id arm old new a = Leaves old new (plain 5) a

-- ---- paths

-- the path of the type is written, if the type exists, unless an allocation failed
abbrev pub WritesPath : Option Resource → ℕ → List ℕ → List ℕ → Answer → Type 0
WritesPath (Some (held.Registry o)) id old new a =
    WritesKnown (type_path o.checked.types id) old new a
WritesPath (Some (held.Session s)) id old new a = Leaves old new (plain 5) a
WritesPath None id old new a = Leaves old new (plain 5) a

-- the answer of a search: a position, or that there is none
abbrev pub found_answer : Option ℕ → Answer
found_answer (Some id) = record { code = 0; from = 0; at = id; length = 0 }
found_answer None = plain 201

-- the first type with the path, at or after `from`, is reported, or that there is none
abbrev pub ReportsFirst : Option Resource → ℕ → List ℕ → Answer → Type 0
ReportsFirst (Some (held.Registry o)) from path a = (found : Option ℕ)
    × IsFirstOfPath o.checked.types from path found × (a ≡ found_answer found)
ReportsFirst (Some (held.Session s)) from path a = a ≡ plain 5
ReportsFirst None from path a = a ≡ plain 5
