-- Parameters, fields and arms.
use Rattle.std.proofs.Common.{append_assoc, refl}
use Rattle.types_core.specs.declared.definition.Field.{Field}
use Rattle.types_core.specs.declared.definition.Arm.{Arm}
use Rattle.types_core.specs.declared.type_info.Param.{Param}
use Rattle.types_core.specs.Fits.{FitsList, FitsParam, FitsField, FitsArm}
use Rattle.registry_core.specs.Spelling.{sequence, param, field, arm}
use Rattle.registry_core.specs.Reading.{param_at, params_at, field_at, fields_at, arm_read_at}
use Rattle.registry_core.specs.Reading.{arms_read_at}
use Rattle.registry_core.proofs.Parts.{IsPart, Parts, next, last, then, made}
use Rattle.registry_core.proofs.Atoms.{text_is, texts_is, id_is, option_is, sequence_is}
use Rattle.registry_core.proofs.Atoms.{byte_is, byte_stops}

-- the parts of a parameter
abbrev pub param_parts : Parts Param
param_parts = then text_is (λ name. last (option_is id_is) (λ ty. record { name = name; ty = ty }))

-- a parameter
pub param_is : IsPart FitsParam param param_at
unfolding param_at
param_is = made param_parts (λ x fits. (fits, refl)) (λ p fits. ((p.name, p.ty), fits, refl))

-- parameters
pub params_is : IsPart (FitsList FitsParam) (sequence param) params_at
unfolding params_at
params_is = sequence_is param_is

-- the parts of a field
abbrev pub field_parts : Parts Field
field_parts = then (option_is text_is) (λ name.
    then id_is (λ ty.
    then (option_is text_is) (λ type_name.
    last texts_is (λ docs.
    record { name = name; ty = ty; type_name = type_name; docs = docs }))))

-- a field
pub field_is : IsPart FitsField field field_at
unfolding field_at
field_is =
    made field_parts (λ x h. ((h.0, h.1.0, h.1.1.0, h.1.1.1), simp append_assoc))
    (λ f h. ((f.name, (f.ty, (f.type_name, f.docs))), (h.0, (h.1, (h.2, h.3))), refl))

-- fields
pub fields_is : IsPart (FitsList FitsField) (sequence field) fields_at
unfolding fields_at
fields_is = sequence_is field_is

-- the parts of an arm
abbrev pub arm_parts : Parts Arm
arm_parts = then text_is (λ name.
    then fields_is (λ fields.
    next byte_is byte_stops (λ index.
    last texts_is (λ docs.
    record { name = name; fields = fields; index = index; docs = docs }))))

-- an arm of a variant
pub arm_is : IsPart FitsArm arm arm_read_at
unfolding arm_read_at
arm_is =
    made arm_parts (λ x h. ((h.0, h.1.0, h.1.1.0, h.1.1.1), simp append_assoc))
    (λ a h. ((a.name, (a.fields, (a.index, a.docs))), (h.0, (h.1, (h.2, h.3))), refl))

-- arms
pub arms_is : IsPart (FitsList FitsArm) (sequence arm) arms_read_at
unfolding arms_read_at
arms_is = sequence_is arm_is
