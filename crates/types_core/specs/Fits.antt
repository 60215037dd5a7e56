-- What has a spelling: every length and id is below 2 ^ 32, every index is a byte, and every text
-- is UTF-8.
use Rattle.std.specs.Prelude.{◌≡◌, ℕ, ◌<◌, ◌^◌, List, length, Option, Some, None, true}
use Rattle.std.specs.List.{AllByRecursion}
use Rattle.std.specs.Str.{is_utf8}
use Rattle.types_core.specs.declared.definition.Field.{Field}
use Rattle.types_core.specs.declared.definition.Arm.{Arm}
use Rattle.types_core.specs.declared.definition.TypeDef.{TypeDef}
use Rattle.types_core.specs.declared.definition.TypeDef.TheVariants as def
use Rattle.types_core.specs.declared.type_info.Param.{Param}
use Rattle.types_core.specs.declared.type_info.TypeInfo.{TypeInfo}
use Rattle.types_core.specs.declared.type_id.TypeId.{TypeId}

abbrev pub FitsList : {X : Type 0} → (X → Type 0) → List X → Type 0
FitsList P xs = (length xs < 2 ^ 32) × AllByRecursion P xs

abbrev pub FitsText : List ℕ → Type 0
FitsText s = (length s < 2 ^ 32) × (is_utf8 s ≡ true)

abbrev pub FitsTexts : List (List ℕ) → Type 0
FitsTexts = FitsList FitsText

abbrev pub FitsOption : {X : Type 0} → (X → Type 0) → Option X → Type 0
FitsOption P None = Unit {0}
FitsOption P (Some x) = P x

abbrev pub FitsId : TypeId → Type 0
FitsId t = t.0 < 2 ^ 32

abbrev pub FitsParam : Param → Type 0
FitsParam p = FitsText p.name × FitsOption FitsId p.ty

abbrev pub FitsField : Field → Type 0
FitsField f = FitsOption FitsText f.name × FitsId f.ty × FitsOption FitsText f.type_name
    × FitsTexts f.docs

abbrev pub FitsArm : Arm → Type 0
FitsArm a = FitsText a.name × FitsList FitsField a.fields × (a.index < 256) × FitsTexts a.docs

abbrev pub FitsDefinition : TypeDef → Type 0
FitsDefinition (def.Composite fields) = FitsList FitsField fields
FitsDefinition (def.Variant arms) = FitsList FitsArm arms
FitsDefinition (def.Sequence element) = FitsId element
FitsDefinition (def.Array len element) = (len < 2 ^ 32) × FitsId element
FitsDefinition (def.Tuple members) = FitsList FitsId members
FitsDefinition (def.Primitive p) = Unit {0}
FitsDefinition (def.Compact target) = FitsId target
FitsDefinition (def.BitSequence store order form) = FitsId store × FitsId order

abbrev pub FitsType : TypeInfo → Type 0
FitsType t = FitsTexts t.path × FitsList FitsParam t.params × FitsDefinition t.shape
    × FitsTexts t.docs

abbrev pub FitsRegistry : List TypeInfo → Type 0
FitsRegistry r = FitsList FitsType r
