-- What is true of a registry that was read: it has an encoding, and no bit sequence is allowed yet.
use Rattle.std.specs.Prelude.{◌≡◌, List, None}
use Rattle.types_core.specs.declared.definition.TypeDef.{TypeDef}
use Rattle.types_core.specs.declared.definition.TypeDef.TheVariants as def
use Rattle.types_core.specs.declared.type_info.TypeInfo.{TypeInfo}
use Rattle.types_core.specs.Fits.{FitsDefinition, FitsId, FitsList, FitsParam, FitsTexts}

abbrev pub ReadDefinition : TypeDef → Type 0
ReadDefinition (def.BitSequence store order form) = FitsId store × FitsId order × (form ≡ None)
ReadDefinition d = FitsDefinition d

abbrev pub ReadType : TypeInfo → Type 0
ReadType t = FitsTexts t.path × FitsList FitsParam t.params × ReadDefinition t.shape
    × FitsTexts t.docs

abbrev pub ReadRegistry : List TypeInfo → Type 0
ReadRegistry r = FitsList ReadType r
