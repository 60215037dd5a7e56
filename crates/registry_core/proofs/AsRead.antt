-- A registry that was read has an encoding.
use Rattle.std.proofs.Common.{List, [], ◌∷◌}
use Rattle.std.specs.List.{AllByRecursion}
use Rattle.types_core.specs.declared.definition.TypeDef.{TypeDef}
use Rattle.types_core.specs.declared.definition.TypeDef.TheVariants as def
use Rattle.types_core.specs.declared.type_info.TypeInfo.{TypeInfo}
use Rattle.types_core.specs.Fits.{FitsDefinition, FitsType, FitsRegistry}
use Rattle.registry_core.specs.AsRead.{ReadDefinition, ReadType, ReadRegistry}

-- a definition that is read fits, since it says nothing of how bits are read
definition_fits : (d : TypeDef) → ReadDefinition d → FitsDefinition d
definition_fits (def.BitSequence store order form) h = (h.0, h.1)
definition_fits _ h = h

-- so do the types
types_fit : (r : List TypeInfo) → AllByRecursion ReadType r → AllByRecursion FitsType r
types_fit [] h = h
types_fit (t ∷ r) h = ((h.0.0, h.0.1, definition_fits t.shape h.0.2, h.0.3), types_fit r h.1)

-- a registry that is read has an encoding
pub read_fits : (r : List TypeInfo) → ReadRegistry r → FitsRegistry r
read_fits r h = (h.0, types_fit r h.1)
