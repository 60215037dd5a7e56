-- The types of extrinsics, storage keys and parameters.
use Rattle.std.specs.Prelude.{ℕ, suc, ◌+◌, List, [], ◌∷◌, ◌++◌, codes, decimal, flat_map, length}
use Rattle.std.specs.Prelude.{Option, Some, None, Bool, true, false, ◌&&◌, not, is_some, unwrap_or}
use Rattle.std.specs.Prelude.{if◌then◌else◌}
use Rattle.types_core.specs.declared.definition.Arm.{Arm}
use Rattle.types_core.specs.declared.definition.Field.{Field}
use Rattle.types_core.specs.declared.definition.TypeDef.{TypeDef}
use Rattle.types_core.specs.declared.definition.TypeDef.TheVariants as def
use Rattle.types_core.specs.declared.primitive.Primitive.TheVariants.{U8}
use Rattle.types_core.specs.declared.type_info.TypeInfo.{TypeInfo}
use Rattle.node_core.specs.Shown.{Seen, children_of}
use Rattle.chain_core.specs.Parts.{reference_at, text_at}
use Rattle.chain_core.specs.Things.{Named, Stands, extrinsic, key, own, params}
use Rattle.chain_core.specs.declared.extrinsics.ExtrinsicTypes.{ExtrinsicTypes}
use Rattle.chain_core.specs.declared.keys.HashLength.{HashLength}
use Rattle.chain_core.specs.declared.keys.HashLength.TheVariants.{Bytes8, Bytes16, Bytes32}
use Rattle.chain_core.specs.declared.keys.KeyPart.{KeyPart}
use Rattle.chain_core.specs.declared.needs.Needs.{Needs}
use Rattle.chain_core.specs.declared.needs.SmallTypes.{SmallTypes}

-- ---- which small types are needed

abbrev pub nothing_needed : Needs
nothing_needed = record { bytes8 = false; bytes16 = false; bytes32 = false; byte = false }

abbrev pub hash_needs : Needs → Option HashLength → Needs
hash_needs n (Some Bytes8) = record n { bytes8 = true }
hash_needs n (Some Bytes32) = record n { bytes32 = true }
hash_needs n (Some Bytes16) = n
hash_needs n None = n

-- what these parts of a key need, beside what is needed anyway
abbrev pub parts_need : Needs → List KeyPart → Needs
parts_need n [] = n
parts_need n (p ∷ ps) = parts_need (hash_needs n p.hash) ps

abbrev pub stands_needs : Needs → Stands → Needs
stands_needs n (own id) = n
stands_needs n (params inputs) = n
stands_needs n (extrinsic types) = record n { byte = true }
stands_needs n (key parts) = parts_need (record n { byte = true; bytes16 = true }) parts

-- what these things need, beside what is needed anyway
abbrev pub all_need : Needs → List Named → Needs
all_need n [] = n
all_need n (t ∷ ts) = all_need (stands_needs n t.stands) ts

-- ---- where they stand

-- 1 for what is needed
abbrev pub one_if : Bool → ℕ
one_if b = if b then 1 else 0

-- the positions of the small types, from `first` on; a byte of the registry serves as well
abbrev pub small_types : Needs → ℕ → Option ℕ → SmallTypes
small_types n first byte = let b16 = first + one_if n.bytes8 in
    let b32 = b16 + one_if n.bytes16 in
    record {
      bytes8 = first;
      bytes16 = b16;
      bytes32 = b32;
      byte = unwrap_or byte (b32 + one_if n.bytes32);
    }

abbrev pub is_byte : TypeDef → Bool
is_byte (def.Primitive U8) = true
is_byte _ = false

-- the first of these types, from position i on, that is the byte itself
abbrev pub byte_from : ℕ → List TypeInfo → Option ℕ
byte_from i [] = None
byte_from i (t ∷ ts) = if is_byte t.shape then Some i else byte_from (suc i) ts

-- ---- the types

abbrev pub unnamed : TypeDef → TypeInfo
unnamed d = record { path = []; params = []; shape = d; docs = [] }

abbrev pub field : List ℕ → ℕ → Field
field name t = record {
  name = Some name;
  ty = record { 0 = t };
  type_name = None;
  docs = [];
}

abbrev pub arm : List ℕ → ℕ → List Field → Arm
arm name i fs = record { name = name; fields = fs; index = i; docs = [] }

-- an extrinsic: bare or signed of version 4, bare or general of version 5
abbrev pub extrinsic_type : ExtrinsicTypes → ℕ → TypeInfo
extrinsic_type t byte = let call = field (codes "call") t.call in
    let extra = field (codes "extra") t.extra in
    let address = field (codes "address") t.address in
    let signature = field (codes "signature") t.signature in
    unnamed (def.Variant (arm (codes "bare") 4 (call ∷ [])
    ∷ arm (codes "signed") 132 (address ∷ signature ∷ extra ∷ call ∷ [])
    ∷ arm (codes "bare_v5") 5 (call ∷ [])
    ∷ arm (codes "general") 69 (field (codes "version") byte ∷ extra ∷ call ∷ []) ∷ []))

-- the type of a hash
abbrev pub hash_type : SmallTypes → HashLength → ℕ
hash_type s Bytes8 = s.bytes8
hash_type s Bytes16 = s.bytes16
hash_type s Bytes32 = s.bytes32

abbrev pub hash_field : SmallTypes → ℕ → Option HashLength → List Field
hash_field s i (Some h) = field (codes "hash" ++ decimal i) (hash_type s h) ∷ []
hash_field s i None = []

abbrev pub key_field : ℕ → Option ℕ → List Field
key_field i (Some t) = field (codes "key" ++ decimal i) t ∷ []
key_field i None = []

-- the fields of the parts of a key, from part i on
abbrev pub part_fields : SmallTypes → ℕ → List KeyPart → List Field
part_fields s i [] = []
part_fields s i (p ∷ ps) =
    (hash_field s i p.hash ++ key_field i p.key) ++ part_fields s (suc i) ps

-- a storage key: the hashes of the pallet's and of the entry's name, and the parts
abbrev pub key_type : SmallTypes → List KeyPart → TypeInfo
key_type s ps = unnamed (def.Composite (field (codes "pallet") s.bytes16
    ∷ field (codes "entry") s.bytes16 ∷ part_fields s 0 ps))

-- a field for a parameter, if it has a type
abbrev pub input_field : List ℕ → Option ℕ → List Field
input_field name (Some t) = field name t ∷ []
input_field name None = []

abbrev pub input_fields : Seen → List Field
input_fields s = input_field (text_at 0 s) (reference_at 1 s)

-- the parameters of a method
abbrev pub params_type : Seen → TypeInfo
params_type inputs = unnamed (def.Composite (flat_map input_fields (children_of inputs)))

-- the synthetic type of a thing, if it has one
abbrev pub made : SmallTypes → Stands → List TypeInfo
made s (own id) = []
made s (extrinsic t) = extrinsic_type t s.byte ∷ []
made s (key ps) = key_type s ps ∷ []
made s (params inputs) = params_type inputs ∷ []

abbrev pub all_made : SmallTypes → List Named → List TypeInfo
all_made s ts = flat_map (λ t. made s t.stands) ts

-- how many things have a synthetic type
abbrev pub is_made : Stands → ℕ
is_made (own id) = 0
is_made _ = 1

abbrev pub made_count : List Named → ℕ
made_count [] = 0
made_count (t ∷ ts) = is_made t.stands + made_count ts

abbrev pub type_if : Bool → TypeDef → List TypeInfo
type_if b d = if b then unnamed d ∷ [] else []

-- the small types that are needed, the byte only if the registry has none
abbrev pub small_made : Needs → ℕ → Bool → List TypeInfo
small_made n byte has = type_if n.bytes8 (def.Array 8 (record { 0 = byte }))
    ++ type_if n.bytes16 (def.Array 16 (record { 0 = byte }))
    ++ type_if n.bytes32 (def.Array 32 (record { 0 = byte }))
    ++ type_if (n.byte && not has) (def.Primitive U8)

-- the types to append to those of a registry with these types and things
abbrev pub synthetic : List TypeInfo → List Named → List TypeInfo
synthetic types ts = let n = all_need nothing_needed ts in
    let byte = byte_from 0 types in
    let s = small_types n (length types + made_count ts) byte in
    all_made s ts ++ small_made n s.byte (is_some byte)
