-- How many bytes a node has itself, or how many decide that there is none, by its form and its
-- first byte.
use Rattle.std.specs.Prelude.{◌≡◌, ℕ, List, ◌∷◌, length, if◌then◌else◌}
use Rattle.scale_core.specs.Read.{is_too_long, mode_len}
use Rattle.scale_core.specs.declared.compact.Target.{Target}
use Rattle.scale_core.specs.declared.compact.Target.TheVariants as target
use Rattle.types_core.specs.Kinds.{kind_of, width_bytes}
use Rattle.types_core.specs.declared.kind.PrimitiveKind.{PrimitiveKind}
use Rattle.types_core.specs.declared.kind.PrimitiveKind.TheVariants as K
use Rattle.types_core.specs.declared.primitive.Primitive.{Primitive}
use Rattle.grammar_core.specs.declared.form.Form.{Form}
use Rattle.grammar_core.specs.declared.form.Form.TheVariants as form

-- 1 if the first byte shows that a compact is too long for its target, and otherwise its length
abbrev pub compact_need : Target → ℕ → ℕ
compact_need m first = if is_too_long m first then 1 else mode_len first

-- for a text or a run of bytes, only the bytes of its length, if it has one
abbrev pub kind_need : PrimitiveKind → ℕ → ℕ
kind_need K.Bool first = 1
kind_need K.Char first = 4
kind_need K.Str first = compact_need target.U32 first
kind_need (K.Unsigned w) first = width_bytes w
kind_need (K.Signed w) first = width_bytes w
kind_need (K.Wide s) first = 32

abbrev pub primitive_need : Primitive → ℕ → ℕ
primitive_need p first = kind_need (kind_of p) first

abbrev pub need : Form → ℕ → ℕ
need form.Empty first = 0
need (form.Primitive p) first = primitive_need p first
need (form.Compact m) first = compact_need m first
need form.Fields first = 0
need form.Arm first = 1
need (form.Array n) first = 0
need (form.ByteArray n) first = n
need form.Sequence first = compact_need target.U32 first
need form.Bytes first = compact_need target.U32 first
need (form.Bits f) first = compact_need target.U32 first
need form.Count first = compact_need target.U32 first

-- the forms of nodes with a few bytes, which are carried over if a piece ends within them
abbrev pub HasBytes : Form → Type 0
HasBytes form.Empty = ⊥
HasBytes form.Fields = ⊥
HasBytes (form.Array n) = ⊥
HasBytes (form.ByteArray n) = ⊥
HasBytes _ = Unit {0}

-- the forms of nodes that have no bytes
abbrev pub IsBare : Form → Type 0
IsBare form.Empty = Unit {0}
IsBare form.Fields = Unit {0}
IsBare (form.Array n) = Unit {0}
IsBare _ = ⊥

abbrev pub IsNoTextKind : PrimitiveKind → Type 0
IsNoTextKind K.Str = ⊥
IsNoTextKind _ = Unit {0}

-- neither a text nor a run of bytes, nor a bit sequence
abbrev pub NoRun : Form → Type 0
NoRun (form.Primitive p) = IsNoTextKind (kind_of p)
NoRun form.Bytes = ⊥
NoRun (form.ByteArray n) = ⊥
NoRun (form.Bits f) = ⊥
NoRun _ = Unit {0}

-- as many bytes as are needed, and no more
abbrev pub AreOwn : Form → List ℕ → Type 0
AreOwn f own = (first : ℕ) × (rest : List ℕ) × (own ≡ first ∷ rest) × (length own ≡ need f first)

abbrev pub IsFirst : ℕ → List ℕ → Type 0
IsFirst first bytes = (rest : List ℕ) × (bytes ≡ first ∷ rest)

-- the number of bytes that a node needs if its bytes begin with these
abbrev pub IsNeeded : Form → ℕ → List ℕ → Type 0
IsNeeded f len bytes = (first : ℕ) × IsFirst first bytes × (len ≡ need f first)
