-- Few bytes are carried.
use Rattle.std.proofs.Common.{◌≡◌, ℕ, zero, suc, ◌+◌, ◌/◌, ◌%◌, ◌<◌, ◌≤◌, Bool, true, false, cond}
use Rattle.std.proofs.Common.{ltb, List, [], ◌∷◌, length, refl, arith, inl, inr}
use Rattle.std.specs.Prelude.{◌==◌}
use Rattle.std.proofs.lemmas.Bool.{cases_lt, ltb-false}
use Rattle.scale_core.specs.Compact.{target_bytes}
use Rattle.scale_core.specs.Read.{mode_len, is_too_long}
use Rattle.scale_core.specs.declared.compact.Target.{Target}
use Rattle.scale_core.specs.declared.compact.Target.TheVariants as target
use Rattle.types_core.specs.Kinds.{kind_of}
use Rattle.types_core.specs.declared.kind.PrimitiveKind.{PrimitiveKind}
use Rattle.types_core.specs.declared.kind.PrimitiveKind.TheVariants as K
use Rattle.types_core.proofs.Widths.{width_most}
use Rattle.grammar_core.specs.declared.form.Form.{Form}
use Rattle.grammar_core.specs.declared.form.Form.TheVariants as form
use Rattle.value_core.specs.Built.{Built}
use Rattle.form_core.specs.Needs.{HasBytes, compact_need, kind_need, need}
use Rattle.machine_core.specs.Running.{IsCarry}

-- how long a compact is
short_mode : (m q : ℕ) → m < 3 → cond (m == 0) 1 (cond (m == 1) 2 (cond (m == 2) 4 q)) ≤ 17
short_mode zero q h = omega arith
short_mode (suc zero) q h = omega arith
short_mode (suc (suc zero)) q h = omega arith
short_mode (suc (suc (suc m))) q h = absurd (omega (arith, h))

-- the target of a compact has 16 bytes at most
target_small : (m : Target) → target_bytes m ≤ 16
target_small target.Unit = omega arith
target_small target.U8 = omega arith
target_small target.U16 = omega arith
target_small target.U32 = omega arith
target_small target.U64 = omega arith
target_small target.U128 = omega arith

-- a compact that is not too long for its target has 17 bytes at most
form_len_small : (m : Target) (i : ℕ) → is_too_long m i ≡ false → mode_len i ≤ 17
form_len_small m i h = elim (cases_lt (i % 4) 3) [
  | inl lt ↦ short_mode (i % 4) (i / 4 + 5) lt
  | inr ge ↦ let mode : i % 4 ≡ 3 = omega arith in
      let fits : ltb (target_bytes m) (i / 4 + 4) ≡ false = (rw mode at h) in
      rw mode (omega (arith, ltb-false _ _ fits, target_small m))
]

-- how many bytes a node needs
compact_need_small : (m : Target) (first : ℕ) → compact_need m first ≤ 32
compact_need_small m first = by (is_too_long m first) refl where
  by : (long : Bool) → is_too_long m first ≡ long → cond long 1 (mode_len first) ≤ 32
  by true e = omega arith
  by false e = omega (arith, form_len_small m first e)

-- a primitive kind needs 32 bytes at most, of a text its length alone
kind_need_small : (k : PrimitiveKind) (first : ℕ) → kind_need k first ≤ 32
kind_need_small K.Bool first = omega arith
kind_need_small K.Char first = omega arith
kind_need_small K.Str first = compact_need_small target.U32 first
kind_need_small (K.Unsigned w) first = omega (arith, width_most w)
kind_need_small (K.Signed w) first = omega (arith, width_most w)
kind_need_small (K.Wide s) first = omega arith

-- a form with bytes of its own needs 32 at most
need_small : (f : Form) (first : ℕ) → HasBytes f → need f first ≤ 32
need_small (form.Primitive p) first h = kind_need_small (kind_of p) first
need_small (form.Compact m) first h = compact_need_small m first
need_small form.Sequence first h = compact_need_small target.U32 first
need_small form.Bytes first h = compact_need_small target.U32 first
need_small (form.Bits f) first h = compact_need_small target.U32 first
need_small form.Count first h = compact_need_small target.U32 first
need_small form.Empty first h = omega arith
need_small form.Fields first h = omega arith
need_small form.Arm first h = omega arith
need_small (form.Array n) first h = omega arith
need_small (form.ByteArray n) first h = absurd h

-- no more than 32 bytes are carried
pub carry_small : (b : Built) (carry : List ℕ) → IsCarry b carry → length carry ≤ 32
carry_small b [] h = omega arith
carry_small b (first ∷ rest) h = omega (arith, h.4, need_small h.0 first h.2)
