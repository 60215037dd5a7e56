-- A compact that is wanted wraps an integer: over nothing it would take no bytes.
use Rattle.std.proofs.Common.{◌≡◌, ℕ, suc, Bool, true, false, List, [], ◌∷◌, length, Option, Some}
use Rattle.std.proofs.Common.{None, refl, sym, ap, ◌∙◌}
use Rattle.std.specs.Prelude.{◌≢◌, if◌then◌else◌}
use Rattle.scale_core.specs.declared.compact.Target.{Target}
use Rattle.scale_core.specs.declared.compact.Target.TheVariants as target
use Rattle.types_core.specs.declared.bits.BitForm.{BitForm}
use Rattle.types_core.specs.declared.definition.TypeDef.{TypeDef}
use Rattle.types_core.specs.declared.definition.TypeDef.TheVariants as Def
use Rattle.types_core.specs.declared.type_id.TypeId.{TypeId}
use Rattle.types_core.specs.declared.type_info.TypeInfo.{TypeInfo}
use Rattle.graph_core.specs.Types.{shape}
use Rattle.widths_core.specs.Layouts.{is_byte}
use Rattle.widths_core.specs.Targets.{target_of}
use Rattle.widths_core.specs.Classes.{is_empty, empty_within, empty_step, is_unit}
use Rattle.widths_core.proofs.Ranks.{holds_at-shape}
use Rattle.grammar_core.specs.Forms.{bits_form, form_of, form_of_shape, array_form, sequence_form}
use Rattle.grammar_core.specs.Forms.{bits_form, compact_form}
use Rattle.grammar_core.specs.declared.form.Form.TheVariants as form
use Rattle.grammar_core.specs.declared.form.Next.TheVariants as next

-- the definition of a type of which a compact is wanted
abbrev Over : List TypeInfo → Target → Option TypeDef → Type 0
Over r m d = (u : TypeId) × (d ≡ Some (Def.Compact u)) × (target_of r u.0 ≡ Some m)

-- the form of a sequence is no compact, so anything follows
no_sequence : {X : Type 0} (m : Target) (empty byte : Bool) →
    sequence_form empty byte ≡ next.Wants (form.Compact m) → X
no_sequence m true byte e = absurd cc
no_sequence m false true e = absurd cc
no_sequence m false false e = absurd cc

-- the form of an array is no compact, so anything follows
no_array : {X : Type 0} (m : Target) (n : ℕ) (byte : Bool) →
    array_form n byte ≡ next.Wants (form.Compact m) → X
no_array m n true e = absurd cc
no_array m n false e = absurd cc

-- the form of a bit sequence is no compact either
no_bits : {X : Type 0} (m : Target) (o : Option BitForm) →
    bits_form o ≡ next.Wants (form.Compact m) → X
no_bits m (Some bits) e = absurd cc
no_bits m None e = absurd cc

-- a compact that is wanted for a target leads to that target
same_target : (m : Target) (o : Option Target) → compact_form o ≡ next.Wants (form.Compact m) →
    o ≡ Some m
same_target m (Some n) e = cc
same_target m None e = absurd cc

-- a definition whose form is a compact for a target is a compact over a type that leads to it
over : (r : List TypeInfo) (m : Target) (d : Option TypeDef) →
    form_of_shape r d ≡ next.Wants (form.Compact m) → Over r m d
over r m None e = absurd cc
over r m (Some (Def.Composite fs)) e = absurd cc
over r m (Some (Def.Variant arms)) e = absurd cc
over r m (Some (Def.Sequence u)) e =
    no_sequence m (is_empty r u.0) (is_byte (shape r u.0)) e
over r m (Some (Def.Array n u)) e = no_array m n (is_byte (shape r u.0)) e
over r m (Some (Def.Tuple ts)) e = absurd cc
over r m (Some (Def.Primitive p)) e = absurd cc
over r m (Some (Def.Compact u)) e = (u, refl, same_target m (target_of r u.0) e)
over r m (Some (Def.BitSequence store order bits)) e = no_bits m bits e

-- a compact over a type that leads to nothing takes no bytes, by some number of levels
unit_is_empty : (r : List TypeInfo) (k t : ℕ) (u : TypeId) → shape r t ≡ Some (Def.Compact u) →
    target_of r u.0 ≡ Some target.Unit → empty_within r (suc k) t ≡ true
unfolding empty_within
unit_is_empty r k t u s e = holds_at-shape r (empty_step r (empty_within r k)) t (Def.Compact u) s
    ∙ ap is_unit e

-- a compact over a type that leads to nothing is one of the types without bytes
takes_no_bytes : (r : List TypeInfo) (t : ℕ) (u : TypeId) → shape r t ≡ Some (Def.Compact u) →
    target_of r u.0 ≡ Some target.Unit → is_empty r t ≡ true
takes_no_bytes [] t u s e = absurd cc
takes_no_bytes (x ∷ r) t u s e = unit_is_empty (x ∷ r) (length r) t u s e

-- the target of a compact that is wanted
pub wanted_target : (r : List TypeInfo) (t : ℕ) (m : Target) →
    form_of r t ≡ next.Wants (form.Compact m) → m ≢ target.Unit
wanted_target r t m e is = by (is_empty r t) refl e where
  by : (empty : Bool) → is_empty r t ≡ empty →
      (if empty then next.Wants form.Empty else form_of_shape r (shape r t))
      ≡ next.Wants (form.Compact m) → ⊥
  by true h f = absurd cc
  by false h f = let o = over r m (shape r t) f in let no = sym h
      ∙ takes_no_bytes r t o.0 o.1 (o.2 ∙ ap (λ (n : Target). Some n) is) in absurd cc
