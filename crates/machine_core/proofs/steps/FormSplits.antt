-- Which forms have bytes of their own.
use Rattle.std.proofs.Common.{◌≡◌, ℕ, List, true, Option, None, Some, IfSome, refl, subst}
use Rattle.std.specs.Prelude.{◌≢◌, is_some}
use Rattle.scale_core.specs.Read.{compact_at}
use Rattle.scale_core.specs.declared.compact.Target.TheVariants as target
use Rattle.widths_core.specs.declared.run_kind.RunKind.{RunKind}
use Rattle.widths_core.specs.declared.run_kind.RunKind.TheVariants as kind
use Rattle.grammar_core.specs.Runs.{run_form, run_length_at}
use Rattle.grammar_core.specs.declared.form.Form.{Form}
use Rattle.grammar_core.specs.declared.form.Form.TheVariants as form
use Rattle.form_core.specs.Needs.{HasBytes, IsBare}
use Rattle.form_core.specs.NodeForms.{form_of_bytes}
use Rattle.form_core.specs.declared.forms.BytesForm.{BytesForm}
use Rattle.form_core.specs.declared.forms.BytesForm.TheVariants as bytes
use Rattle.machine_core.proofs.steps.PlainAdding.{plain_bytes}

-- the length of a run that has bytes of its own is a compact
pub length_compact : (k : RunKind) (own : List ℕ) → HasBytes (run_form k) →
    run_length_at k own ≡ compact_at target.U32 own
length_compact kind.Text own h = refl
length_compact kind.Bytes own h = refl
length_compact (kind.ByteArray n) own h = absurd h
length_compact (kind.Bits f) own h = refl

-- the forms that are read by their bytes have bytes of their own
pub have_bytes : (f : BytesForm) → HasBytes (form_of_bytes f)
have_bytes (bytes.Plain p) = plain_bytes p
have_bytes _ = tt

-- the bare forms have no bytes of their own that are carried
pub have_none : (f : Form) → IsBare f → HasBytes f → ⊥
have_none form.Empty bare h = h
have_none form.Fields bare h = h
have_none (form.Array n) bare h = h
have_none _ bare h = bare

-- a form is one of bytes of its own where it is split so
pub split_bytes : (found : Option BytesForm) (f : Form) → is_some found ≡ true →
    IfSome found (λ own. form_of_bytes own ≡ f) → HasBytes f
split_bytes None f is h = absurd cc
split_bytes (Some own) f is h = subst HasBytes h (have_bytes own)

-- and else an array of u8, or bare
pub split_bare : (f : Form) → (HasBytes f → ⊥) → ((n : ℕ) → f ≢ form.ByteArray n) → IsBare f
split_bare form.Empty none other = tt
split_bare form.Fields none other = tt
split_bare (form.Array n) none other = tt
split_bare (form.ByteArray n) none other = absurd (other n refl)
split_bare _ none other = absurd (none tt)

-- a bare form without parts is the one of a type that takes no bytes
pub bare_empty : (f : Form) → IsBare f → f ≢ form.Fields → ((n : ℕ) → f ≢ form.Array n) →
    f ≡ form.Empty
bare_empty form.Empty bare fields array = refl
bare_empty form.Fields bare fields array = absurd (fields refl)
bare_empty (form.Array n) bare fields array = absurd (array n refl)
bare_empty _ bare fields array = absurd bare
