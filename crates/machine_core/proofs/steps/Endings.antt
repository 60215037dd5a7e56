-- Turns that need no bytes and add nothing: the value is whole, or the next type cannot be read.
use Rattle.std.proofs.Common.{◌≡◌, ℕ, ◌+◌, ◌-◌, ◌≤◌, Bool, true, false, List, [], ◌∷◌, ◌++◌, length}
use Rattle.std.proofs.Common.{Option, Some, None, Ok, refl, sym, ap, ◌∙◌, arith}
use Rattle.std.specs.Prelude.{is_none, nat_lt, if◌then◌else◌}
use Rattle.scale_core.specs.declared.compact.Target.{Target}
use Rattle.types_core.specs.declared.bits.BitForm.{BitForm}
use Rattle.types_core.specs.declared.definition.TypeDef.{TypeDef}
use Rattle.types_core.specs.declared.definition.TypeDef.TheVariants as Def
use Rattle.types_core.specs.declared.type_info.TypeInfo.{TypeInfo}
use Rattle.graph_core.specs.Types.{shape}
use Rattle.widths_core.specs.Layouts.{is_byte}
use Rattle.widths_core.specs.Targets.{target_of}
use Rattle.widths_core.specs.Classes.{is_finite, is_empty}
use Rattle.grammar_core.specs.Forms.{bits_form, form_of, form_of_shape, array_form, sequence_form}
use Rattle.grammar_core.specs.Forms.{bits_form, compact_form}
use Rattle.grammar_core.specs.Parts.{Part, first_of}
use Rattle.grammar_core.specs.declared.form.Form.{Form}
use Rattle.grammar_core.specs.declared.form.Form.TheVariants as form
use Rattle.grammar_core.specs.declared.form.Next.TheVariants as next
use Rattle.grammar_core.specs.declared.form.StopReason.{StopReason}
use Rattle.grammar_core.specs.declared.form.StopReason.TheVariants as stopped
use Rattle.value_core.specs.Built.{Built, Pieces, settled_in}
use Rattle.value_core.specs.Refusals.{is_whole_in}
use Rattle.value_core.specs.Walked.{OpenPart, Walked, first_in, next_from, next_of, next_type}
use Rattle.value_core.proofs.Begun.{settled_short}
use Rattle.outcome_core.specs.Machine.{State, remain}
use Rattle.machine_core.specs.Reasons.{reason_of, stop_refusal}
use Rattle.machine_core.specs.Running.{IsCarry, IsRunning, IsRunNext, held_of, run_held, state_of}
use Rattle.outcome_core.specs.Reported.{reported, rest_reported}
use Rattle.machine_core.specs.Turned.{EndsTurns}
use Rattle.machine_core.specs.declared.turned.Stopped.TheVariants as stop
use Rattle.machine_core.proofs.steps.Refusing.{no_cut, stop_refuses}
use Rattle.machine_core.proofs.steps.MachineTurn.{whole_reported}

-- ---- a type that is next has a form or a reason

-- no definition has the form that nothing is next
shape_goes_on : (r : List TypeInfo) (d : Option TypeDef) → form_of_shape r d ≡ next.Finished → ⊥
shape_goes_on r None e = absurd cc
shape_goes_on r (Some (Def.Composite fs)) e = absurd cc
shape_goes_on r (Some (Def.Variant arms)) e = absurd cc
shape_goes_on r (Some (Def.Sequence t)) e = by (is_empty r t.0) (is_byte (shape r t.0)) e where
  by : (empty byte : Bool) → sequence_form empty byte ≡ next.Finished → ⊥
  by true byte h = absurd cc
  by false true h = absurd cc
  by false false h = absurd cc
shape_goes_on r (Some (Def.Array n t)) e = by (is_byte (shape r t.0)) e where
  by : (byte : Bool) → array_form n byte ≡ next.Finished → ⊥
  by true h = absurd cc
  by false h = absurd cc
shape_goes_on r (Some (Def.Tuple ts)) e = absurd cc
shape_goes_on r (Some (Def.Primitive p)) e = absurd cc
shape_goes_on r (Some (Def.Compact t)) e = by (target_of r t.0) e where
  by : (m : Option Target) → compact_form m ≡ next.Finished → ⊥
  by (Some m) h = absurd cc
  by None h = absurd cc
shape_goes_on r (Some (Def.BitSequence store order bits)) e = by bits e where
  by : (o : Option BitForm) → bits_form o ≡ next.Finished → ⊥
  by (Some b) h = absurd cc
  by None h = absurd cc

-- no type has the form that nothing is next
form_goes_on : (r : List TypeInfo) (t : ℕ) → form_of r t ≡ next.Finished → ⊥
form_goes_on r t e = by (is_empty r t) e where
  by : (empty : Bool) → (if empty then next.Wants form.Empty else form_of_shape r (shape r t))
      ≡ next.Finished → ⊥
  by true h = absurd cc
  by false h = shape_goes_on r (shape r t) h

-- where nothing comes next, there is no next type
type_goes_on : (w : Walked) (o : Option ℕ) → next_from w o ≡ next.Finished → o ≡ None
type_goes_on w None e = refl
type_goes_on w (Some t) e =
    absurd (by (nat_lt (w.limit + 1) (length w.frames)) (is_finite w.types t) e) where
      by : (deep finite : Bool) →
          (if deep then next.Stop stopped.TooDeep else
          (if finite then form_of w.types t else next.Stop stopped.NoFiniteValue))
          ≡ next.Finished → ⊥
      by true finite h = absurd cc
      by false false h = absurd cc
      by false true h = form_goes_on w.types t h

-- ---- nothing is held

-- nothing is carried where no form is wanted
no_carry : (b : Built) (c : List ℕ) → IsCarry b c →
    ((f : Form) → next_of b.walk ≡ next.Wants f → ⊥) → c ≡ []
no_carry b [] h never = refl
no_carry b (x ∷ c) h never = absurd (never h.0 h.1)

-- nothing is held, in a run or beside, where no form is wanted
nothing_by : (b : Built) (c : List ℕ) (run : Option Pieces) → IsCarry b c → IsRunNext b c run →
    ((f : Form) → next_of b.walk ≡ next.Wants f → ⊥) → run_held run c ≡ []
nothing_by b c None h k never = no_carry b c h never
nothing_by b c (Some t) h k never = absurd (never _ k.0)

-- a decoder in progress holds nothing where no form is wanted
nothing_held : (b : Built) (c : List ℕ) → IsRunning b c →
    ((f : Form) → next_of b.walk ≡ next.Wants f → ⊥) →
    held_of (record { built = b; carry = c }) ≡ []
nothing_held b c h never = nothing_by b c b.run h.carried h.run_next never

-- ---- the value is whole

-- where what is whole is closed and nothing is next, only the root's own part is open
alone : (fs : List OpenPart) → 1 ≤ length fs → settled_in fs ≡ fs → first_in fs ≡ None →
    (f : OpenPart) × (fs ≡ f ∷ []) × (first_of f.left ≡ None)
alone [] some h e = absurd (omega (arith, some))
alone (f ∷ []) some h e = (f, refl, e)
alone (f ∷ g ∷ fs) some h e =
    let closed : settled_in (f ∷ g ∷ fs) ≡ settled_in (g ∷ fs) =
    ap (λ (o : Option ℕ). elim o [ Some t ↦ f ∷ g ∷ fs | None ↦ settled_in (g ∷ fs) ]) e in
    absurd (omega (arith, ap length (sym h ∙ closed), settled_short (g ∷ fs)))

-- where one part is open and has nothing left, nothing is read
one_part : (r : List TypeInfo) (room : ℕ) (p : Part) (x : List ℕ) → first_of p ≡ None →
    rest_reported r room (p ∷ []) x ≡ reported [] (Ok x)
unfolding rest_reported
one_part r room p x h = whole_reported r room p [] x h

-- with the root's own part alone open, the state has just this part pending
finished_state : (b : Built) (f : OpenPart) → b.walk.frames ≡ f ∷ [] →
    state_of b ≡ record { nodes = b.entries; room = b.walk.limit + 2 - 1; pending = f.left ∷ [] }
finished_state b f h = rw h refl

-- where nothing is next, the turns end with a value that is whole
pub finished_stops : (b : Built) (c piece : List ℕ) → IsRunning b c →
    next_of b.walk ≡ next.Finished →
    EndsTurns (record { built = b; carry = c }) piece stop.Finished
finished_stops b c piece h is =
    let one = alone b.walk.frames h.rooted h.settled
    (type_goes_on b.walk (next_type b.walk) is) in (
      λ x. ap (λ (s : State). remain b.walk.types s x) (finished_state b one.0 one.1)
          ∙ one_part b.walk.types (b.walk.limit + 2 - 1) one.0.left x one.2,
      nothing_held b c h (λ f e. let both = sym is ∙ e in absurd cc),
      ap is_whole_in one.1 ∙ ap is_none one.2,
    )

-- ---- the next type stops

-- where the next type stops, the turns end with its refusal, and no byte decides it
pub stop_stops : (b : Built) (c piece : List ℕ) (why : StopReason) → IsRunning b c →
    next_of b.walk ≡ next.Stop why →
    EndsTurns (record { built = b; carry = c }) piece
    (stop.Refused 0 (reason_of (stop_refusal why)) 0 0)
stop_stops b c piece why h is =
    let none = nothing_held b c h (λ f e. let both = sym is ∙ e in absurd cc) in
    let x = held_of (record { built = b; carry = c }) ++ piece in
    let r = stop_refuses b why is x in (
      stop_refusal why,
      x,
      no_cut why,
      refl,
      sym (ap length none),
      omega arith,
      r.reports,
      r.decided,
      omega arith,
    )
