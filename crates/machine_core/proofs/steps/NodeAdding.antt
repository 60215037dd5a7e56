-- A node that is added by its own bytes, or refused.
use Rattle.std.proofs.Common.{◌≡◌, ℕ, false, List, [], Option, Ok, Err, refl, ap, ◌∙◌}
use Rattle.scale_core.specs.Read.{Read, place}
use Rattle.widths_core.specs.Layouts as layout
use Rattle.widths_core.specs.declared.run_kind.RunKind.{RunKind}
use Rattle.value_core.specs.Built.{Built, next_layout}
use Rattle.grammar_core.specs.Parts.{Part}
use Rattle.grammar_core.specs.Preorder.{Head}
use Rattle.grammar_core.specs.Reading.{Refusal}
use Rattle.grammar_core.specs.Runs.{run_form}
use Rattle.value_core.specs.Walked.{next_of}
use Rattle.grammar_core.specs.declared.form.Form.{Form}
use Rattle.grammar_core.specs.declared.form.Form.TheVariants as form
use Rattle.grammar_core.specs.declared.form.Next.TheVariants as next
use Rattle.value_core.proofs.Forms.{HasForm, form_layout, run_layout, wanted}
use Rattle.outcome_core.specs.Machine.{is_cut}
use Rattle.form_core.specs.Needs.{AreOwn, HasBytes, NoRun}
use Rattle.machine_core.specs.NodeAdds.{AddsNode}
use Rattle.machine_core.specs.Reasons.{reason_of}
use Rattle.outcome_core.specs.Reported.{own_at}
use Rattle.machine_core.specs.declared.node.NodeFault.{NodeFault}
use Rattle.machine_core.specs.declared.node.NodeFault.TheVariants as fault
use Rattle.outcome_core.proofs.Targets.{wanted_target}
use Rattle.machine_core.proofs.steps.Whole.{IsTakenWhole, NeedsThese, form_whole}

-- the layout of the next type has the form that is wanted
pub next_has : (b : Built) (f : Form) → next_of b.walk ≡ next.Wants f → HasForm f (next_layout b)
next_has b f h = let w = wanted b.walk f h in
    rw w.is_next (form_layout b.walk.types w.ty f w.form_is)

-- so has that of a run
pub next_run : (b : Built) (k : RunKind) → next_of b.walk ≡ next.Wants (run_form k) →
    next_layout b ≡ layout.plain (layout.run k)
next_run b k h = let w = wanted b.walk (run_form k) h in
    rw w.is_next (run_layout b.walk.types w.ty k w.form_is)

-- the bytes that a form needs are just those of the node, if it is no run
needs_these : (b : Built) (f : Form) (own : List ℕ) → next_of b.walk ≡ next.Wants f → HasBytes f →
    NoRun f → AreOwn f own → NeedsThese f own
needs_these b form.Empty own h s n k = (s, k)
needs_these b (form.Primitive p) own h s n k = (n, k)
needs_these b (form.Compact m) own h s n k = let w = wanted b.walk (form.Compact m) h in
    (wanted_target b.walk.types w.ty m w.form_is, k)
needs_these b form.Fields own h s n k = (s, k)
needs_these b form.Arm own h s n k = (s, k)
needs_these b (form.Array n') own h s n k = (s, k)
needs_these b (form.ByteArray n') own h s n k = absurd n
needs_these b form.Bytes own h s n k = n
needs_these b (form.Bits f) own h s n k = absurd n
needs_these b form.Sequence own h s n k = (s, k)
needs_these b form.Count own h s n k = (s, k)

-- nothing of these bytes is left over, and no more are waited for
pub own_whole : (b : Built) (f : Form) (own : List ℕ) → next_of b.walk ≡ next.Wants f → HasBytes f →
    NoRun f → AreOwn f own → IsTakenWhole (own_at (next_layout b) own)
own_whole b f own h s n k =
    form_whole f (next_layout b) own (next_has b f h) (needs_these b f own h s n k)

-- where bytes are enough for a node and are read, nothing is left
none_left : {X : Type 0} (read : Read Refusal X) (x : X) (rest : List ℕ) → IsTakenWhole read →
    read ≡ Ok (x, rest) → read ≡ Ok (x, [])
none_left read x rest h e = let nil : rest ≡ [] = (rw e at h) in e
    ∙ ap (λ (r : List ℕ). Ok (x, r)) nil

-- where bytes are enough for a node and are refused, the refusal does not wait for more
no_wait : {X : Type 0} (read : Read Refusal X) (e : Refusal) (left : List ℕ) → IsTakenWhole read →
    read ≡ Err (e, left) → is_cut e ≡ false
no_wait read e left h is = (rw is at h)

-- what was read of a node is all that its bytes spell
pub all_read : (f : Form) (b : Built) (own : List ℕ) (x : Head × Option Part) →
    next_of b.walk ≡ next.Wants f → HasBytes f → NoRun f → AreOwn f own →
    ((rest : List ℕ) × (own_at (next_layout b) own ≡ Ok (x, rest))) →
    own_at (next_layout b) own ≡ Ok (x, [])
all_read f b own x h s n a r =
    none_left (own_at (next_layout b) own) x r.0 (own_whole b f own h s n a) r.1

-- a node whose reading is refused
pub node_refused : (f : Form) (b : Built) (own : List ℕ) (e : Refusal) (at : ℕ)
    (reported : NodeFault) →
    next_of b.walk ≡ next.Wants f → HasBytes f → NoRun f → AreOwn f own →
    ((left : List ℕ) × (own_at (next_layout b) own ≡ Err (e, left)) × (at ≡ place own left)) →
    reported ≡ fault.Refused (reason_of e) at → AddsNode b b own (Err reported)
node_refused f b own e at reported h s n a r is =
    rw is (
      (
        e,
        r.0,
        r.1,
        no_wait (own_at (next_layout b) own) e r.0 (own_whole b f own h s n a) r.1,
        refl,
        r.2,
      ),
      refl,
    )
