-- What a turn does to a decoder in progress: it holds bytes, or adds a node.
use Rattle.value_core.specs.Built.{IsClean}
use Rattle.std.proofs.Common.{◌≡◌, ℕ, suc, ◌≤◌, List, [], ◌∷◌, ◌++◌, length, Option, Some, None, Ok}
use Rattle.std.proofs.Common.{Err, refl, sym, ap, subst, ◌∙◌, arith, inl, inr, length-append}
use Rattle.std.proofs.lemmas.List.{append-nil}
use Rattle.std.specs.Prelude.{◌⊎◌}
use Rattle.scale_core.specs.Read.{Read}
use Rattle.scale_core.specs.declared.fault.Reason.{Reason}
use Rattle.scale_core.proofs.Results.{Takes}
use Rattle.widths_core.specs.declared.run_kind.RunKind.{RunKind}
use Rattle.widths_core.specs.declared.run_kind.RunKind.TheVariants as kind
use Rattle.grammar_core.specs.Runs.{IsRunLength, run_form, run_front, run_length_at}
use Rattle.grammar_core.proofs.Runs.{length_is, length_takes}
use Rattle.value_core.specs.Built.{Built, Pieces, next_entry, with_run_opened}
use Rattle.grammar_core.specs.Parts.{Part}
use Rattle.grammar_core.specs.Preorder.{Head}
use Rattle.value_core.specs.Walked.{next_of}
use Rattle.grammar_core.specs.declared.form.Form.{Form}
use Rattle.grammar_core.specs.declared.form.Next.TheVariants as next
use Rattle.form_core.specs.Needs.{AreOwn}
use Rattle.machine_core.specs.NodeAdds.{IsAdded, IsRunOpened, with_own}
use Rattle.machine_core.specs.Running.{IsLength, IsRunning, held_of, run_held}
use Rattle.machine_core.specs.Turned.{IsSame, Steps}
use Rattle.machine_core.proofs.steps.Settling.{added_run, added_running}
use Rattle.machine_core.proofs.steps.MachineTurn.{AtNext, at_next, added_leads}

-- to add a node leaves it the same value, whatever is carried
own_same : (b : Built) (c d : List ℕ) (x : Head × Option Part) →
    IsSame (record { built = b; carry = c }) (record { built = with_own b x; carry = d })
own_same b c d (h, None) = record { types = refl; limit = refl; ty = refl }
own_same b c d (h, Some p) = record { types = refl; limit = refl; ty = refl }

-- the same for a node that own bytes are known to have added
pub added_same : (b new : Built) (c d own : List ℕ) → IsAdded b new own →
    IsSame (record { built = b; carry = c }) (record { built = new; carry = d })
added_same b new c d own h =
    subst (λ (s : Built). IsSame (record { built = b; carry = c })
    (record { built = s; carry = d })) (sym h.2) (own_same b c d h.0)

-- nothing is held where nothing is carried and no run is open
pub held_closed : (b : Built) (c : List ℕ) → b.run ≡ None →
    held_of (record { built = b; carry = c }) ≡ c
held_closed b c h = ap (λ (o : Option Pieces). run_held o c) h

-- to add a node makes the nodes one more
own_count : (b : Built) (x : Head × Option Part) →
    length (with_own b x).entries ≡ suc (length b.entries)
own_count b (h, None) = omega (arith, length-append b.entries (next_entry b h ∷ []))
own_count b (h, Some p) = omega (arith, length-append b.entries (next_entry b h ∷ []))

-- it is one node
pub added_count : (b new : Built) (own : List ℕ) → IsAdded b new own →
    length new.entries ≡ suc (length b.entries)
added_count b new own h = ap (λ (s : Built). length s.entries) h.2 ∙ own_count b h.0

-- a node is added by the bytes that were held and more
pub added_steps : (b new : Built) (c own bytes : List ℕ) → AtNext b → b.run ≡ None →
    c ++ bytes ≡ own → IsAdded b new own →
    Steps (record { built = b; carry = c }) (record { built = new; carry = [] }) bytes
added_steps b new c own bytes n closed is h =
    inr (
      held_closed new [] (added_run b new own closed h),
      rw (held_closed b c closed, is) (added_leads b new own n h),
      added_count b new own h,
    )

-- a run's length that is read and leaves nothing is what stands before the run
spelled_of : (k : RunKind) (own : List ℕ) (n : ℕ) (read : Read Reason ℕ) →
    Takes (IsRunLength k) own read → read ≡ Ok (n, []) → own ≡ run_front k n
spelled_of k own n (Err e) h is = absurd cc
spelled_of k own n (Ok x) h is =
    let nil : x.1 ≡ [] = cc in
    let same : x.0 ≡ n = cc in
    h.1 ∙ ap (λ (l : List ℕ). h.0 ++ l) nil ∙ append-nil h.0 ∙ length_is k x.0 h.0 h.2
    ∙ ap (run_front k) same

-- the same for the reading of a run's length
spelled_length : (k : RunKind) (own : List ℕ) (n : ℕ) → run_length_at k own ≡ Ok (n, []) →
    own ≡ run_front k n
spelled_length k own n h = spelled_of k own n (run_length_at k own) (length_takes k own) h

-- a run is open by the bytes of its length
pub opened_steps : (b : Built) (c own bytes : List ℕ) (k : RunKind) (n : ℕ) → b.run ≡ None →
    c ++ bytes ≡ own → 1 ≤ length bytes → run_length_at k own ≡ Ok (n, []) →
    Steps (record { built = b; carry = c }) (record { built = with_run_opened b k n; carry = [] })
    bytes
opened_steps b c own bytes k n closed is some h =
    inl (
      some,
      refl,
      append-nil (run_front k n) ∙ sym (spelled_length k own n h) ∙ sym is
          ∙ ap (λ (l : List ℕ). l ++ bytes) (sym (held_closed b c closed)),
    )

-- what a node's own bytes make of a decoder, be it a run or not
pub taken_steps : (f : Form) (b new : Built) (c own bytes : List ℕ) → AtNext b →
    b.run ≡ None → c ++ bytes ≡ own → 1 ≤ length bytes →
    IsAdded b new own ⊎ IsRunOpened f b new own →
    Steps (record { built = b; carry = c }) (record { built = new; carry = [] }) bytes
taken_steps f b new c own bytes n closed is some (inl h) =
    added_steps b new c own bytes n closed is h
taken_steps f b new c own bytes n closed is some (inr h) =
    subst (λ (s : Built). Steps (record { built = b; carry = c }) (record { built = s; carry = [] })
    bytes) (sym h.4) (opened_steps b c own bytes h.0 h.1 closed is some h.3)

-- a node that is added, or a run that is opened, leaves it the same value
pub taken_same : (f : Form) (b new : Built) (c d own : List ℕ) →
    IsAdded b new own ⊎ IsRunOpened f b new own →
    IsSame (record { built = b; carry = c }) (record { built = new; carry = d })
taken_same f b new c d own (inl h) = added_same b new c d own h
taken_same f b new c d own (inr h) =
    subst (λ (s : Built). IsSame (record { built = b; carry = c })
    (record { built = s; carry = d })) (sym h.4)
    (record { types = refl; limit = refl; ty = refl })

-- no byte has an unused bit
clean_none : (k : RunKind) (n : ℕ) → IsClean k n []
clean_none kind.Text n = tt
clean_none kind.Bytes n = tt
clean_none (kind.ByteArray m) n = tt
clean_none (kind.Bits f) n = refl

-- with a run opened that is next, a decoder is in progress
pub opened_running : (b : Built) (c : List ℕ) (k : RunKind) (n : ℕ) → IsRunning b c →
    next_of b.walk ≡ next.Wants (run_form k) → IsLength k n →
    IsRunning (with_run_opened b k n) []
opened_running b c k n h wants len = record {
  rooted = h.rooted;
  deep = h.deep;
  settled = h.settled;
  carried = tt;
  run_next = (wants, refl, len, clean_none k n);
}

-- after the next node's bytes were taken, a decoder is in progress with nothing carried
pub taken_running : (f : Form) (b new : Built) (c own : List ℕ) → IsRunning b c →
    next_of b.walk ≡ next.Wants f → b.run ≡ None → AreOwn f own →
    IsAdded b new own ⊎ IsRunOpened f b new own → IsRunning new []
taken_running f b new c own h wants closed a (inl k) =
    added_running b new own (at_next b f wants) closed k
taken_running f b new c own h wants closed a (inr k) =
    let wants_run = subst (λ (g : Form). next_of b.walk ≡ next.Wants g) k.2 wants in
    let spelled = spelled_length k.0 own k.1 k.3 in
    let own_run : AreOwn (run_form k.0) own = subst (λ (g : Form). AreOwn g own) k.2 a in
    let len : IsLength k.0 k.1 =
    record {
      own = λ has. subst (AreOwn (run_form k.0)) spelled own_run;
      read =
          ap (run_length_at k.0) (sym spelled) ∙ k.3;
    } in
    rw k.4 (opened_running b c k.0 k.1 h wants_run len)
