-- What a turn does and keeps, by what it called.
use Rattle.std.proofs.Common.{◌≡◌, ℕ, zero, suc, ◌+◌, ◌-◌, ◌<◌, ◌≤◌, List, [], ◌∷◌, ◌++◌, length}
use Rattle.std.proofs.Common.{take, drop, min, None, Result, Ok, Err, refl, sym, ap}
use Rattle.std.proofs.Common.{subst, ◌∙◌, append_assoc, arith, inl, inr, length-append}
use Rattle.std.specs.Prelude.{◌==◌, true}
use Rattle.std.proofs.lemmas.Bool.{eqb-true}
use Rattle.std.proofs.lemmas.List.{take-append-drop, length-take}
use Rattle.std.proofs.Math.Seq.{take-append_seam}
use Rattle.widths_core.specs.declared.run_kind.RunKind.{RunKind}
use Rattle.widths_core.specs.declared.run_kind.RunKind.TheVariants as kind
use Rattle.value_core.specs.Built.{Built, next_layout}
use Rattle.value_core.specs.Walked.{next_of}
use Rattle.grammar_core.specs.Runs.{run_form}
use Rattle.grammar_core.specs.declared.form.Form.{Form}
use Rattle.grammar_core.specs.declared.form.Next.{Next}
use Rattle.grammar_core.specs.declared.form.Next.TheVariants as next
use Rattle.form_core.specs.Needs.{need, AreOwn, HasBytes, IsNeeded}
use Rattle.form_core.specs.NodeForms.{form_of_bytes}
use Rattle.form_core.specs.declared.forms.BytesForm.{BytesForm}
use Rattle.form_core.specs.declared.forms.BytesForm.TheVariants as bytes
use Rattle.machine_core.specs.NodeAdds.{IsRefused, IsSpelled, TakesNode, AddsBytes}
use Rattle.machine_core.specs.NodeAdds.{IsAdded}
use Rattle.machine_core.specs.Running.{Running, IsRunning, IsCarry, held_of}
use Rattle.machine_core.specs.Turned.{IsSame, Steps, StepReports, EndsTurns, WantsMemory}
use Rattle.machine_core.specs.Turned.{HasParts, node_turned}
use Rattle.outcome_core.specs.Reported.{own_at}
use Rattle.grammar_core.specs.Reading.{truncated}
use Rattle.machine_core.specs.declared.reason.DecodeReason.{DecodeReason}
use Rattle.machine_core.specs.declared.node.NodeFault.{NodeFault}
use Rattle.machine_core.specs.declared.node.NodeFault.TheVariants as fault
use Rattle.machine_core.specs.declared.turned.Stopped.TheVariants as stop
use Rattle.machine_core.specs.Turned.{Turned}
use Rattle.machine_core.proofs.steps.Refusing.{IsShortOf, own_short, refuses}
use Rattle.machine_core.proofs.steps.Settling.{added_running, added_run}
use Rattle.machine_core.proofs.steps.MachineTurn.{at_next}
use Rattle.machine_core.proofs.steps.TurnEffects.{added_same, added_steps, held_closed}
use Rattle.machine_core.proofs.steps.TurnEffects.{taken_running}
use Rattle.machine_core.proofs.steps.TurnEffects.{taken_same, taken_steps}

-- what comes next has one form
same_form : (w : Next) (f g : Form) → w ≡ next.Wants f → w ≡ next.Wants g → f ≡ g
same_form w f g h k = let both = sym h ∙ k in cc

-- nothing is carried for a node without bytes of its own
pub carry_none : (b : Built) (carry : List ℕ) (f : Form) → IsCarry b carry →
    next_of b.walk ≡ next.Wants f → (HasBytes f → ⊥) → carry ≡ []
carry_none b [] f h k bare = refl
carry_none b (x ∷ xs) f h k bare =
    absurd (bare (subst HasBytes (same_form (next_of b.walk) h.0 f h.1 k) h.2))

-- with nothing carried, a decoder stays in progress where a node without bytes is added or not
bare_by : {E : Type 0} (b new : Built) (f : Form) (added : Result (Unit {0}) E) →
    IsRunning b [] → next_of b.walk ≡ next.Wants f → b.run ≡ None →
    AddsBytes b new [] added → IsRunning new []
bare_by b new f (Ok u) h k closed adds = added_running b new [] (at_next b f k) closed adds
bare_by b new f (Err e) h k closed adds = subst (λ (s : Built). IsRunning s []) (sym adds.1) h

-- a decoder stays in progress, with its carry, where a node without own bytes is added or not
pub bare_running : {E : Type 0} (b new : Built) (carry : List ℕ) (f : Form)
    (added : Result (Unit {0}) E) → IsRunning b carry → next_of b.walk ≡ next.Wants f →
    (HasBytes f → ⊥) → b.run ≡ None → AddsBytes b new [] added → IsRunning new carry
bare_running b new carry f added h k bare closed adds =
    let none = carry_none b carry f h.carried k bare in
    rw none (bare_by b new f added (rw none at h) k closed adds)

-- to add a node without bytes is a turn that goes on and takes no bytes
pub bare_reports : (b new : Built) (carry : List ℕ) (f : Form) →
    IsRunning b carry → next_of b.walk ≡ next.Wants f → (HasBytes f → ⊥) → b.run ≡ None →
    IsAdded b new [] →
    IsSame (record { built = b; carry = carry }) (record { built = new; carry = carry })
    × Steps (record { built = b; carry = carry }) (record { built = new; carry = carry }) []
bare_reports b new carry f h k bare closed adds =
    let none = carry_none b carry f h.carried k bare in
    subst (λ (c : List ℕ). IsSame (record { built = b; carry = c })
    (record { built = new; carry = c })
    × Steps (record { built = b; carry = c }) (record { built = new; carry = c }) []) (sym none) (
      added_same b new [] [] [] adds,
      added_steps b new [] [] [] (at_next b f k) closed refl adds,
    )

-- memory is wanted for a node without bytes of its own
pub bare_wants : (b : Built) (carry : List ℕ) (f : Form) →
    IsRunning b carry → next_of b.walk ≡ next.Wants f → (HasBytes f → ⊥) → b.run ≡ None →
    IsSpelled b [] → (rest : List ℕ) → WantsMemory (record { built = b; carry = carry }) rest
bare_wants b carry f h k bare closed is rest =
    let held : held_of (record { built = b; carry = carry }) ≡ [] = held_closed b carry closed
    ∙ carry_none b carry f h.carried k bare in
    record {
      form = f;
      next = k;
      bytes = [];
      later = rest;
      is = refl;
      keeps =
          inl (is.0, ap (λ (l : List ℕ). own_at (next_layout b) (l ++ [])) held ∙ is.1);
    }

-- ---- a node's own bytes

-- memory is wanted for a node that its bytes spell
pub node_wants : (f : Form) (b : Built) (c bytes rest own : List ℕ) →
    next_of b.walk ≡ next.Wants f →
    b.run ≡ None → c ++ bytes ≡ own → IsSpelled b own →
    WantsMemory (record { built = b; carry = c }) (bytes ++ rest)
node_wants f b c bytes rest own wants closed is k = record {
  form = f;
  next = wants;
  bytes = bytes;
  later = rest;
  is = refl;
  keeps = inl (
    k.0,
    ap (own_at (next_layout b))
        (ap (λ (l : List ℕ). l ++ bytes) (held_closed b c closed) ∙ is)
        ∙ k.1,
  );
}

-- a decoder in progress without an open run is so also with its carry dropped
dropped : (b : Built) (c : List ℕ) → IsRunning b c → b.run ≡ None → IsRunning b []
dropped b c h closed = record {
  rooted = h.rooted;
  deep = h.deep;
  settled = h.settled;
  carried = tt;
  run_next = rw closed tt;
}

-- a decoder is in progress after the next node's bytes, whatever they made of it
pub node_running : (f : Form) (b new : Built) (c own : List ℕ)
    (taken : Result (Unit {0}) NodeFault) → IsRunning b c → next_of b.walk ≡ next.Wants f →
    b.run ≡ None → AreOwn f own → TakesNode f b new own taken → IsRunning new []
node_running f b new c own (Ok u) h wants closed a k =
    taken_running f b new c own h wants closed a k
node_running f b new c own (Err (fault.Refused reported_reason at)) h wants closed a k =
    rw k.1 (dropped b c h closed)
node_running f b new c own (Err (fault.OutOfMemory _)) h wants closed a k =
    rw k.1 (dropped b c h closed)

-- where held bytes and those of a piece refuse the next node, the turns end with that
refused_reports : (b new : Built) (c bytes rest own : List ℕ)
    (f : Form) (reported_reason : DecodeReason)
    (at : ℕ) → next_of b.walk ≡ next.Wants f → HasBytes f → b.run ≡ None → AreOwn f own →
    c ++ bytes ≡ own → IsRefused b own reported_reason at →
    EndsTurns (record { built = b; carry = c }) (bytes ++ rest)
    (stop.Refused (length c) reported_reason at (length own))
refused_reports b new c bytes rest own f reported_reason at wants some closed a is h =
    let x = held_of (record { built = b; carry = c }) ++ (bytes ++ rest) in
    let whole : x ≡ own ++ rest = ap (λ (l : List ℕ). l ++ (bytes ++ rest)) (held_closed b c closed)
    ∙ sym (append_assoc c bytes rest) ∙ ap (λ (l : List ℕ). l ++ rest) is in
    let r = refuses b f own rest h.1 h.0 wants some a h.2 h.3 in
    let place_is : at ≡ length x - length (h.1 ++ rest) =
    omega (arith, h.5, ap length whole, length-append own rest, length-append h.1 rest) in (
      h.0,
      h.1 ++ rest,
      h.3,
      h.4,
      ap length (sym (held_closed b c closed)),
      place_is,
      rw whole r.reports,
      rw whole r.decided,
      omega (arith, ap length is, length-append c bytes),
    )

-- a turn that took the next node's bytes reports what they made of it
pub node_reports : (f : Form) (b new : Built) (c bytes rest own : List ℕ)
    (taken : Result (Unit {0}) NodeFault) → next_of b.walk ≡ next.Wants f → HasBytes f →
    b.run ≡ None → AreOwn f own → c ++ bytes ≡ own → 1 ≤ length bytes →
    TakesNode f b new own taken →
    StepReports (record { built = b; carry = c }) (record {
      built = new;
      carry = [];
    }) (bytes ++ rest)
    (node_turned taken (length c) (length bytes) (length own))
node_reports f b new c bytes rest own (Ok u) wants some closed a is one k = (
  omega (arith, length-append bytes rest),
  taken_same f b new c [] own k,
  subst (Steps (record { built = b; carry = c }) (record { built = new; carry = [] }))
      (sym (take-append_seam bytes rest))
      (taken_steps f b new c own bytes (at_next b f wants) closed is one k),
)
node_reports f b new c bytes rest own (Err (fault.Refused reported_reason at)) wants
    some closed a is
    one k = refused_reports b new c bytes rest own f reported_reason at wants some closed a is k.0
node_reports f b new c bytes rest own (Err (fault.OutOfMemory _)) wants some closed a is one k =
    node_wants f b c bytes rest own wants closed is k.0

-- ---- fewer bytes than the node needs

-- what is carried is less than the next node needs
pub short_of : (b : Built) (c : List ℕ) (f : Form) → IsCarry b c → next_of b.walk ≡ next.Wants f →
    IsShortOf (need f) c
short_of b [] f h wants = tt
short_of b (x ∷ xs) f h wants =
    subst (λ (g : Form). length (x ∷ xs) < need g x) (same_form (next_of b.walk) h.0 f h.1 wants)
    h.4

-- where the next node has bytes of its own and the piece is empty, more are wanted
pub wants_more : (b : Built) (c : List ℕ) (f : Form) → IsCarry b c → next_of b.walk ≡ next.Wants f →
    HasBytes f → b.run ≡ None → EndsTurns (record { built = b; carry = c }) [] stop.Wants
wants_more b c f h wants some closed =
    let held = held_closed b c closed in (
      refl,
      record {
        form = f;
        next = wants;
        left = [];
        short =
            subst (λ (x : List ℕ). own_at (next_layout b) x ≡ Err (truncated, [])) (sym held)
            (own_short b f c wants some (short_of b c f h wants));
      },
    )

-- ---- by the piece

-- a decoder in progress, as its fields are
abbrev pub of_fields : Built → List ℕ → Running
of_fields b c = record { built = b; carry = c }

-- a node of the form is next, and no run is open
pub record IsAtNode (b : Built) (f : Form) : Type 0 where
  pub wants : next_of b.walk ≡ next.Wants f
  pub closed : b.run ≡ None

-- the same by what a decoder in progress is, as contracts see it
pub at_node : {b : Built} {c : List ℕ} {seen : Running} (f : Form) → of_fields b c ≡ seen →
    next_of seen.built.walk ≡ next.Wants f → seen.built.run ≡ None → IsAtNode b f
at_node f is wants closed =
    record {
      wants = subst (λ (s : Running). next_of s.built.walk ≡ next.Wants f) (sym is) wants;
      closed = subst (λ (s : Running). s.built.run ≡ None) (sym is) closed;
    }

-- nothing is carried, by what a decoder in progress is, as contracts see it
pub carries_none : {b : Built} {c : List ℕ} {seen : Running} → of_fields b c ≡ seen →
    seen.carry ≡ [] → c ≡ []
carries_none is none = subst (λ (s : Running). s.carry ≡ []) (sym is) none

-- the own bytes of a node, as many as its form needs, are one at least
some_own : (f : Form) (own : List ℕ) → AreOwn f own → 1 ≤ length own
some_own f [] a = let no = a.2 in absurd cc
some_own f (x ∷ own) a = omega arith

-- a decoder that carried nothing stays in progress after a node's bytes from the piece alone
pub whole_running : (f : Form) (b new : Built) (c own : List ℕ)
    (taken : Result (Unit {0}) NodeFault) → IsRunning b c → c ≡ [] → IsAtNode b f →
    AreOwn f own → TakesNode f b new own taken → IsRunning new c
whole_running f b new c own taken h none at a k =
    subst (IsRunning new) (sym none)
    (node_running f b new c own taken h at.wants at.closed a k)

-- a turn that took a node's bytes whole from the piece reports what they made of it
pub whole_reports : (f : Form) (b new : Built) (c own rest : List ℕ)
    (taken : Result (Unit {0}) NodeFault) (result : Turned) → c ≡ [] → IsAtNode b f →
    HasBytes f → AreOwn f own → TakesNode f b new own taken →
    result ≡ node_turned taken 0 (length own) (length own) →
    StepReports (of_fields b c) (of_fields new c) (own ++ rest) result
whole_reports f b new c own rest taken result none at some a k is =
    rw is (subst (λ (l : List ℕ). StepReports (of_fields b l) (of_fields new l) (own ++ rest)
    (node_turned taken 0 (length own) (length own))) (sym none)
    (node_reports f b new [] own rest own taken at.wants some at.closed a refl
    (some_own f own a) k))

-- a variant or a sequence is no run
no_run_form : {X : Type 0} (f : BytesForm) (k : RunKind) → HasParts f →
    form_of_bytes f ≡ run_form k → X
no_run_form bytes.Arm kind.Text has e = absurd cc
no_run_form bytes.Arm kind.Bytes has e = absurd cc
no_run_form bytes.Arm (kind.ByteArray n) has e = absurd cc
no_run_form bytes.Arm (kind.Bits b) has e = absurd cc
no_run_form bytes.Sequence kind.Text has e = absurd cc
no_run_form bytes.Sequence kind.Bytes has e = absurd cc
no_run_form bytes.Sequence (kind.ByteArray n) has e = absurd cc
no_run_form bytes.Sequence (kind.Bits b) has e = absurd cc
no_run_form _ k has e = absurd has

-- so none is open after one of these was taken
pub parts_closed : (f : BytesForm) (b new : Built) (own : List ℕ) →
    b.run ≡ None → HasParts f → TakesNode (form_of_bytes f) b new own (Ok tt) →
    new.run ≡ None
parts_closed f b new own closed has (inl added) = added_run b new own closed added
parts_closed f b new own closed has (inr opened) = no_run_form f opened.0 has opened.2

-- the bytes that were missing came
pub count_is : (c piece : List ℕ) (len count : ℕ) → length c < len →
    count ≡ min (len - length c) (length piece) → len ≤ length c + count → (length c + count ≡ len)
    × (count ≤ length piece) × (1 ≤ count)
count_is c piece len count short is enough =
    (omega (arith, short, is, enough), omega (arith, is), omega (arith, short, enough))

-- bytes, one at least, begin with the first byte of a list that they stand before
front_is : (own more rest : List ℕ) (first : ℕ) → 1 ≤ length own → own ++ more ≡ first ∷ rest →
    (tail : List ℕ) × (own ≡ first ∷ tail)
front_is [] more rest first some is = absurd (omega (arith, some))
front_is (x ∷ own) more rest first some is = let same : x ≡ first = cc in
    (own, ap (λ (y : ℕ). y ∷ own) same)

-- a node that pieces cut, whose bytes are all there: those that were carried, and so many of the
-- piece's
pub record IsCut (f : Form) (c piece own : List ℕ) (len count : ℕ) : Type 0 where
  pub needed : IsNeeded f len (c ++ piece)
  pub short : length c < len
  pub own_is : own ≡ c ++ take count piece
  pub counted : count ≡ min (len - length c) (length piece)
  pub enough : len ≤ length c + count

-- the same by what a decoder in progress is, as contracts see it, and by what its carry holds
pub cut_inside : {b : Built} {c held piece own : List ℕ} {count : ℕ} {seen : Running} (f : Form)
    (len : ℕ) → of_fields b c ≡ seen → IsNeeded f len (seen.carry ++ piece) →
    length seen.carry < len → held ≡ c → own ≡ c ++ take count piece →
    count ≡ min (len - length c) (length piece) → len ≤ length held + count →
    IsCut f c piece own len count
cut_inside {piece = piece} {count = count} f len is needed short held_is own_is counted enough =
    record {
      needed = subst (λ (s : Running). IsNeeded f len (s.carry ++ piece)) (sym is) needed;
      short = subst (λ (s : Running). length s.carry < len) (sym is) short;
      own_is = own_is;
      counted = counted;
      enough = subst (λ (l : List ℕ). len ≤ length l + count) held_is enough;
    }

-- what was carried and what is still needed of the piece are just the node's bytes
pub cut_own : {f : Form} {c piece own : List ℕ} {len count : ℕ} → IsCut f c piece own len count →
    AreOwn f own
cut_own {f} {c} {piece} {own} {len} {count} cut =
    let n = cut.needed in
    let k = count_is c piece len count cut.short cut.counted cut.enough in
    let long : length own ≡ len =
    omega (
      arith,
      ap length cut.own_is,
      length-append c (take count piece),
      length-take count piece,
      k.0,
      k.1,
    ) in
    let parts : own ++ drop count piece ≡ n.0 ∷ n.1.0 =
    ap (λ (l : List ℕ). l ++ drop count piece) cut.own_is
    ∙ append_assoc c (take count piece) (drop count piece)
    ∙ ap (λ (l : List ℕ). c ++ l) (take-append-drop count piece) ∙ n.1.1 in
    let front = front_is own (drop count piece) n.1.0 n.0 (omega (arith, long, cut.short)) parts in
    (n.0, front.0, front.1, long ∙ n.2)

-- a turn that took a node's bytes from the carry and the piece reports what they made of it
pub cut_reports : {c piece own : List ℕ} {count len : ℕ} (f : Form) (b new : Built)
    (cleared : List ℕ) (taken : Result (Unit {0}) NodeFault)
    (result : Turned) (held : ℕ) → IsAtNode b f → HasBytes f → IsCut f c piece own len count →
    held ≡ length c → cleared ≡ [] → TakesNode f b new own taken →
    result ≡ node_turned taken held count len →
    StepReports (of_fields b c) (of_fields new cleared) piece result
cut_reports {c} {piece} {own} {count} {len} f b new cleared taken result held at some cut
    held_is clear k result_is =
    let counts = count_is c piece len count cut.short cut.counted cut.enough in
    let bytes = take count piece in
    let bytes_count : length bytes ≡ count = omega (arith, length-take count piece, counts.1) in
    let own_count : length own ≡ len =
    omega (arith, ap length cut.own_is, length-append c bytes, bytes_count, counts.0) in
    let one = node_reports f b new c bytes (drop count piece) own taken at.wants some at.closed
    (cut_own cut) (sym cut.own_is) (omega (arith, bytes_count, counts.2)) k in
    let named : node_turned taken (length c) (length bytes) (length own) ≡ result =
    ap (λ (h : ℕ). node_turned taken h (length bytes) (length own)) (sym held_is)
    ∙ ap (λ (m : ℕ). node_turned taken held m (length own)) bytes_count
    ∙ ap (node_turned taken held count) own_count ∙ sym result_is in
    subst (λ (t : Turned). StepReports (of_fields b c) (of_fields new cleared) piece t) named
    (subst (λ (l : List ℕ). StepReports (of_fields b c) (of_fields new cleared) l
    (node_turned taken (length c) (length bytes) (length own))) (take-append-drop count piece)
    (subst (λ (l : List ℕ).
    StepReports (of_fields b c) (of_fields new l) (bytes ++ drop count piece)
    (node_turned taken (length c) (length bytes) (length own))) (sym clear) one))

-- a list whose length is found to be 0 is empty
pub none_of : (bytes : List ℕ) → true ≡ (length bytes == 0) → bytes ≡ []
none_of bytes h = nil_of bytes (eqb-true (length bytes) 0 (sym h)) where
  nil_of : (l : List ℕ) → length l ≡ 0 → l ≡ []
  nil_of [] e = refl
  nil_of (x ∷ l) e = absurd (omega (arith, e))

-- a number that is not 0 is 1 at least
pub some_missing : (n : ℕ) → (n ≡ 0 → ⊥) → 1 ≤ n
some_missing zero h = absurd (h refl)
some_missing (suc n) h = omega arith
