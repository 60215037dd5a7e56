-- Why a turn adds nothing: bytes are missing, or the next node is refused.
use Rattle.std.proofs.Common.{◌≡◌, ◌⊎◌, ℕ, zero, suc, ◌+◌, ◌-◌, ◌<◌, ◌≤◌, Bool, true, false, cond}
use Rattle.std.proofs.Common.{List, [], ◌∷◌, ◌++◌, length, take, Some, Err, refl, sym, ap, ◌∙◌}
use Rattle.std.proofs.Common.{arith, length-append, inl, inr}
use Rattle.std.specs.Prelude.{◌≢◌}
use Rattle.std.proofs.lemmas.List.{length-take, take-append-le}
use Rattle.std.proofs.Math.Seq.{take-append_seam, drop-append_seam}
use Rattle.scale_core.specs.Read.{bytes_at, mode_len, mode_from, is_too_long, integer_at}
use Rattle.scale_core.specs.Read.{compact_at}
use Rattle.scale_core.specs.declared.compact.Target.{Target}
use Rattle.scale_core.specs.declared.compact.Target.TheVariants as target
use Rattle.scale_core.specs.declared.fault.Reason.TheVariants as scale
use Rattle.types_core.specs.Kinds.{kind_of, width_bytes}
use Rattle.types_core.specs.declared.kind.PrimitiveKind.{PrimitiveKind}
use Rattle.types_core.specs.declared.kind.PrimitiveKind.TheVariants as K
use Rattle.types_core.proofs.Widths.{width_some}
use Rattle.types_core.specs.declared.type_info.TypeInfo.{TypeInfo}
use Rattle.widths_core.specs.Layouts.{Plain, Layout, layout, kind_layout}
use Rattle.widths_core.specs.Layouts as layout
use Rattle.widths_core.specs.declared.run_kind.RunKind.{RunKind}
use Rattle.widths_core.specs.declared.run_kind.RunKind.TheVariants as kind
use Rattle.grammar_core.specs.Runs.{run_at, run_form, run_length_at}
use Rattle.grammar_core.specs.Ways.{Way, of_no_byte, of_width, of_compact, of_run, way_of, read_by}
use Rattle.value_core.specs.Built.{Built, next_layout}
use Rattle.grammar_core.specs.Parts.{first_of, left_after}
use Rattle.grammar_core.specs.Reading.{Refusal, truncated, too_deep, layout_at}
use Rattle.value_core.specs.Walked.{OpenPart, next_of}
use Rattle.grammar_core.specs.declared.form.Form.{Form}
use Rattle.grammar_core.specs.declared.form.Form.TheVariants as form
use Rattle.grammar_core.specs.declared.form.Next.TheVariants as next
use Rattle.grammar_core.specs.declared.form.StopReason.{StopReason}
use Rattle.grammar_core.specs.declared.form.StopReason.TheVariants as stop
use Rattle.value_core.proofs.Forms.{HasForm, wanted, IsStoppedBy, stopped}
use Rattle.outcome_core.specs.Decided.{Decided}
use Rattle.outcome_core.specs.Machine.{State, remain, is_cut}
use Rattle.outcome_core.specs.Met.{met_layout}
use Rattle.form_core.specs.Needs.{compact_need, kind_need, need, AreOwn, HasBytes}
use Rattle.machine_core.specs.Reasons.{stop_refusal}
use Rattle.machine_core.specs.Running.{Running, held_of, state_of}
use Rattle.machine_core.specs.Turned.{WantsBytes}
use Rattle.outcome_core.specs.Reported.{own_at, reported, then, reported_at, rest_reported}
use Rattle.outcome_core.proofs.Left.{own_within}
use Rattle.machine_core.proofs.steps.NodeAdding.{next_has}
use Rattle.outcome_core.proofs.Owns.{own_extends}
use Rattle.machine_core.proofs.steps.MachineTurn.{AtNext, at_next, top_of, first_is, open_parts}
use Rattle.machine_core.proofs.steps.MachineTurn.{state_is}
use Rattle.outcome_core.proofs.Targets.{wanted_target}
use Rattle.outcome_core.proofs.ShortestCompacts.{short_bytes}
use Rattle.outcome_core.proofs.NotCut.{not_cut}
use Rattle.machine_core.proofs.steps.Whole.{u32_is}

-- ---- fewer bytes than a node needs

-- fewer than are needed, or none
abbrev pub IsShortOf : (ℕ → ℕ) → List ℕ → Type 0
IsShortOf needed [] = Unit {0}
IsShortOf needed (first ∷ rest) = length (first ∷ rest) < needed first

-- a compact integer with fewer bytes than it needs is cut
integer_short : (m : Target) (b : List ℕ) → IsShortOf (compact_need m) b →
    integer_at m b ≡ Err (scale.Truncated, [])
integer_short m [] h = refl
integer_short m (first ∷ rest) h = by (is_too_long m first) refl where
  by : (long : Bool) → is_too_long m first ≡ long →
      cond long (Err (scale.CompactTooLarge, first ∷ rest))
      (mode_from m (first ∷ rest) (bytes_at (mode_len first) (first ∷ rest)))
      ≡ Err (scale.Truncated, [])
  by true e = let none : length (first ∷ rest) < 1 = (rw e at h) in absurd (omega (arith, none))
  by false e = let few : length (first ∷ rest) < mode_len first = (rw e at h) in
      rw (short_bytes (mode_len first) (first ∷ rest) few) refl

-- the same of a compact, if its target is not nothing
pub compact_short : (m : Target) (b : List ℕ) → m ≢ target.Unit → IsShortOf (compact_need m) b →
    compact_at m b ≡ Err (scale.Truncated, [])
unfolding compact_at
compact_short target.Unit b ne h = absurd (ne refl)
compact_short m b ne h = integer_short m b h

-- bytes that are short of a number, one at least, are fewer than it
below : (k : ℕ) (b : List ℕ) → 1 ≤ k → IsShortOf (λ first. k) b → length b < k
below k [] some h = omega (arith, some)
below k (first ∷ rest) some h = h

-- fewer bytes than a leaf needs
abbrev pub IsFew : Way → List ℕ → Type 0
IsFew (of_no_byte l) b = ⊥
IsFew (of_width k make fault) b = length b < k
IsFew (of_compact m make) b = compact_at m b ≡ Err (scale.Truncated, [])
IsFew (of_run k) b = run_length_at k b ≡ Err (scale.Truncated, [])

-- a leaf with fewer bytes than it needs is cut, whatever its way
way_short : (w : Way) (b : List ℕ) → IsFew w b → read_by w b ≡ Err (scale.Truncated, [])
unfolding run_at
way_short (of_no_byte l) b h = absurd h
way_short (of_width k make fault) b h = rw (short_bytes k b h) refl
way_short (of_compact m make) b h = rw h refl
way_short (of_run k) b h = rw h refl

-- so is a node that is such a leaf
plain_short : (p : Plain) (b : List ℕ) → IsFew (way_of p) b →
    own_at (layout.plain p) b ≡ Err (truncated, [])
unfolding own_at layout_at
plain_short p b h = rw (way_short (way_of p) b h) refl

-- the length of a run
pub run_length_short : (k : RunKind) (b : List ℕ) → HasBytes (run_form k) →
    IsShortOf (need (run_form k)) b → run_length_at k b ≡ Err (scale.Truncated, [])
run_length_short kind.Text b s h = compact_short target.U32 b u32_is h
run_length_short kind.Bytes b s h = compact_short target.U32 b u32_is h
run_length_short (kind.ByteArray n) b s h = absurd s
run_length_short (kind.Bits f) b s h = compact_short target.U32 b u32_is h

-- a run with fewer bytes than its length has is cut
pub run_short : (k : RunKind) (b : List ℕ) → HasBytes (run_form k) →
    IsShortOf (need (run_form k)) b → own_at (layout.plain (layout.run k)) b ≡ Err (truncated, [])
run_short k b s h = plain_short (layout.run k) b (run_length_short k b s h)

-- a value of a primitive kind with fewer bytes than it needs is cut
kind_short : (k : PrimitiveKind) (b : List ℕ) → IsShortOf (kind_need k) b →
    own_at (kind_layout k) b ≡ Err (truncated, [])
kind_short K.Bool b h = plain_short _ b (below 1 b (omega arith) h)
kind_short K.Char b h = plain_short _ b (below 4 b (omega arith) h)
kind_short K.Str b h = run_short kind.Text b tt h
kind_short (K.Unsigned w) b h = plain_short _ b (below (width_bytes w) b (width_some w) h)
kind_short (K.Signed w) b h = plain_short _ b (below (width_bytes w) b (width_some w) h)
kind_short (K.Wide s) b h = plain_short _ b (below 32 b (omega arith) h)

-- a variant without the byte of its index is cut
arms_short : (lay : Layout) (h : HasForm form.Arm lay) (b : List ℕ) → IsShortOf (λ first. 1) b →
    own_at lay b ≡ Err (truncated, [])
unfolding own_at
arms_short lay h [] k = rw h.1 refl
arms_short lay h (first ∷ rest) k = absurd (omega (arith, k))

-- a sequence with fewer bytes than its length has is cut
sequence_short : (lay : Layout) (h : HasForm form.Sequence lay) (b : List ℕ) →
    IsShortOf (compact_need target.U32) b → own_at lay b ≡ Err (truncated, [])
unfolding own_at
sequence_short lay h b k = rw (h.1, compact_short target.U32 b u32_is k) refl

-- a count with fewer bytes than it needs is cut
count_short : (lay : Layout) (h : HasForm form.Count lay) (b : List ℕ) →
    IsShortOf (compact_need target.U32) b → own_at lay b ≡ Err (truncated, [])
count_short lay h b k = rw h (plain_short layout.counted b (compact_short target.U32 b u32_is k))

-- a compact node with fewer bytes than it needs is cut, if its target is not nothing
compact_own_short : (m : Target) (lay : Layout) → m ≢ target.Unit → HasForm (form.Compact m) lay →
    (b : List ℕ) → IsShortOf (compact_need m) b → own_at lay b ≡ Err (truncated, [])
compact_own_short m lay ne h b k =
    rw h (plain_short (layout.compact m) b (compact_short m b ne k))

-- the next node's own bytes are not all there
pub own_short : (b : Built) (f : Form) (x : List ℕ) → next_of b.walk ≡ next.Wants f → HasBytes f →
    IsShortOf (need f) x → own_at (next_layout b) x ≡ Err (truncated, [])
own_short b form.Empty x h s k = absurd s
own_short b (form.Primitive p) x h s k =
    rw (next_has b (form.Primitive p) h) (kind_short (kind_of p) x k)
own_short b (form.Compact m) x h s k = let w = wanted b.walk (form.Compact m) h in
    compact_own_short m (next_layout b) (wanted_target b.walk.types w.ty m w.form_is)
    (next_has b (form.Compact m) h) x k
own_short b form.Fields x h s k = absurd s
own_short b form.Arm x h s k = arms_short (next_layout b) (next_has b form.Arm h) x k
own_short b (form.Array n) x h s k = absurd s
own_short b (form.ByteArray n) x h s k = absurd s
own_short b form.Bytes x h s k = rw (next_has b form.Bytes h) (run_short kind.Bytes x s k)
own_short b (form.Bits f) x h s k =
    rw (next_has b (form.Bits f) h) (run_short (kind.Bits f) x s k)
own_short b form.Sequence x h s k = sequence_short (next_layout b) (next_has b form.Sequence h) x k
own_short b form.Count x h s k = count_short (next_layout b) (next_has b form.Count h) x k

-- so it is of the first of a node's own bytes
pub front_short : (f : Form) (own : List ℕ) (i : ℕ) → AreOwn f own → i < length own →
    IsShortOf (need f) (take i own)
front_short f own zero a lt = tt
front_short f [] (suc i) a lt = absurd (omega (arith, lt))
front_short f (x ∷ own) (suc i) a lt =
    let first_is : x ≡ a.0 = ap (λ (l : List ℕ). elim l [ [] ↦ 0 | y ∷ ys ↦ y ]) a.2 in
    omega (arith, length-take i own, lt, a.3, ap (need f) first_is)

-- ---- what the machine reports where the next node fails

-- where the own bytes of the first value fail, all that follows it is not read
fails_first : (r : List TypeInfo) (room t : ℕ) (lay : Layout) (rest : List ℕ → _) (x left : List ℕ)
    (e : Refusal) → met_layout r t ≡ lay → own_at lay x ≡ Err (e, left) →
    then (reported_at r (suc room) t x) rest ≡ reported [] (Err ((e, left), x))
unfolding reported_at
fails_first r room t lay rest x left e m h = rw (m, h) refl

-- where the own bytes of the next node fail, the state reports this fault and adds nothing
pub remain_next : (b : Built) (n : AtNext b) (x left : List ℕ) (e : Refusal) →
    own_at (next_layout b) x ≡ Err (e, left) →
    remain b.walk.types (state_of b) x ≡ reported [] (Err ((e, left), x))
remain_next b n x left e h = ap (λ (s : State). remain b.walk.types s x) (state_is b n)
    ∙ (first_is b.walk.types (suc n.room) n.ty n.top.left (open_parts n.around) n.first x
    ∙ fails_first b.walk.types n.room n.ty (next_layout b)
    (rest_reported b.walk.types (suc n.room) (left_after n.top.left ∷ open_parts n.around)) x left e
    n.laid h)

-- what the machine reports of a node that is refused, whatever follows its own bytes; and that
-- these decide it where bytes are missing, that is all that is reported
pub waits_reported : (s : Running) → (w : WantsBytes s) →
    remain s.built.walk.types (state_of s.built) (held_of s) ≡ reported []
    (Err ((truncated, w.left), held_of s))
waits_reported s w = remain_next s.built (at_next s.built w.form w.next)
    (held_of s) w.left truncated
    w.short

pub record Refuses (b : Built) (x : List ℕ) (e : Refusal) (left : List ℕ) (len : ℕ) : Type 0 where
  pub reports : remain b.walk.types (state_of b) x ≡ reported [] (Err ((e, left), x))
  pub decided : Decided b.walk.types (state_of b) x e left len

-- by own bytes of which fewer are too few
pub refuses_by : (b : Built) (n : AtNext b) (own more back : List ℕ) (e : Refusal) →
    own_at (next_layout b) own ≡ Err (e, back) → is_cut e ≡ false →
    ((i : ℕ) → i < length own → own_at (next_layout b) (take i own) ≡ Err (truncated, [])) →
    Refuses b (own ++ more) e (back ++ more) (length own)
refuses_by b n own more back e is cut few =
    let lay = next_layout b in
    let longer : own_at lay (own ++ more) ≡ Err (e, back ++ more) =
    (rw is at (own_extends lay own more)) (not_cut e cut) in
    let within : length back ≤ length own = (rw is at (own_within lay own)) in
    let front : take (length own) (own ++ more) ≡ own = take-append_seam own more in
    let parts = length-append own more in
    record {
      reports = remain_next b n (own ++ more) (back ++ more) e longer;
      decided = record {
        within = omega (arith, parts);
        low = omega (arith, parts, length-append back more, within);
        back = back;
        holds = rw front (remain_next b n own back e is);
        is = ap (λ (l : List ℕ). back ++ l) (sym (drop-append_seam own more));
        least = λ i lt. (
          [],
          let same : take i (own ++ more) ≡ take i own =
              take-append-le i own more (omega (arith, lt)) in
              rw same (remain_next b n (take i own) [] truncated (few i lt)),
        );
      };
    }

-- where just the node's bytes refuse it, the state refuses it, and they decide that
pub refuses : (b : Built) (f : Form) (own more back : List ℕ) (e : Refusal) →
    next_of b.walk ≡ next.Wants f → HasBytes f → AreOwn f own →
    own_at (next_layout b) own ≡ Err (e, back) → is_cut e ≡ false →
    Refuses b (own ++ more) e (back ++ more) (length own)
refuses b f own more back e h s a is cut =
    refuses_by b (at_next b f h) own more back e is cut
    (λ i lt. own_short b f (take i own) h s (front_short f own i a lt))

-- ---- a type that stops

-- a type that stops is refused as it is met, with all bytes left
stop_laid : (reported_reason : StopReason) (r : List TypeInfo) (t : ℕ) →
    IsStoppedBy reported_reason r t →
    (x : List ℕ) → own_at (met_layout r t) x ≡ Err (stop_refusal reported_reason, x)
unfolding own_at layout_at met_layout
stop_laid stop.TooDeep r t h x = absurd h
stop_laid stop.NoFiniteValue r t h x = rw h refl
stop_laid stop.BitSequence r t h x = rw (h.0, h.1) refl
stop_laid stop.BadCompact r t h x = rw (h.0, h.1) refl

-- where there is no room for a value, it is refused as too deep, and nothing is read
no_room_reports : (r : List TypeInfo) (t : ℕ) (rest : List ℕ → _) (x : List ℕ) →
    then (reported_at r zero t x) rest ≡ reported [] (Err ((too_deep, x), x))
unfolding reported_at
no_room_reports r t rest x = refl

-- the innermost part, as the machine has it, with this room
state_from : (b : Built) (top : OpenPart) (around : List OpenPart) (room : ℕ) →
    b.walk.frames ≡ top ∷ around → b.walk.limit + 2 - length b.walk.frames ≡ room →
    state_of b ≡ record { nodes = b.entries; room = room; pending = top.left ∷ open_parts around }
state_from b top around room f k = rw (k, f) refl

-- where the next type stops, too deep or by itself, the state refuses it as it is met
stop_by : (b : Built) (reported_reason : StopReason) (t : ℕ) (top : OpenPart)
    (around : List OpenPart) →
    b.walk.frames ≡ top ∷ around → first_of top.left ≡ Some t →
    ((reported_reason ≡ stop.TooDeep) × (b.walk.limit + 1 < length b.walk.frames))
    ⊎ ((length b.walk.frames ≤ b.walk.limit + 1) × IsStoppedBy reported_reason b.walk.types t) →
    (x : List ℕ) → remain b.walk.types (state_of b) x ≡ reported []
    (Err ((stop_refusal reported_reason, x), x))
stop_by b reported_reason t top around fs first (inl deep) x =
    let is = state_from b top around 0 fs (omega (arith, deep.1)) in
    ap (λ (s : State). remain b.walk.types s x) is
    ∙ (first_is b.walk.types 0 t top.left (open_parts around) first x
    ∙ no_room_reports b.walk.types t
    (rest_reported b.walk.types 0 (left_after top.left ∷ open_parts around)) x)
    ∙ ap (λ (e : StopReason). reported [] (Err ((stop_refusal e, x), x))) (sym deep.0)
stop_by b reported_reason t top around fs first (inr here) x =
    let room = b.walk.limit + 1 - length b.walk.frames in
    let is = state_from b top around (suc room) fs (omega (arith, here.0)) in
    ap (λ (s : State). remain b.walk.types s x) is
    ∙ (first_is b.walk.types (suc room) t top.left (open_parts around) first x
    ∙ fails_first b.walk.types room t (met_layout b.walk.types t)
    (rest_reported b.walk.types (suc room) (left_after top.left ∷ open_parts around)) x x
    (stop_refusal reported_reason) refl (stop_laid reported_reason b.walk.types t here.1 x))

-- the same where the walk says that it stops
pub stop_reports : (b : Built) (reported_reason : StopReason) →
    next_of b.walk ≡ next.Stop reported_reason →
    (x : List ℕ) → remain b.walk.types (state_of b) x ≡ reported []
    (Err ((stop_refusal reported_reason, x), x))
stop_reports b reported_reason h x =
    let s = stopped b.walk reported_reason h in
    let top = top_of b.walk.frames s.ty s.is_next in
    stop_by b reported_reason s.ty top.0 top.1 top.2 top.3 s.why x

-- no reason to stop is that bytes are missing
pub no_cut : (reported_reason : StopReason) → is_cut (stop_refusal reported_reason) ≡ false
no_cut stop.TooDeep = refl
no_cut _ = refl

-- where the walk stops, the state refuses, and no byte decides that
pub stop_refuses : (b : Built) (reported_reason : StopReason) →
    next_of b.walk ≡ next.Stop reported_reason →
    (x : List ℕ) → Refuses b x (stop_refusal reported_reason) x 0
stop_refuses b reported_reason h x = record {
  reports = stop_reports b reported_reason h x;
  decided = record {
    within = omega arith;
    low = omega arith;
    back = [];
    holds =
        stop_reports b reported_reason h [];
    is = refl;
    least = λ i lt. absurd (omega (arith, lt));
  };
}
