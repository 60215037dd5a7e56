-- One turn after the other.
use Rattle.std.proofs.Common.{◌≡◌, ℕ, suc, ◌+◌, ◌-◌, ◌<◌, ◌≤◌, ◌⊎◌, List, [], ◌++◌, length, take}
use Rattle.std.proofs.Common.{drop, refl, sym, ap, subst, ◌∙◌, append_assoc, arith, inl, inr}
use Rattle.std.proofs.Common.{length-drop}
use Rattle.std.proofs.lemmas.List.{append-nil, drop-drop, take_rest, take-append-drop, length-take}
use Rattle.std.proofs.Math.Seq.{take-add}
use Rattle.std.specs.Prelude.{true, is_none, Option, Some, None, ◌∷◌}
use Rattle.grammar_core.specs.Parts.{first_of}
use Rattle.grammar_core.specs.declared.form.Form.{Form}
use Rattle.grammar_core.specs.declared.form.Next.TheVariants as next
use Rattle.types_core.specs.declared.type_info.TypeInfo.{TypeInfo}
use Rattle.value_core.specs.Refusals.{is_complete, is_whole_in}
use Rattle.value_core.specs.Walked.{OpenPart, first_in, next_from, next_of}
use Rattle.outcome_core.specs.Machine.{State, remain, to_go}
use Rattle.machine_core.specs.Running.{Running, held_of, state_of}
use Rattle.outcome_core.specs.Reported.{after}
use Rattle.machine_core.specs.Turned.{FeedReports, IsSame, IsSound, KeepsNodes, Moves}
use Rattle.machine_core.specs.Turned.{StepReports, Steps}
use Rattle.machine_core.specs.Turned.{left_to_do, types_in}
use Rattle.machine_core.specs.declared.turned.Stopped.{Stopped}
use Rattle.machine_core.specs.declared.turned.Stopped.TheVariants as stop
use Rattle.outcome_core.proofs.MachineTurns.{nearer}
use Rattle.std.specs.Prelude.{Err, Ok}

-- no bytes lead from a decoder to itself
pub moves_none : (s : Running) → Moves s s []
moves_none s = record {
  same = record { types = refl; limit = refl; ty = refl };
  own = [];
  is =
      append-nil (held_of s);
  reports = λ more. refl;
  level = refl;
  nodes = omega arith;
}

-- a value that is the same from one decoder to a second and on to a third is the same throughout
same_on : (a b c : Running) → IsSame a b → IsSame b c → IsSame a c
same_on a b c h k = record {
  types = k.types ∙ h.types;
  limit = k.limit ∙ h.limit;
  ty = k.ty
      ∙ h.ty;
}

-- bytes that lead on after others lead on together
pub moves_on : (a b c : Running) (x y : List ℕ) → Moves a b x → Moves b c y → Moves a c (x ++ y)
moves_on a b c x y h k = record {
  same = same_on a b c h.same k.same;
  own = h.own ++ k.own;
  is = sym (append_assoc (held_of a) x y) ∙ ap (λ (z : List ℕ). z ++ y) h.is
      ∙ append_assoc h.own (held_of b) y ∙ ap (λ (z : List ℕ). h.own ++ z) k.is
      ∙ sym (append_assoc h.own k.own (held_of c));
  reports = λ more. ap (λ (z : List ℕ). after (state_of a.built).nodes
      (remain (types_in a) (state_of a.built) z)) (append_assoc h.own k.own more)
      ∙ h.reports (k.own ++ more)
      ∙ subst (λ (r : List TypeInfo). after (state_of b.built).nodes
      (remain r (state_of b.built) (k.own ++ more))
      ≡ after (state_of c.built).nodes (remain r (state_of c.built) more)) h.same.types
      (k.reports more);
  level = k.level ∙ h.level;
  nodes = omega (arith, h.nodes, k.nodes);
}

-- held bytes, the first of a piece and the others are the held ones and the piece
all_bytes : (held piece : List ℕ) (n : ℕ) → (held ++ take n piece) ++ drop n piece ≡ held ++ piece
all_bytes held piece n = append_assoc held (take n piece) (drop n piece)
    ∙ ap (λ (x : List ℕ). held ++ x) (take-append-drop n piece)

-- bytes that are held, or none, as a move
pub held_moves : (a b : Running) (bytes : List ℕ) → IsSame a b →
    state_of b.built ≡ state_of a.built → held_of b ≡ held_of a ++ bytes → Moves a b bytes
held_moves a b bytes same state held = record {
  same = same;
  own = [];
  is = sym held;
  reports = λ more. ap (λ (s : State). after s.nodes (remain (types_in a) s more)) (sym state);
  level = ap (λ (s : State). s.room + length s.pending) state;
  nodes = omega (arith, ap (λ (s : State). length s.nodes) state);
}

-- a step as a move
pub step_moves : (a b : Running) (bytes : List ℕ) → IsSame a b → Steps a b bytes → Moves a b bytes
step_moves a b bytes same (inl h) = held_moves a b bytes same h.1 h.2
step_moves a b bytes same (inr h) = record {
  same = same;
  own = held_of a ++ bytes;
  is = sym (ap (λ (l : List ℕ). (held_of a ++ bytes) ++ l) h.0 ∙ append-nil (held_of a ++ bytes));
  reports = h.1.reports;
  level = h.1.level;
  nodes = omega (arith, h.2);
}

-- it leaves less to do
pub step_nearer : (a b : Running) (piece : List ℕ) (n : ℕ) → n ≤ length piece → IsSame a b →
    Steps a b (take n piece) → left_to_do b (drop n piece) < left_to_do a piece
step_nearer a b piece n le same (inl h) =
    let bytes : held_of b ++ drop n piece ≡ held_of a ++ piece =
    ap (λ (l : List ℕ). l ++ drop n piece) h.2 ∙ all_bytes (held_of a) piece n in
    let work : to_go (types_in b) (state_of b.built) (held_of b ++ drop n piece)
    ≡ to_go (types_in a) (state_of a.built) (held_of a ++ piece) =
    ap (λ (r : List TypeInfo). to_go r (state_of b.built) (held_of b ++ drop n piece))
    same.types ∙ ap (λ (s : State). to_go (types_in a) s (held_of b ++ drop n piece)) h.1
    ∙ ap (to_go (types_in a) (state_of a.built)) bytes in
    omega (arith, work, length-drop n piece, length-take n piece, h.0, le)
step_nearer a b piece n le same (inr h) =
    let less = nearer (types_in a) (state_of a.built) (state_of b.built) (held_of a ++ take n piece)
    (drop n piece) h.1 in
    let before : to_go (types_in a) (state_of a.built) ((held_of a ++ take n piece) ++ drop n piece)
    ≡ to_go (types_in a) (state_of a.built) (held_of a ++ piece) =
    ap (to_go (types_in a) (state_of a.built)) (all_bytes (held_of a) piece n) in
    let now : to_go (types_in b) (state_of b.built) (held_of b ++ drop n piece) ≡ to_go (types_in a)
    (state_of b.built) (drop n piece) =
    ap (λ (r : List TypeInfo). to_go r (state_of b.built) (held_of b ++ drop n piece))
    same.types ∙ ap (λ (l : List ℕ). to_go (types_in a) (state_of b.built) (l ++ drop n piece))
    h.0 in
    omega (arith, less, before, now, length-drop n piece)

-- the turns so far, and one more
pub turns_on : (a b c : Running) (piece : List ℕ) (at n : ℕ) → at ≤ length piece →
    Moves a b (take at piece) → StepReports b c (drop at piece) (Ok n) →
    (at + n ≤ length piece) × Moves a c (take (at + n) piece)
turns_on a b c piece at n le h k = (
  omega (arith, k.0, le, length-drop at piece),
  subst (Moves a c) (sym (take-add at n piece))
      (moves_on a b c (take at piece) (take n (drop at piece)) h
      (step_moves b c (take n (drop at piece)) k.1 k.2)),
)

-- to drop bytes after dropped ones is to drop them together
pub drop_more : (piece : List ℕ) (at n : ℕ) → drop n (drop at piece) ≡ drop (at + n) piece
drop_more piece at n = drop-drop n at piece

-- the turn that stops
pub turns_stop : (a b c : Running) (piece : List ℕ) (at : ℕ) (s : Stopped) → at ≤ length piece →
    Moves a b (take at piece) → StepReports b c (drop at piece) (Err s) →
    KeepsNodes b c (Err s) → IsSound b → FeedReports a c piece at s
turns_stop a b c piece at stop.Finished le h k kept sound = (le, (b, h, k.1, k.0, sound))
turns_stop a b c piece at stop.Wants le h k kept sound = (le, (b, h, k.1, k.0, sound))
turns_stop a b c piece at (stop.OutOfMemory _) le h k kept sound = (le, (b, h, k, tt, sound))
turns_stop a b c piece at (stop.Refused held reported_reason place len) le h k kept sound =
    (le, (b, h, k, kept, sound))

-- a whole value has one turn, which stops
pub stays_whole : (fn self : Running) (at : ℕ) →
    (is_complete fn.built ≡ true → (at ≡ 0) × (self ≡ fn)) →
    is_complete fn.built ≡ true → is_complete self.built ≡ true
stays_whole fn self at h w = subst (λ (s : Running). is_complete s.built ≡ true) (sym (h w).1) w

-- what is left of a piece, as a slice of it
rest_reports : (b c : Running) (piece : List ℕ) (at n : ℕ) →
    StepReports b c (take (length piece - at) (drop at piece)) (Ok n) →
    StepReports b c (drop at piece) (Ok n)
rest_reports b c piece at n k =
    subst (λ (l : List ℕ). StepReports b c l (Ok n)) (take_rest piece at) k

-- a turn that goes on after the first bytes of a piece leads on with what it took
pub turn_goes_on : (a b c : Running) (piece : List ℕ) (at n : ℕ) → at ≤ length piece →
    Moves a b (take at piece) →
    StepReports b c (take (length piece - at) (drop at piece)) (Ok n) →
    (at + n ≤ length piece)
    × Moves a c (take (at + n) piece)
turn_goes_on a b c piece at n le h k =
    turns_on a b c piece at n le h (rest_reports b c piece at n k)

-- a turn that goes on leaves less to do
pub turn_nearer : (b c : Running) (piece : List ℕ) (at n : ℕ) →
    StepReports b c (take (length piece - at) (drop at piece)) (Ok n) →
    left_to_do c (drop (at + n) piece) < left_to_do b (drop at piece)
turn_nearer b c piece at n k =
    let one = rest_reports b c piece at n k in
    subst (λ (l : List ℕ). left_to_do c l < left_to_do b (drop at piece)) (drop_more piece at n)
    (step_nearer b c (drop at piece) n one.0 one.1 one.2)

-- ---- turns that are taken together

-- where a value is next that has not come, none is whole
pub wants_goes_on : {X : Type 0} (s : Running) (f : Form) → next_of s.built.walk ≡ next.Wants f →
    is_complete s.built ≡ true → X
wants_goes_on s f h w = by s.built.walk.frames h w where
  none : {X : Type 0} (t : Option ℕ) → next_from s.built.walk t ≡ next.Wants f →
      is_none t ≡ true → X
  none None e k = absurd cc
  none (Some t) e k = absurd cc

  by : {X : Type 0} (fs : List OpenPart) → next_from s.built.walk (first_in fs) ≡ next.Wants f →
      is_whole_in fs ≡ true → X
  by [] e k = absurd cc
  by (o ∷ []) e k = none (first_of o.left) e k
  by (o ∷ p ∷ ps) e k = absurd cc

-- ---- the turns are counted

-- a step adds no node or one
pub grows_by : (a b : Running) (bytes : List ℕ) → Steps a b bytes →
    (length b.built.entries ≡ length a.built.entries)
    ⊎ (length b.built.entries ≡ suc (length a.built.entries))
grows_by a b bytes (inl k) = inl (ap (λ (s : State). length s.nodes) k.1)
grows_by a b bytes (inr k) = inr k.2

-- a turn that goes on adds at most one node
pub each_turn : (old a b : Running) (piece : List ℕ) (from so_far one n : ℕ) →
    from + length a.built.entries ≤ so_far + length old.built.entries → one ≡ so_far + 1 →
    StepReports a b piece (Ok n) →
    from + length b.built.entries ≤ one + length old.built.entries
each_turn old a b piece from so_far one n h is k =
    elim (grows_by a b (take n piece) k.2)
    [ inl same ↦ omega (arith, h, is, same) | inr more ↦ omega (arith, h, is, more) ]

-- each step takes a byte at least or adds a node
pub one_or_bytes : (a b : Running) (bytes : List ℕ) → Steps a b bytes →
    suc (length a.built.entries) ≤ length bytes + length b.built.entries
one_or_bytes a b bytes (inl k) = omega (arith, k.0, ap (λ (s : State). length s.nodes) k.1)
one_or_bytes a b bytes (inr k) = omega (arith, k.2)

-- and it adds one, or takes bytes
pub few_turn : (old a b : Running) (piece : List ℕ) (from so_far one at n : ℕ) →
    so_far + length old.built.entries ≤ from + at + length a.built.entries → one ≡ so_far + 1 →
    StepReports a b piece (Ok n) →
    one + length old.built.entries ≤ from + (at + n) + length b.built.entries
few_turn old a b piece from so_far one at n h is k =
    omega (arith, h, is, one_or_bytes a b (take n piece) k.2, length-take n piece, k.0)
