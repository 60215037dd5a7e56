-- What the turns of a call add to those before it.
use Rattle.std.proofs.Common.{◌≡◌, ℕ, ◌+◌, ◌-◌, ◌<◌, ◌≤◌, List, length, take, drop, refl, sym, ◌∙◌}
use Rattle.std.proofs.Common.{ap, subst, arith, inl, inr, length-drop}
use Rattle.std.proofs.lemmas.List.{drop_all, length-take, take_rest}
use Rattle.std.proofs.Math.Seq.{take-add}
use Rattle.std.specs.Prelude.{Err, Ok, true}
use Rattle.growth_core.specs.Evidence.{evidence}
use Rattle.grammar_core.specs.declared.form.Form.{Form}
use Rattle.value_core.specs.Refusals.{is_complete}
use Rattle.machine_core.specs.Running.{Running}
use Rattle.machine_core.specs.Turned.{Awaits, CallSoFar, FeedReports, FeedTells, FewTurns}
use Rattle.machine_core.specs.Turned.{IsReady, IsSound, KeepsNodes, Moves, SameNodes}
use Rattle.machine_core.specs.Turned.{StepReports, StopCounts}
use Rattle.machine_core.specs.Turned.{StopsShort, TurnsReport}
use Rattle.machine_core.specs.Turned.{WantsBytes, WholeReports, WholeTurnsReport, left_to_do}
use Rattle.machine_core.specs.declared.turned.Stopped.{Stopped}
use Rattle.machine_core.specs.declared.turned.Stopped.TheVariants as stop
use Rattle.machine_core.specs.Turned.{Turned}
use Rattle.machine_core.specs.declared.turned.Tried.{Tried}
use Rattle.machine_core.specs.declared.turned.Tried.TheVariants as tried
use Rattle.machine_core.proofs.steps.Moving.{drop_more, grows_by, moves_none, moves_on}
use Rattle.machine_core.proofs.steps.Moving.{one_or_bytes, stays_whole, step_nearer, turns_on}
use Rattle.machine_core.proofs.steps.Moving.{turns_stop, wants_goes_on}

-- what stands after turns that added nodes of one form, of which another is next: the bytes and
-- turns so far, and what they led to
pub record NodesSoFar (a b : Running) (f : Form) (piece : List ℕ) (at start from : ℕ) : Type 0 where
  pub inside : at ≤ length piece
  pub moves : Moves a b (take at piece)
  pub awaits : Awaits b f
  pub nearer : left_to_do b (drop at piece) ≤ left_to_do a piece
  pub each : start + length b.built.entries ≤ from + length a.built.entries
  pub few : from + length a.built.entries ≤ start + at + length b.built.entries

-- before the first of them
pub nodes_begin : (a : Running) (f : Form) (piece : List ℕ) (start : ℕ) → Awaits a f →
    NodesSoFar a a f piece 0 start start
nodes_begin a f piece start awaits = record {
  inside = omega arith;
  moves = moves_none a;
  awaits = awaits;
  nearer = omega arith;
  each = omega arith;
  few = omega arith;
}

-- a turn on a node that the piece may have whole, after others of the same call
pub whole_more : (a b d : Running) (f : Form) (piece : List ℕ) (at start from to : ℕ)
    (last : Tried) → NodesSoFar a b f piece at start from → to ≡ from + 1 → Awaits a f →
    WholeReports b d (take (length piece - at) (drop at piece)) last →
    WholeTurnsReport a d piece start to at last
whole_more a b d f piece at start from to last s is first reports =
    record {
      before = b;
      within = s.inside;
      moves = s.moves;
      nearer = s.nearer;
      few = (omega (arith, s.each, is), omega (arith, s.few, is));
      sound = s.awaits.sound;
      reports =
          subst (λ (l : List ℕ). WholeReports b d l last) (take_rest piece at) reports;
      whole = λ w. wants_goes_on a f first.next w;
    }

-- one turn, and no other before it
pub one_turn : (a d : Running) (piece : List ℕ) (from to : ℕ) (last : Tried) → to ≡ from + 1 →
    IsSound a → WholeReports a d piece last →
    (is_complete a.built ≡ true → last ≡ tried.Untouched) →
    WholeTurnsReport a d piece from to 0 last
one_turn a d piece from to last is sound reports left = record {
  before = a;
  within = omega arith;
  moves = moves_none a;
  nearer = omega arith;
  few = (omega (arith, is), omega (arith, is));
  sound = sound;
  reports = reports;
  whole = λ w. (refl, refl, left w);
}

-- where no such turn is taken, what stands is as it was
pub no_whole : (a : Running) (piece : List ℕ) (from to : ℕ) → to ≡ from + 1 → IsSound a →
    WholeTurnsReport a a piece from to 0 tried.Untouched
no_whole a piece from to is sound =
    one_turn a a piece from to tried.Untouched is sound refl (λ w. refl)

-- the same of what is left of a piece, which was lent as a slice, where the last turn is known
whole_of : (b d : Running) (piece : List ℕ) (at from to n : ℕ) (last is : Tried) → last ≡ is →
    WholeTurnsReport b d (take (length piece - at) (drop at piece)) from to n last →
    WholeTurnsReport b d (drop at piece) from to n is
whole_of b d piece at from to n last is e k =
    subst (λ (t : Tried). WholeTurnsReport b d (drop at piece) from to n t) e
    (subst (λ (l : List ℕ). WholeTurnsReport b d l from to n last) (take_rest piece at) k)

-- nothing changed, so no node did
pub same_nodes : (a b : Running) → b ≡ a → SameNodes a b
same_nodes a b e = record {
  ty = ap (λ (s : Running). s.built.ty) e;
  walk = ap (λ (s : Running). s.built.walk) e;
  entries = ap (λ (s : Running). s.built.entries) e;
  turns = ap (λ (s : Running). s.built.turns) e;
}

-- turns on whole nodes, and what the turn after them reports, are the turns of a call
turns_with : (b x d : Running) (piece : List ℕ) (from to n : ℕ) (read : Tried) (last : Turned)
    (w : WholeTurnsReport b x piece from to n read) → StepReports w.before d (drop n piece) last →
    KeepsNodes w.before d last → (is_complete b.built ≡ true →
    (n ≡ 0) × (w.before ≡ b) × (last ≡ Err stop.Finished)) →
    TurnsReport b d piece from to n last
turns_with b x d piece from to n read last w reports kept whole = record {
  before = w.before;
  within = w.within;
  moves = w.moves;
  nearer = w.nearer;
  few = w.few;
  sound = w.sound;
  reports = reports;
  kept = kept;
  whole = whole;
}

-- where the last of such turns added a node, it went on
pub whole_added : (b d : Running) (piece : List ℕ) (at from to n k : ℕ) (last : Tried) →
    last ≡ tried.Added k →
    WholeTurnsReport b d (take (length piece - at) (drop at piece)) from to n last →
    TurnsReport b d (drop at piece) from to n (Ok k)
whole_added b d piece at from to n k last e h =
    let w = whole_of b d piece at from to n last (tried.Added k) e h in
    turns_with b d d (drop at piece) from to n (tried.Added k) (Ok k) w w.reports.0 tt
    (λ is. let no = (w.whole is).2 in absurd cc)

-- where it wanted memory, nothing changed
pub whole_short : (b d : Running) (piece : List ℕ) (at from to n : ℕ) (last : Tried) →
    last ≡ tried.OutOfMemory evidence →
    WholeTurnsReport b d (take (length piece - at) (drop at piece)) from to n last →
    TurnsReport b d (drop at piece) from to n (Err (stop.OutOfMemory evidence))
whole_short b d piece at from to n last e h =
    let w = whole_of b d piece at from to n last (tried.OutOfMemory evidence) e h in
    turns_with b d d (drop at piece) from to n (tried.OutOfMemory evidence)
    (Err (stop.OutOfMemory evidence)) w
    w.reports.0
    (same_nodes w.before d w.reports.1)
    (λ is. let no = (w.whole is).2 in absurd cc)

-- where it changed nothing, a turn of another kind is in its place
pub whole_left : (b x d : Running) (piece : List ℕ) (at from to n : ℕ) (left : Tried)
    (last : Turned) → left ≡ tried.Untouched →
    WholeTurnsReport b x (take (length piece - at) (drop at piece)) from to n left →
    StepReports x d (take (length piece - (at + n)) (drop (at + n) piece)) last →
    KeepsNodes x d last → (is_complete x.built ≡ true → last ≡ Err stop.Finished) →
    TurnsReport b d (drop at piece) from to n last
whole_left b x d piece at from to n left last e h reports kept finished =
    let w = whole_of b x piece at from to n left tried.Untouched e h in
    let rest : drop (at + n) piece ≡ drop n (drop at piece) = sym (drop_more piece at n) in
    turns_with b x d (drop at piece) from to n tried.Untouched last w
    (subst (λ (s : Running). StepReports s d (drop n (drop at piece)) last) w.reports
    (subst (λ (l : List ℕ). StepReports x d l last) rest
    (subst (λ (l : List ℕ). StepReports x d l last) (take_rest piece (at + n)) reports)))
    (subst (λ (s : Running). KeepsNodes s d last) w.reports kept)
    (λ is. (
      (w.whole is).0,
      (w.whole is).1,
      finished (subst (λ (s : Running). is_complete s.built ≡ true)
          (sym (w.reports ∙ (w.whole is).1)) is),
    ))

-- the turns so far, and those of the call before its last one
reached : (a b c : Running) (piece : List ℕ) (at n : ℕ) → Moves a b (take at piece) →
    Moves b c (take n (drop at piece)) → Moves a c (take (at + n) piece)
reached a b c piece at n h k = subst (Moves a c) (sym (take-add at n piece))
    (moves_on a b c (take at piece) (take n (drop at piece)) h k)

-- turns on whole nodes after others of the same call are all turns on whole nodes
pub turns_after : (a b d : Running) (piece : List ℕ) (at start from to n : ℕ) (last : Tried) →
    CallSoFar a b piece at start from → left_to_do b (drop at piece) ≤ left_to_do a piece →
    WholeTurnsReport b d (take (length piece - at) (drop at piece)) from to n last →
    WholeTurnsReport a d piece start to (at + n) last
turns_after a b d piece at start from to n last c near k =
    let w = whole_of b d piece at from to n last last refl k in
    record {
      before = w.before;
      within = omega (arith, c.inside, w.within, length-drop at piece);
      moves = reached a b w.before piece at n c.moves w.moves;
      nearer = omega (arith, near, w.nearer, ap (left_to_do w.before) (drop_more piece at n));
      few = (omega (arith, c.each, w.few.0), omega (arith, c.few, w.few.1));
      sound = w.sound;
      reports =
          subst (λ (l : List ℕ). WholeReports w.before d l last) (drop_more piece at n) w.reports;
      whole = λ is.
          let was = c.whole is in
          let one = w.whole (stays_whole a b at c.whole is) in
          (omega (arith, was.0, one.0), one.1 ∙ was.1, one.2);
    }

-- and where no such turn follows, those that were taken are
pub turns_end : (a b : Running) (piece : List ℕ) (at start from to : ℕ) →
    CallSoFar a b piece at start from → left_to_do b (drop at piece) ≤ left_to_do a piece →
    to ≡ from + 1 → IsSound b → WholeTurnsReport a b piece start to at tried.Untouched
turns_end a b piece at start from to c near is sound =
    let rest = take (length piece - at) (drop at piece) in
    subst (λ (n : ℕ). WholeTurnsReport a b piece start to n tried.Untouched) (omega arith)
    (turns_after a b b piece at start from to 0 tried.Untouched c near
    (no_whole b rest from to is sound))

-- after one that added a node nothing is carried, and no run is open
pub stays_ready : (b d : Running) (piece : List ℕ) (at from to n k : ℕ) (last : Tried) →
    last ≡ tried.Added k →
    WholeTurnsReport b d (take (length piece - at) (drop at piece)) from to n last → IsReady d
stays_ready b d piece at from to n k last e h =
    let w = whole_of b d piece at from to n last (tried.Added k) e h in w.reports.1

-- what turns took after the first bytes of a piece lies within the piece
fits : (b d : Running) (piece : List ℕ) (at from to n : ℕ) (last : Turned) → at ≤ length piece →
    TurnsReport b d (drop at piece) from to n last → at + n ≤ length piece
fits b d piece at from to n last le t = omega (arith, le, t.within, length-drop at piece)

-- what the last one reports of what is left of the whole piece
last_reports : (b d : Running) (piece : List ℕ) (at from to n : ℕ) (last : Turned)
    (t : TurnsReport b d (drop at piece) from to n last) →
    StepReports t.before d (drop (at + n) piece) last
last_reports b d piece at from to n last t =
    subst (λ (l : List ℕ). StepReports t.before d l last) (drop_more piece at n) t.reports

-- the last one goes on
pub call_goes_on : (a b d : Running) (piece : List ℕ) (at from to n k : ℕ) → at ≤ length piece →
    Moves a b (take at piece) → TurnsReport b d (drop at piece) from to n (Ok k) →
    (at + n + k ≤ length piece) × Moves a d (take (at + n + k) piece)
call_goes_on a b d piece at from to n k le h t =
    turns_on a t.before d piece (at + n) k (fits b d piece at from to n (Ok k) le t)
    (reached a b t.before piece at n h t.moves)
    (last_reports b d piece at from to n (Ok k) t)

-- and leaves less to do
pub call_nearer : (b d : Running) (piece : List ℕ) (at from to n k : ℕ) →
    TurnsReport b d (drop at piece) from to n (Ok k) →
    left_to_do d (drop (at + n + k) piece) < left_to_do b (drop at piece)
call_nearer b d piece at from to n k t =
    let one = last_reports b d piece at from to n (Ok k) t in
    let less : left_to_do d (drop (at + n + k) piece) < left_to_do t.before (drop (at + n) piece) =
    subst (λ (l : List ℕ). left_to_do d l < left_to_do t.before (drop (at + n) piece))
    (drop_more piece (at + n) k)
    (step_nearer t.before d (drop (at + n) piece) k one.0 one.1 one.2) in
    omega (arith, less, t.nearer, ap (left_to_do t.before) (drop_more piece at n))

-- the last one stops
pub call_stops : (a b d : Running) (piece : List ℕ) (at from to n : ℕ) (s : Stopped) →
    at ≤ length piece → Moves a b (take at piece) →
    TurnsReport b d (drop at piece) from to n (Err s) → FeedReports a d piece (at + n) s
call_stops a b d piece at from to n s le h t =
    turns_stop a t.before d piece (at + n) s
    (fits b d piece at from to n (Err s) le t)
    (reached a b t.before piece at n h t.moves)
    (last_reports b d piece at from to n (Err s) t) t.kept t.sound

-- ---- how many turns these are

-- no fewer than the nodes
pub call_each : (a b d : Running) (piece : List ℕ) (start from to n k : ℕ) →
    start + length b.built.entries ≤ from + length a.built.entries →
    TurnsReport b d piece from to n (Ok k) →
    start + length d.built.entries ≤ to + length a.built.entries
call_each a b d piece start from to n k h t =
    elim (grows_by t.before d (take k (drop n piece)) t.reports.2)
    [ inl same ↦ omega (arith, h, t.few.0, same) | inr more ↦ omega (arith, h, t.few.0, more) ]

-- no more than the nodes and the bytes
pub call_few : (a b d : Running) (piece : List ℕ) (start from to at n k : ℕ) →
    from + length a.built.entries ≤ start + at + length b.built.entries →
    TurnsReport b d piece from to n (Ok k) →
    to + length a.built.entries ≤ start + (at + n + k) + length d.built.entries
call_few a b d piece start from to at n k h t =
    omega (
      arith,
      h,
      t.few.1,
      one_or_bytes t.before d (take k (drop n piece)) t.reports.2,
      length-take k (drop n piece),
      t.reports.0,
    )

-- where the turns of a call were few so far, they are with those before its last one too
few_before : (a b d : Running) (piece : List ℕ) (start from to at n : ℕ) (last : Turned) →
    start + length b.built.entries ≤ from + length a.built.entries →
    from + length a.built.entries ≤ start + at + length b.built.entries →
    (t : TurnsReport b d piece from to n last) → FewTurns a t.before (at + n) start to
few_before a b d piece start from to at n last each few t =
    (omega (arith, each, t.few.0), omega (arith, few, t.few.1))

-- turns that end where the last one closed nothing are counted from the first of the call on
short : (a b d : Running) (piece : List ℕ) (at start from to n : ℕ) (last : Turned) →
    at ≤ length piece → Moves a b (take at piece) →
    start + length b.built.entries ≤ from + length a.built.entries →
    from + length a.built.entries ≤ start + at + length b.built.entries →
    (t : TurnsReport b d (drop at piece) from to n last) → d.built.turns ≡ t.before.built.turns →
    StopsShort a d piece (at + n) start to
short a b d piece at start from to n last le h each few t closed = record {
  within = fits b d piece at from to n last le t;
  last = t.before;
  moves = reached a b t.before piece at n h t.moves;
  few = few_before a b d (drop at piece) start from to at n last each few t;
  sound = t.sound;
  closed = closed;
}

-- turns of which the last one stopped are counted from the first of the call on
pub call_counts : (a b d : Running) (piece : List ℕ) (at start from to n : ℕ) (s : Stopped) →
    at ≤ length piece → Moves a b (take at piece) →
    start + length b.built.entries ≤ from + length a.built.entries →
    from + length a.built.entries ≤ start + at + length b.built.entries →
    TurnsReport b d (drop at piece) from to n (Err s) →
    StopCounts a d piece start to (at + n) s
call_counts a b d piece at start from to n stop.Finished le h each few t =
    subst (λ (r : Running). FewTurns a r (at + n) start to) (sym t.reports.0)
    (few_before a b d (drop at piece) start from to at n (Err stop.Finished) each few t)
call_counts a b d piece at start from to n stop.Wants le h each few t =
    subst (λ (r : Running). FewTurns a r (at + n) start to) (sym t.reports.0)
    (few_before a b d (drop at piece) start from to at n (Err stop.Wants) each few t)
call_counts a b d piece at start from to n (stop.Refused held reported_reason place len)
    le h each few t =
    short a b d piece at start from to n
    (Err (stop.Refused held reported_reason place len))
    le h each few t t.kept.turns
call_counts a b d piece at start from to n (stop.OutOfMemory _) le h each few t =
    short a b d piece at start from to n (Err (stop.OutOfMemory evidence))
    le h each few t t.kept.turns

-- ---- a value that was whole

-- where the value was whole at the start of a call, no turn goes on, so anything follows
pub whole_call_stops : {X : Type 0} (a b d : Running) (piece : List ℕ) (at from to n k : ℕ) →
    (is_complete a.built ≡ true → (at ≡ 0) × (b ≡ a)) → TurnsReport b d piece from to n (Ok k) →
    is_complete a.built ≡ true → X
whole_call_stops a b d piece at from to n k h t w =
    let stops = (t.whole (stays_whole a b at h w)).2 in
    absurd cc

-- where it was, the one turn stops there, and nothing changes
call_whole : (a b d : Running) (piece : List ℕ) (at from to n : ℕ) (s : Stopped) →
    (is_complete a.built ≡ true → (at ≡ 0) × (b ≡ a)) →
    TurnsReport b d piece from to n (Err s) → is_complete a.built ≡ true →
    (◌≡◌ {A = ℕ × Stopped} (at + n, s) (0, stop.Finished)) × (d ≡ a)
call_whole a b d piece at from to n stop.Finished h t w =
    let was = h w in
    let one = t.whole (stays_whole a b at h w) in
    let none : at + n ≡ 0 = omega (arith, was.0, one.0) in
    (ap (λ (m : ℕ). (m, stop.Finished)) none, t.reports.0 ∙ one.1 ∙ was.1)
call_whole a b d piece at from to n stop.Wants h t w =
    let no = (t.whole (stays_whole a b at h w)).2 in absurd cc
call_whole a b d piece at from to n (stop.Refused held reported_reason place len) h t w =
    let no = (t.whole (stays_whole a b at h w)).2 in absurd cc
call_whole a b d piece at from to n (stop.OutOfMemory _) h t w =
    let no = (t.whole (stays_whole a b at h w)).2 in absurd cc

-- ---- what a call tells

-- the last of its turns stops
pub tells_stopped : (a b d : Running) (piece : List ℕ) (at start from to n : ℕ) (s : Stopped) →
    CallSoFar a b piece at start from →
    TurnsReport b d (drop at piece) from to n (Err s) →
    FeedTells a d piece start to (at + n, s)
tells_stopped a b d piece at start from to n s c t = record {
  reports = call_stops a b d piece at from to n s c.inside c.moves t;
  whole = call_whole a b d (drop at piece) at from to n s c.whole t;
  counts = call_counts a b d piece at start from to n s c.inside c.moves c.each c.few t;
}

-- it goes on
pub call_on : (a b d : Running) (piece : List ℕ) (at start from to n k : ℕ) →
    CallSoFar a b piece at start from → TurnsReport b d (drop at piece) from to n (Ok k) →
    CallSoFar a d piece (at + n + k) start to
call_on a b d piece at start from to n k c t =
    let on = call_goes_on a b d piece at from to n k c.inside c.moves t in
    record {
      inside = on.0;
      moves = on.1;
      each = call_each a b d (drop at piece) start from to n k c.each t;
      few = call_few a b d (drop at piece) start from to at n k c.few t;
      whole = λ w. whole_call_stops a b d (drop at piece) at from to n k c.whole t w;
    }

-- where it did and all bytes were taken, one more stops that finds the next node to want more
pub tells_wants : (a b : Running) (piece : List ℕ) (at start from to : ℕ) →
    CallSoFar a b piece at start from → to ≡ from + 1 → at ≡ length piece → WantsBytes b →
    IsSound b → (is_complete b.built ≡ true → ⊥) → FeedTells a b piece start to (at, stop.Wants)
tells_wants a b piece at start from to c is all wants sound begun = record {
  reports =
      (c.inside, (b, c.moves, (drop_all at piece (omega (arith, all)), wants), refl, sound));
  whole = λ w. absurd (begun (stays_whole a b at c.whole w));
  counts = (omega (arith, is, c.each), omega (arith, is, c.few));
}

-- the turns of a call that has taken none
start_so_far : (a : Running) (piece : List ℕ) (from : ℕ) → CallSoFar a a piece 0 from from
start_so_far a piece from = record {
  inside = omega arith;
  moves = moves_none a;
  each = omega arith;
  few = omega arith;
  whole = λ w. (refl, refl);
}

-- where nothing changed it has still taken none
pub left_so_far : (a d : Running) (piece : List ℕ) (from : ℕ) → d ≡ a →
    CallSoFar a d piece 0 from from
left_so_far a d piece from same = rw same (start_so_far a piece from)
