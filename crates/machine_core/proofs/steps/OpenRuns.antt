-- Turns on a text or a run of bytes.
use Rattle.std.proofs.Common.{◌≡◌, ℕ, ◌+◌, ◌-◌, ◌<◌, ◌≤◌, Bool, true, false, List, [], ◌++◌}
use Rattle.std.proofs.Common.{length}
use Rattle.std.proofs.Common.{take, drop, Option, Some, None, Ok, Err, refl, sym, ap, subst, ◌∙◌}
use Rattle.std.proofs.Common.{IfSome, append_assoc, arith, inl, inr, length-append, length-drop}
use Rattle.std.specs.Prelude.{min, option_map}
use Rattle.std.specs.Str.{is_utf8}
use Rattle.std.specs.Str.Lossy.{utf8_valid_len}
use Rattle.std.proofs.lemmas.Bool.{cases_lt}
use Rattle.std.proofs.lemmas.List.{append-nil, length-take, take-append-drop}
use Rattle.std.proofs.lemmas.List.{take-append-le, take_all}
use Rattle.std.proofs.lemmas.Str.{utf8_valid_len_le}
use Rattle.std.proofs.Math.Seq.{take-append-add}
use Rattle.scale_core.specs.Compact.{compact}
use Rattle.scale_core.specs.Read.{Read, ◌>>=◌}
use Rattle.scale_core.specs.declared.fault.Reason.{Reason}
use Rattle.scale_core.specs.declared.fault.Reason.TheVariants as scale
use Rattle.types_core.specs.Bits.{bits_bytes, first_unused}
use Rattle.types_core.proofs.BitWords.{unused_after, unused_none}
use Rattle.widths_core.specs.Layouts.{Layout}
use Rattle.widths_core.specs.RunBytes.{run_bytes}
use Rattle.widths_core.specs.Layouts as layout
use Rattle.widths_core.specs.declared.run_kind.RunKind.{RunKind}
use Rattle.widths_core.specs.declared.run_kind.RunKind.TheVariants as kind
use Rattle.grammar_core.specs.Preorder as head
use Rattle.grammar_core.specs.Reading.{basic, truncated, as_leaf, layout_at}
use Rattle.grammar_core.specs.Ways.{leaf_of}
use Rattle.grammar_core.specs.Runs.{body_at, run_at, run_form, run_front, run_leaf}
use Rattle.grammar_core.specs.Runs.{run_length_at}
use Rattle.grammar_core.specs.declared.form.Next.TheVariants as next
use Rattle.grammar_core.proofs.Runs.{body_again, length_extends}
use Rattle.value_core.specs.Built.{Built, Pieces, next_layout, run_head, with_leaf, with_run_closed}
use Rattle.value_core.specs.Built.{IsClean, unused_in, unused_of, with_piece, with_run_ended}
use Rattle.value_core.proofs.RunEnded.{is_run}
use Rattle.value_core.specs.Refusals.{IsRunComplete, RunLacks, bad_bytes, bad_text, missing_at}
use Rattle.value_core.specs.Walked.{next_of}
use Rattle.form_core.specs.Needs.{HasBytes}
use Rattle.machine_core.specs.NodeAdds.{IsAdded}
use Rattle.machine_core.specs.Running.{Running, IsLength, IsRunning, IsRunNext, held_of}
use Rattle.machine_core.specs.Running.{run_held, state_of}
use Rattle.grammar_core.specs.Reading.{leaf_own}
use Rattle.outcome_core.specs.Reported.{own_at}
use Rattle.machine_core.specs.Turned.{EndReports, EndsTurns, WantsBytes}
use Rattle.machine_core.specs.Turned.{WantsMemory}
use Rattle.outcome_core.specs.Machine.{TurnLeads}
use Rattle.outcome_core.proofs.ShortestCompacts.{short_bytes, whole_bytes}
use Rattle.machine_core.specs.declared.reason.DecodeReason.TheVariants as reason
use Rattle.machine_core.specs.declared.turned.Stopped.TheVariants as stop
use Rattle.machine_core.proofs.steps.NodeAdding.{next_run}
use Rattle.machine_core.proofs.steps.Refusing.{front_short, refuses_by, run_short}
use Rattle.machine_core.proofs.steps.Settling.{added_run, added_running}
use Rattle.machine_core.proofs.steps.MachineTurn.{at_next, added_leads}
use Rattle.machine_core.proofs.steps.TurnEffects.{added_count, added_same, held_closed}

-- what stands after a length that is known
pub length_again : (k : RunKind) (n : ℕ) (more : List ℕ) → IsLength k n →
    run_length_at k (run_front k n ++ more) ≡ Ok (n, more)
length_again k n more h = (rw h.read at (length_extends k (run_front k n) more))

-- the length of a run with its bytes
abbrev counted : ℕ → List ℕ × List ℕ → Read Reason (ℕ × List ℕ)
counted n s = Ok ((n, s.0), s.1)

-- a run's own bytes, by those after its length
pub run_after : (k : RunKind) (n : ℕ) (bytes : List ℕ) (read : Read Reason (List ℕ)) →
    IsLength k n →
    body_at k n bytes ≡ read → run_at k (run_front k n ++ bytes) ≡ (read >>= counted n)
unfolding run_at
run_after k n bytes read h is = rw (length_again k n bytes h, is) refl

-- the bytes of a run are cut where some are missing, if no unused bit is 1
pub body_missing : (k : RunKind) (n : ℕ) (bytes : List ℕ) → length bytes < run_bytes k n →
    IsClean k n bytes → body_at k n bytes ≡ Err (scale.Truncated, [])
unfolding body_at
body_missing kind.Text n bytes few clean = rw (short_bytes n bytes few) refl
body_missing kind.Bytes n bytes few clean = rw (short_bytes n bytes few) refl
body_missing (kind.ByteArray m) n bytes few clean = rw (short_bytes n bytes few) refl
body_missing (kind.Bits f) n bytes few clean =
    rw (take_all (bits_bytes f n) bytes (omega (arith, few)), clean)
    (short_bytes (bits_bytes f n) bytes few)

-- bytes of it are missing
pub run_missing : (k : RunKind) (n : ℕ) (bytes : List ℕ) → IsLength k n →
    length bytes < run_bytes k n → IsClean k n bytes →
    own_at (layout.plain (layout.run k)) (run_front k n ++ bytes) ≡ Err (truncated, [])
unfolding own_at layout_at
run_missing k n bytes h few clean =
    ap (λ r. leaf_own (as_leaf (leaf_of (run_leaf k) r)))
    (run_after k n bytes (Err (scale.Truncated, [])) h (body_missing k n bytes few clean))

-- it is a text that is not UTF-8
pub record IsBadText (k : RunKind) (s : List ℕ) (valid : ℕ) : Type 0 where
  pub front : (n : ℕ) → run_front k n ≡ compact n
  pub size : (n : ℕ) → run_bytes k n ≡ n
  pub body : (n : ℕ) → length s ≡ n → body_at k n s ≡ Err (scale.BadUtf8, drop valid s)
  pub within : valid ≤ length s

-- where bytes of a run are found to be bad, it is a text that is not UTF-8 from there on
pub is_bad : (k : RunKind) (s : List ℕ) (valid : ℕ) → bad_bytes k s ≡ Some valid →
    IsBadText k s valid
unfolding body_at
is_bad kind.Text s valid h = by (is_utf8 s) refl where
  by : (c : Bool) → is_utf8 s ≡ c → IsBadText kind.Text s valid
  by true e = let no = rw e at h in absurd cc
  by false e =
      let is : utf8_valid_len s ≡ valid = let same = rw e at h in cc in
      record {
        front = λ n. refl;
        size = λ n. refl;
        body = λ n len. rw (whole_bytes n s len, e, is) refl;
        within = omega (arith, is, utf8_valid_len_le s);
      }
is_bad kind.Bytes s valid h = absurd cc
is_bad (kind.ByteArray n) s valid h = absurd cc
is_bad (kind.Bits f) s valid h = absurd cc

-- they are all there, and nothing is wrong with them
pub run_whole : (k : RunKind) (n : ℕ) (bytes : List ℕ) → IsLength k n →
    length bytes ≡ run_bytes k n → bad_bytes k bytes ≡ None → IsClean k n bytes →
    own_at (layout.plain (layout.run k)) (run_front k n ++ bytes)
    ≡ Ok ((head.leaf (run_leaf k (n, bytes)), None), [])
unfolding own_at layout_at
run_whole k n bytes h all good clean =
    ap (λ r. leaf_own (as_leaf (leaf_of (run_leaf k) r)))
    (run_after k n bytes (Ok (bytes, [])) h
    (ap (body_at k n) (sym (append-nil bytes))
    ∙ body_again k n bytes [] all (is_run k n bytes good clean)))

-- they are all there, and are a text that is not UTF-8
pub run_bad : (k : RunKind) (n : ℕ) (bytes : List ℕ) (valid : ℕ) → IsLength k n →
    length bytes ≡ n → IsBadText k bytes valid →
    own_at (layout.plain (layout.run k)) (run_front k n ++ bytes)
    ≡ Err (basic scale.BadUtf8, drop valid bytes)
unfolding own_at layout_at
run_bad k n bytes valid h all bad =
    ap (λ r. leaf_own (as_leaf (leaf_of (run_leaf k) r)))
    (run_after k n bytes (Err (scale.BadUtf8, drop valid bytes)) h (bad.body n all))

-- a length that has bytes has a node's first
front_bytes : (k : RunKind) (n i : ℕ) → i < length (run_front k n) → HasBytes (run_form k)
front_bytes kind.Text n i h = tt
front_bytes kind.Bytes n i h = tt
front_bytes (kind.ByteArray m) n i h = absurd (omega (arith, h))
front_bytes (kind.Bits f) n i h = tt

-- a front of bytes of which no unused bit is 1 has none either
pub clean_front : (k : RunKind) (n : ℕ) (bytes : List ℕ) (i : ℕ) → IsClean k n bytes →
    IsClean k n (take i bytes)
clean_front kind.Text n bytes i h = tt
clean_front kind.Bytes n bytes i h = tt
clean_front (kind.ByteArray m) n bytes i h = tt
clean_front (kind.Bits f) n bytes i h = unused_none f n 0 (take i bytes) (drop i bytes)
    (ap (first_unused f n 0) (take-append-drop i bytes) ∙ h)

-- more bytes without one leave it so
pub clean_more : (k : RunKind) (n : ℕ) (s more : List ℕ) → IsClean k n s →
    unused_of k n (length s) more ≡ None → IsClean k n (s ++ more)
clean_more kind.Text n s more h e = tt
clean_more kind.Bytes n s more h e = tt
clean_more (kind.ByteArray m) n s more h e = tt
clean_more (kind.Bits f) n s more h e = let start : 0 + length s ≡ length s = omega arith in
    (rw start at (unused_after f n 0 s more h)) ∙ ap (option_map (λ i. length s + i)) e

-- fewer than all its bytes are too few
pub run_begun : (k : RunKind) (n : ℕ) (bytes : List ℕ) (i : ℕ) → IsLength k n →
    length bytes ≤ run_bytes k n → ((j : ℕ) → j < length bytes → IsClean k n (take j bytes)) →
    i < length (run_front k n ++ bytes) →
    own_at (layout.plain (layout.run k)) (take i (run_front k n ++ bytes)) ≡ Err (truncated, [])
run_begun k n bytes i h all clean lt =
    let front = run_front k n in elim (cases_lt i (length front)) [
      | inl low ↦
          let has = front_bytes k n i low in
          ap (own_at (layout.plain (layout.run k)))
          (take-append-le i front bytes (omega (arith, low)))
          ∙ run_short k (take i front) has (front_short (run_form k) front i (h.own has) low)
      | inr ge ↦
          let more = i - length front in
          let same : i ≡ length front + more = omega (arith, ge) in
          let below : more < length bytes = omega (arith, lt, length-append front bytes, ge) in
          let few : length (take more bytes) < run_bytes k n =
          omega (arith, length-take more bytes, all, below) in
          ap (λ (j : ℕ). own_at (layout.plain (layout.run k)) (take j (front ++ bytes))) same
          ∙ ap (own_at (layout.plain (layout.run k))) (take-append-add front bytes more)
          ∙ run_missing k n (take more bytes) h few (clean more below)
    ]

-- ---- what is known of an open run

-- a run that is open, which is next, and how many bytes it lacks
pub record IsRunOpen (b : Built) (c : List ℕ) (missing : ℕ) : Type 0 where
  pub pieces : Pieces
  pub open_is : b.run ≡ Some pieces
  pub wants : next_of b.walk ≡ next.Wants (run_form pieces.kind)
  pub none : c ≡ []
  pub length_is : IsLength pieces.kind pieces.len
  pub clean : IsClean pieces.kind pieces.len pieces.bytes
  pub lacks : length pieces.bytes + missing ≡ run_bytes pieces.kind pieces.len

-- a run that lacks bytes, or none, is open and next
pub is_open : (b : Built) (c : List ℕ) (missing : ℕ) → IsRunNext b c b.run →
    RunLacks b.run missing →
    IsRunOpen b c missing
is_open b c missing h k = by b.run refl h k where
  by : (run : Option Pieces) → b.run ≡ run → IsRunNext b c run → RunLacks run missing →
      IsRunOpen b c missing
  by None e h k = absurd k
  by (Some t) e h k = record {
    pieces = t;
    open_is = e;
    wants = h.0;
    none = h.1;
    length_is = h.2;
    clean = h.3;
    lacks = k;
  }

-- the same of a decoder that has these fields
pub open_of : (b : Built) (c : List ℕ) (missing : ℕ) (s : Running) →
    record { built = b; carry = c } ≡ s → IsRunNext s.built s.carry s.built.run →
    RunLacks s.built.run missing → IsRunOpen b c missing
open_of b c missing s is h k =
    is_open b c missing
    (subst (λ (x : Running). IsRunNext x.built x.carry x.built.run) (sym is) h)
    (subst (λ (x : Running). RunLacks x.built.run missing) (sym is) k)

-- ---- the end of a run

-- the bytes of a run that lacks none are as many as its length says
all_there : {b : Built} {c : List ℕ} (n : IsRunOpen b c 0) →
    length n.pieces.bytes ≡ run_bytes n.pieces.kind n.pieces.len
all_there n = omega (arith, n.lacks)

-- the bytes of an open run, those of its length first
abbrev pub own_of : Pieces → List ℕ
own_of t = run_front t.kind t.len ++ t.bytes

-- where a run is open, its length and the bytes that came are held
pub held_open : (b : Built) (c : List ℕ) (t : Pieces) → b.run ≡ Some t →
    held_of (record { built = b; carry = c }) ≡ own_of t
held_open b c t e = ap (λ (o : Option Pieces). run_held o c) e

-- a run at its end lacks nothing
lacks_none : (b : Built) (c : List ℕ) → IsRunOpen b c 0 → IsRunComplete b
lacks_none b c n =
    let t = n.pieces in
    let none : run_bytes t.kind t.len - length t.bytes ≡ 0 = omega (arith, n.lacks) in (
      t.kind,
      ap (λ (o : Option Pieces). missing_at o (next_of b.walk)) n.open_is
          ∙ ap (missing_at (Some t)) n.wants ∙ ap (λ (k : ℕ). Ok (t.kind, k)) none,
    )

-- what holds, holds where one is open
where_open : (run : Option Pieces) (P : Type 0) → P → IfSome run (λ x. P)
where_open (Some t) P h = h
where_open None P h = tt

-- a run at its end lacks nothing, if one is open at all
pub end_whole : (b : Built) (c : List ℕ) → IsRunOpen b c 0 → IfSome b.run (λ x. IsRunComplete b)
end_whole b c n = where_open b.run (IsRunComplete b) (lacks_none b c n)

-- what is wrong with its bytes is what is wrong with the open run
pub end_bad : (b : Built) (c : List ℕ) (n : IsRunOpen b c 0) →
    bad_text b.run ≡ bad_bytes n.pieces.kind n.pieces.bytes
end_bad b c n = ap bad_text n.open_is

-- the front that is valid is no longer than the text
pub bad_within : (b : Built) (c : List ℕ) (n : IsRunOpen b c 0) (valid : ℕ) →
    bad_text b.run ≡ Some valid → valid ≤ n.pieces.len
bad_within b c n valid is =
    let bad = is_bad n.pieces.kind n.pieces.bytes valid (sym (end_bad b c n) ∙ is) in
    omega (arith, bad.within, n.lacks, bad.size n.pieces.len)

-- the bytes that are bad are as many as the length says
pub bad_all : (b : Built) (c : List ℕ) (n : IsRunOpen b c 0) (valid : ℕ) →
    bad_text b.run ≡ Some valid → length n.pieces.bytes ≡ n.pieces.len
bad_all b c n valid is =
    let bad = is_bad n.pieces.kind n.pieces.bytes valid (sym (end_bad b c n) ∙ is) in
    omega (arith, n.lacks, bad.size n.pieces.len)

-- the value without its open run, to which the run is added
abbrev pub closed_of : Built → Built
closed_of b = record b { run = None }

-- where an open run is next, the own bytes of the next node are read as the run
pub laid_run : (b : Built) (t : Pieces) → next_of b.walk ≡ next.Wants (run_form t.kind) →
    (l : List ℕ) → own_at (next_layout b) l ≡ own_at (layout.plain (layout.run t.kind)) l
laid_run b t wants l = ap (λ (f : Layout). own_at f l) (next_run b t.kind wants)

-- a run at its end whose bytes are not bad is read as a leaf that leaves nothing
end_read : (b : Built) (c : List ℕ) (n : IsRunOpen b c 0) → bad_text b.run ≡ None →
    own_at (next_layout b) (own_of n.pieces)
    ≡ Ok ((head.leaf (run_leaf n.pieces.kind (n.pieces.len, n.pieces.bytes)), None), [])
end_read b c n good =
    let t = n.pieces in
    laid_run b t n.wants (own_of t)
    ∙ run_whole t.kind t.len t.bytes n.length_is (all_there n) (sym (end_bad b c n) ∙ good) n.clean

-- to end a run whose bytes are not bad is to add its node by its length and bytes
run_added : (b new : Built) (c : List ℕ) (n : IsRunOpen b c 0) → bad_text b.run ≡ None →
    new ≡ with_run_ended b → IsAdded (closed_of b) new (own_of n.pieces)
run_added b new c n good is = (
  (head.leaf (run_leaf n.pieces.kind (n.pieces.len, n.pieces.bytes)), None),
  end_read b c n good,
  is ∙ ap (λ (o : Option Pieces). with_leaf (closed_of b) (run_head o)) n.open_is,
)

-- a run that is open is closed by ending it
closed_is : (b : Built) (c : List ℕ) → IsRunOpen b c 0 → with_run_closed b ≡ with_run_ended b
closed_is b c n =
    ap (λ (o : Option Pieces). elim o [ Some t ↦ with_run_ended b | None ↦ b ]) n.open_is

-- where a run was ended whose bytes are not bad, the decoder is in progress again
pub ended_running : (b new : Built) (c : List ℕ) → IsRunOpen b c 0 → bad_text b.run ≡ None →
    new ≡ with_run_closed b → IsRunning new c
ended_running b new c n good is =
    subst (IsRunning new) (sym n.none)
    (added_running (closed_of b) new (own_of n.pieces)
    (at_next (closed_of b) (run_form n.pieces.kind) n.wants) refl
    (run_added b new c n good (is ∙ closed_is b c n)))

-- the run is the next node
pub ended_reports : (b new : Built) (c : List ℕ) → IsRunOpen b c 0 → (count : ℕ) →
    bad_text b.run ≡ None → new ≡ with_run_closed b →
    EndReports (record { built = b; carry = c }) (record { built = new; carry = c }) count
    (Ok count)
ended_reports b new c n count good is =
    let own = own_of n.pieces in
    let a = run_added b new c n good (is ∙ closed_is b c n) in
    let same = added_same (closed_of b) new c c own a in
    let led : TurnLeads b.walk.types (state_of b) (state_of new) own =
    added_leads (closed_of b) new own (at_next (closed_of b) (run_form n.pieces.kind) n.wants)
    a in
    let nothing : held_of (record { built = new; carry = c }) ≡ [] =
    held_closed new c (added_run (closed_of b) new own refl a) ∙ n.none in (
      refl,
      record { types = same.types; limit = same.limit; ty = same.ty },
      inr (
        nothing,
        rw (held_open b c n.pieces n.open_is, append-nil) led,
        added_count (closed_of b) new own a,
      ),
    )

-- ---- a text that is refused

-- a text at its end that is not UTF-8 stops the turns at the first bad byte
pub bad_reports : (b : Built) (c : List ℕ) (n : IsRunOpen b c 0) (valid before : ℕ) →
    bad_text b.run ≡ Some valid → before ≡ length (compact n.pieces.len) → (rest : List ℕ) →
    EndsTurns (record { built = b; carry = c }) rest
    (stop.Refused (before + n.pieces.len) reason.BadUtf8 (before + valid)
    (before + n.pieces.len))
bad_reports b c n valid before is count rest =
    let t = n.pieces in
    let own = own_of t in
    let bad = is_bad t.kind t.bytes valid (sym (end_bad b c n) ∙ is) in
    let at = at_next b (run_form t.kind) n.wants in
    let left = drop valid t.bytes in
    let held_is = held_open b c t n.open_is in
    let x = held_of (record { built = b; carry = c }) ++ rest in
    let whole : x ≡ own ++ rest = ap (λ (l : List ℕ). l ++ rest) held_is in
    let all = bad_all b c n valid is in
    let laid = laid_run b t n.wants own ∙ run_bad t.kind t.len t.bytes valid n.length_is all bad in
    let few : (i : ℕ) → i < length own → own_at (next_layout b) (take i own) ≡ Err (truncated, []) =
    λ i lt. laid_run b t n.wants (take i own)
    ∙ run_begun t.kind t.len t.bytes i n.length_is (omega (arith, n.lacks))
    (λ j below. clean_front t.kind t.len t.bytes j n.clean) lt in
    let r = refuses_by b at own rest left (basic scale.BadUtf8) laid refl few in
    let own_count : length own ≡ before + t.len =
    omega (
      arith,
      length-append (run_front t.kind t.len) t.bytes,
      ap length (bad.front t.len),
      all,
      count,
    ) in
    let place_is : before + valid ≡ length x - length (left ++ rest) =
    omega (
      arith,
      ap length whole,
      length-append own rest,
      own_count,
      length-append left rest,
      length-drop valid t.bytes,
      all,
      bad.within,
    ) in (
      basic scale.BadUtf8,
      left ++ rest,
      refl,
      refl,
      sym own_count ∙ ap length (sym held_is),
      place_is,
      rw whole r.reports,
      rw (whole, ← own_count) r.decided,
      omega arith,
    )

-- ---- bytes that are appended

-- at most as many as there are
pub take_min : (m : ℕ) (l : List ℕ) → take (min (length l) m) l ≡ take m l
take_min m l = elim (cases_lt (length l) m) [
  | inl lt ↦
      let all : min (length l) m ≡ length l = omega (arith, lt) in
      rw all (take_all (length l) l (omega arith) ∙ sym (take_all m l (omega (arith, lt))))
  | inr le ↦ let few : min (length l) m ≡ m = omega (arith, le) in rw few refl
]

-- bytes that the open run takes leave a value in progress, if no unused bit of theirs is 1
pub piece_running : (b : Built) (c : List ℕ) (missing : ℕ) (p : List ℕ) → IsRunOpen b c missing →
    IsRunning b c → unused_in b.run p ≡ None → IsRunning (with_piece b p) c
piece_running b c missing p n h e =
    let t = n.pieces in
    let u : unused_of t.kind t.len (length t.bytes) p ≡ None =
    sym (ap (λ (o : Option Pieces). unused_in o p) n.open_is) ∙ e in
    subst (IsRunning (with_piece b p)) (sym n.none) (record {
      rooted = h.rooted;
      deep = h.deep;
      settled = h.settled;
      carried = tt;
      run_next = rw n.open_is
          (n.wants, refl, n.length_is, clean_more t.kind t.len t.bytes p n.clean u);
    })

-- ---- more bytes are wanted

-- a run that lacks bytes waits for them
pub run_waits : (b : Built) (c : List ℕ) (missing : ℕ) → IsRunOpen b c missing → 1 ≤ missing →
    WantsBytes (record { built = b; carry = c })
run_waits b c missing n some =
    let t = n.pieces in
    let few : length t.bytes < run_bytes t.kind t.len = omega (arith, n.lacks, some) in
    let laid = laid_run b t n.wants (own_of t)
    ∙ run_missing t.kind t.len t.bytes n.length_is few n.clean in
    record {
      form = run_form t.kind;
      next = n.wants;
      left = [];
      short = rw (held_open b c t n.open_is) laid;
    }

-- ---- memory that is wanted for a run

-- some of its bytes are to be kept
pub piece_wants : (b : Built) (c : List ℕ) (missing : ℕ) (piece : List ℕ) (count : ℕ) →
    IsRunOpen b c missing → count ≤ missing → count ≤ length piece → 1 ≤ count →
    unused_in b.run (take count piece) ≡ None → WantsMemory (record { built = b; carry = c }) piece
piece_wants b c missing piece count n few there some e =
    let t = n.pieces in
    let front = take count piece in
    let u : unused_of t.kind t.len (length t.bytes) front ≡ None =
    sym (ap (λ (o : Option Pieces). unused_in o front) n.open_is) ∙ e in
    let len : length front ≡ count = omega (arith, length-take count piece, there) in
    let read : run_length_at t.kind (held_of (record { built = b; carry = c }) ++ front)
    ≡ Ok (t.len, t.bytes ++ front) =
    ap (λ (l : List ℕ). run_length_at t.kind (l ++ front)) (held_open b c t n.open_is)
    ∙ ap (run_length_at t.kind) (append_assoc (run_front t.kind t.len) t.bytes front)
    ∙ length_again t.kind t.len (t.bytes ++ front) n.length_is in
    record {
      form = run_form t.kind;
      next = n.wants;
      bytes = front;
      later = drop count piece;
      is = sym (take-append-drop count piece);
      keeps = inr (
        t.kind,
        next_run b t.kind n.wants,
        omega (arith, len, some),
        (
          t.len,
          t.bytes ++ front,
          read,
          omega (arith, length-append t.bytes front, len, n.lacks, few),
          clean_more t.kind t.len t.bytes front n.clean u,
        ),
      );
    }

-- its node is to be added
pub end_wants : (b : Built) (c : List ℕ) → IsRunOpen b c 0 → bad_text b.run ≡ None →
    (rest : List ℕ) → WantsMemory (record { built = b; carry = c }) rest
end_wants b c n good rest =
    let t = n.pieces in
    let held : held_of (record { built = b; carry = c }) ++ [] ≡ own_of t =
    append-nil (held_of (record { built = b; carry = c })) ∙ held_open b c t n.open_is in
    record {
      form = run_form t.kind;
      next = n.wants;
      bytes = [];
      later = rest;
      is = refl;
      keeps = inl (
        (head.leaf (run_leaf t.kind (t.len, t.bytes)), None),
        ap (own_at (next_layout b)) held ∙ end_read b c n good,
      );
    }
