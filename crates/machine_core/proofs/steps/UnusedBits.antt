-- An open run of words with an unused bit that is 1.
use Rattle.std.proofs.Common.{suc, ◌≡◌, ℕ, ◌+◌, ◌<◌, ◌≤◌, List, [], ◌++◌}
use Rattle.std.proofs.Common.{length}
use Rattle.std.proofs.Common.{take, drop, min, Option, None, Some, Err, refl, sym, ap, subst, ◌∙◌}
use Rattle.std.proofs.Common.{append_assoc, arith, length-append, length-drop}
use Rattle.std.specs.Prelude.{option_map}
use Rattle.std.proofs.lemmas.List.{length-take, length-take-le, take-append-drop}
use Rattle.std.proofs.lemmas.List.{take-take, take_all}
use Rattle.scale_core.specs.Compact.{compact}
use Rattle.scale_core.specs.declared.fault.Reason.TheVariants as scale
use Rattle.types_core.specs.Bits.{bits_bytes, first_unused}
use Rattle.types_core.proofs.BitWords.{unused_after, unused_before, unused_front}
use Rattle.types_core.proofs.BitWords.{unused_within}
use Rattle.widths_core.specs.Layouts.{Layout}
use Rattle.widths_core.specs.RunBytes.{run_bytes}
use Rattle.widths_core.specs.Layouts as layout
use Rattle.widths_core.specs.declared.run_kind.RunKind.{RunKind}
use Rattle.widths_core.specs.declared.run_kind.RunKind.TheVariants as kind
use Rattle.grammar_core.specs.Reading.{basic, truncated, as_leaf, layout_at}
use Rattle.grammar_core.specs.Ways.{leaf_of}
use Rattle.grammar_core.specs.Runs.{body_at, run_form, run_front, run_leaf}
use Rattle.value_core.specs.Built.{Built, Pieces, next_layout}
use Rattle.value_core.specs.Built.{IsClean, unused_in, unused_of}
use Rattle.machine_core.specs.Running.{Running, IsLength, held_of}
use Rattle.grammar_core.specs.Reading.{leaf_own}
use Rattle.outcome_core.specs.Reported.{own_at}
use Rattle.machine_core.specs.Turned.{EndsTurns, StepReports}
use Rattle.machine_core.specs.Turned.{unused_stop}
use Rattle.machine_core.specs.declared.turned.Stopped.{Stopped}
use Rattle.machine_core.proofs.steps.Refusing.{refuses_by}
use Rattle.machine_core.proofs.steps.MachineTurn.{at_next}
use Rattle.machine_core.proofs.steps.OpenRuns.{IsRunOpen, held_open, laid_run, run_after}
use Rattle.machine_core.proofs.steps.OpenRuns.{run_begun, take_min}

-- so many bytes after those that came, the next one has an unused bit of 1; these and the bytes up
-- to that one are refused, and fewer are cut
pub record AreBadWords (k : RunKind) (n : ℕ) (s front : List ℕ) (after : ℕ) : Type 0 where
  pub length_is : run_front k n ≡ compact n
  pub body : body_at k n (s ++ front)
      ≡ Err (scale.UnusedBits, drop (length s + after) (s ++ front))
  pub early : (j : ℕ) → j < length (s ++ front) → IsClean k n (take j (s ++ front))
  pub count : length front ≡ suc after

-- the first bytes of a piece that has such a bit, and where they end
bad_words : (k : RunKind) (n : ℕ) (s p : List ℕ) (after : ℕ) → IsClean k n s →
    unused_of k n (length s) p ≡ Some after → length s + length p ≤ run_bytes k n →
    AreBadWords k n s (take (suc after) p) after
unfolding body_at
bad_words kind.Text n s p after clean e le = absurd cc
bad_words kind.Bytes n s p after clean e le = absurd cc
bad_words (kind.ByteArray m) n s p after clean e le = absurd cc
bad_words (kind.Bits f) n s p after clean e le =
    let front = take (suc after) p in
    let within : after < length p = unused_within f n (length s) p after e in
    let count : length front ≡ suc after = length-take-le (suc after) p (omega (arith, within)) in
    let parts = length-append s front in
    let start : 0 + length s ≡ length s = omega arith in
    let found : first_unused f n 0 (s ++ front) ≡ Some (length s + after) =
    (rw start at (unused_after f n 0 s front clean))
    ∙ ap (option_map (λ i. length s + i)) (unused_front f n (length s) p after e) in
    record {
      length_is = refl;
      body = rw (
        take_all (bits_bytes f n) (s ++ front) (omega (arith, parts, count, within, le)),
        found,
      ) refl;
      early = λ j lt. unused_before f n 0 (s ++ front) (length s + after) j found
          (omega (arith, lt, parts, count));
      count = count;
    }

-- the own bytes of the node are refused where that byte stands
run_unused : (k : RunKind) (n : ℕ) (s front : List ℕ) (after : ℕ) → IsLength k n →
    AreBadWords k n s front after →
    own_at (layout.plain (layout.run k)) (run_front k n ++ (s ++ front))
    ≡ Err (basic scale.UnusedBits, drop (length s + after) (s ++ front))
unfolding own_at layout_at
run_unused k n s front after h bad =
    ap (λ r. leaf_own (as_leaf (leaf_of (run_leaf k) r)))
    (run_after k n (s ++ front) (Err (scale.UnusedBits, drop (length s + after) (s ++ front))) h
    bad.body)

-- words stop the turns at the first byte with an unused bit of 1
unused_reports : (b : Built) (c : List ℕ) (missing : ℕ) (n : IsRunOpen b c missing)
    (piece : List ℕ) (m after : ℕ) → m ≤ missing → unused_in b.run (take m piece) ≡ Some after →
    EndsTurns (record { built = b; carry = c }) piece (unused_stop (Some n.pieces) after)
unused_reports b c missing n piece m after few is =
    let t = n.pieces in
    let p = take m piece in
    let front = take (suc after) p in
    let e : unused_of t.kind t.len (length t.bytes) p ≡ Some after =
    sym (ap (λ (o : Option Pieces). unused_in o p) n.open_is) ∙ is in
    let bad = bad_words t.kind t.len t.bytes p after n.clean e
    (omega (arith, n.lacks, few, length-take m piece)) in
    let short : suc after ≤ m =
    omega (arith, bad.count, length-take (suc after) p, length-take m piece) in
    let later = drop (suc after) piece in
    let split : front ++ later ≡ piece =
    ap (λ (l : List ℕ). l ++ later) (take-take (suc after) m piece short)
    ∙ take-append-drop (suc after) piece in
    let bytes = t.bytes ++ front in
    let own = run_front t.kind t.len ++ bytes in
    let left = drop (length t.bytes + after) bytes in
    let held_is = held_open b c t n.open_is in
    let held = held_of (record { built = b; carry = c }) in
    let whole : held ++ piece ≡ own ++ later =
    ap (λ (l : List ℕ). held ++ l) (sym split) ∙ sym (append_assoc held front later)
    ∙ ap (λ (l : List ℕ). l ++ later) (ap (λ (l : List ℕ). l ++ front) held_is
    ∙ append_assoc (run_front t.kind t.len) t.bytes front) in
    let at = at_next b (run_form t.kind) n.wants in
    let laid = laid_run b t n.wants own
    ∙ run_unused t.kind t.len t.bytes front after n.length_is bad in
    let parts = length-append t.bytes front in
    let le : length bytes ≤ run_bytes t.kind t.len =
    omega (arith, parts, bad.count, short, few, n.lacks) in
    let early : (i : ℕ) → i < length own →
    own_at (next_layout b) (take i own) ≡ Err (truncated, []) =
    λ i lt. laid_run b t n.wants (take i own)
    ∙ run_begun t.kind t.len bytes i n.length_is le bad.early lt in
    let r = refuses_by b at own later left (basic scale.UnusedBits) laid refl early in
    let own_count : length own ≡ length (compact t.len) + length t.bytes + after + 1 =
    omega (
      arith,
      length-append (run_front t.kind t.len) bytes,
      ap length bad.length_is,
      parts,
      bad.count,
    ) in
    let held_count : length held ≡ length (compact t.len) + length t.bytes =
    omega (
      arith,
      ap length held_is,
      length-append (run_front t.kind t.len) t.bytes,
      ap length bad.length_is,
    ) in (
      basic scale.UnusedBits,
      left ++ later,
      refl,
      refl,
      sym held_count,
      omega (
        arith,
        ap length whole,
        length-append own later,
        own_count,
        length-append left later,
        length-drop (length t.bytes + after) bytes,
        parts,
        bad.count,
      ),
      rw whole r.reports,
      rw (whole, ← own_count) r.decided,
      omega arith,
    )

-- so does the turn that finds it
pub unused_step : (b : Built) (c : List ℕ) (missing : ℕ) → IsRunOpen b c missing → (new : Running)
    (piece : List ℕ) (m after : ℕ) (stopped : Stopped) → m ≤ missing →
    unused_in b.run (take m piece) ≡ Some after → stopped ≡ unused_stop b.run after →
    StepReports (record { built = b; carry = c }) new piece (Err stopped)
unused_step b c missing n new piece m after stopped few is same =
    subst (λ (s : Stopped). StepReports (record { built = b; carry = c }) new piece (Err s))
    (sym (same ∙ ap (λ (o : Option Pieces). unused_stop o after) n.open_is))
    (unused_reports b c missing n piece m after few is)

-- where an open run finds no such bit in what it takes of a piece, there is none in all that it
-- lacks
pub clean_missing : (s t : Running) (missing few : ℕ) (piece : List ℕ) (found : Option ℕ) → s ≡ t →
    few ≡ min (length piece) missing → found ≡ unused_in s.built.run (take few piece) →
    found ≡ None → unused_in t.built.run (take missing piece) ≡ None
clean_missing s t missing few piece found same least is none =
    let taken : take few piece ≡ take missing piece = rw least (take_min missing piece) in
    subst (λ (x : Running). unused_in x.built.run (take missing piece) ≡ None) same
    (ap (unused_in s.built.run) (sym taken) ∙ sym is ∙ none)
