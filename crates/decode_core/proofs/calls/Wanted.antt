-- Where memory was wanted, the grammar refuses nothing of the bytes taken.
use Rattle.std.proofs.Common.{◌≡◌, ℕ, suc, ◌<◌, ◌≤◌, List, [], ◌∷◌, ◌++◌, length, take, Option}
use Rattle.std.proofs.Common.{Some, None, Ok, Err, refl, sym, ap, subst, ◌∙◌, append_assoc}
use Rattle.std.proofs.Common.{append-nil, arith, inl, inr, length-append}
use Rattle.std.specs.Prelude.{◌⊎◌}
use Rattle.std.proofs.Math.Seq.{take-append_seam}
use Rattle.widths_core.specs.RunBytes.{run_bytes}
use Rattle.value_core.specs.Built.{IsClean}
use Rattle.machine_core.proofs.steps.OpenRuns.{body_missing, clean_front}
use Rattle.std.proofs.lemmas.List.{length-take}
use Rattle.scale_core.specs.Read.{Read, place}
use Rattle.scale_core.specs.declared.fault.Reason.{Reason}
use Rattle.scale_core.specs.declared.fault.Reason.TheVariants as scale
use Rattle.scale_core.proofs.Results.{Extends, done_is}
use Rattle.types_core.specs.declared.type_info.TypeInfo.{TypeInfo}
use Rattle.widths_core.specs.Layouts.{Layout}
use Rattle.widths_core.specs.Layouts as layout
use Rattle.widths_core.specs.declared.run_kind.RunKind.{RunKind}
use Rattle.grammar_core.specs.Runs.{run_at, run_length_at}
use Rattle.grammar_core.proofs.Runs.{length_extends}
use Rattle.grammar_core.specs.Parts.{Part}
use Rattle.grammar_core.specs.Preorder.{Head}
use Rattle.grammar_core.specs.Reading.{truncated, layout_at}
use Rattle.value_core.specs.Built.{Built, next_entry, next_layout}
use Rattle.grammar_core.specs.Preorder.{Entry}
use Rattle.decode_core.specs.Decoding.{RanOut}
use Rattle.outcome_core.specs.Machine.{remain}
use Rattle.machine_core.specs.NodeAdds.{with_own}
use Rattle.outcome_core.specs.Outcome.{Query, more, IsOutcome}
use Rattle.machine_core.specs.Running.{held_of, state_of}
use Rattle.grammar_core.specs.Reading.{Own}
use Rattle.outcome_core.specs.Reported.{Reported, reported, after, own_at, reported_at}
use Rattle.machine_core.specs.Turned.{KeepsNode, KeepsRun}
use Rattle.decode_core.specs.Wanted.{GoesOn, WantedGoesOn}
use Rattle.outcome_core.proofs.Fed.{fault_value, whole_reported}
use Rattle.machine_core.proofs.steps.LengthAdding.{run_cut}
use Rattle.outcome_core.proofs.Owns.{own_extends}
use Rattle.machine_core.proofs.steps.Refusing.{remain_next}
use Rattle.outcome_core.proofs.ShortestCompacts.{reason_reports}
use Rattle.outcome_core.proofs.Shortest.{refusal_reports}
use Rattle.machine_core.proofs.steps.MachineTurn.{added_leads, at_next}

-- ---- fewer bytes than spell a node, or begin a run, are too few

-- a node that further bytes spell, one at least, is cut without them
node_short : (bytes : List ℕ) (x : Head × Option Part) (read read' : Own) →
    Extends truncated bytes read read' → read' ≡ Ok (x, []) → 1 ≤ length bytes → (left : List ℕ)
    × (read ≡ Err (truncated, left))
node_short bytes x (Ok y) read' h is some =
    let both : ◌≡◌ {A = Own} (Ok (y.0, y.1 ++ bytes)) (Ok (x, [])) = sym h ∙ is in
    let pair : (y.0, y.1 ++ bytes) ≡ (x, []) = done_is (y.0, y.1 ++ bytes) (x, []) both in
    let nil : y.1 ++ bytes ≡ [] = ap (λ (p : (Head × Option Part) × List ℕ). p.1) pair in
    absurd (omega (arith, ap length nil, length-append y.1 bytes, some))
node_short bytes x (Err e) read' h is some = elim (refusal_reports e.0) [
  | inl cut ↦ (e.1, ap (λ r. Err (r, e.1)) cut)
  | inr other ↦ let both = sym (h other) ∙ is in absurd cc
]

-- a run with fewer bytes after its length than it is to have is cut
run_few : (k : RunKind) (held rest : List ℕ) (n : ℕ) → run_length_at k held ≡ Ok (n, rest) →
    length rest < run_bytes k n → IsClean k n rest →
    own_at (layout.plain (layout.run k)) held ≡ Err (truncated, [])
unfolding own_at layout_at run_at
run_few k held rest n h few clean = rw (h, body_missing k n rest few clean) refl

-- a run that further bytes, one at least, do not go past is cut without them
run_begun : (k : RunKind) (held bytes came : List ℕ) (n : ℕ) (read read' : Read Reason ℕ) →
    run_length_at k held ≡ read → Extends scale.Truncated bytes read read' →
    read' ≡ Ok (n, came) → 1 ≤ length bytes → length came ≤ run_bytes k n → IsClean k n came →
    (left : List ℕ) × (own_at (layout.plain (layout.run k)) held ≡ Err (truncated, left))
run_begun k held bytes came n (Ok y) read' at h is some few clean =
    let both : ◌≡◌ {A = Read Reason ℕ} (Ok (y.0, y.1 ++ bytes)) (Ok (n, came)) = sym h ∙ is in
    let pair : (y.0, y.1 ++ bytes) ≡ (n, came) = done_is (y.0, y.1 ++ bytes) (n, came) both in
    let same : y.0 ≡ n = ap (λ (p : ℕ × List ℕ). p.0) pair in
    let parts : y.1 ++ bytes ≡ came = ap (λ (p : ℕ × List ℕ). p.1) pair in (
      [],
      run_few k held y.1 y.0 at
          (omega (
            arith,
            ap (run_bytes k) same,
            ap length parts,
            length-append y.1 bytes,
            some,
            few,
          )) (rw same (subst (IsClean k n) (take-append_seam y.1 bytes)
          (clean_front k n (y.1 ++ bytes) (length y.1) (rw parts clean)))),
    )
run_begun k held bytes came n (Err e) read' at h is some few clean = elim (reason_reports e.0) [
  | inl cut ↦ (e.1, run_cut k held scale.Truncated e.1 (at ∙ ap (λ r. Err (r, e.1)) cut))
  | inr other ↦ let both = sym (h other) ∙ is in absurd cc
]

-- ---- what the bytes taken say

-- the bytes taken, and those after them
front_is : (j : Query) (b : List ℕ) (n : ℕ) (h : RanOut j b n) →
    (take j.bytes b ≡ (h.own ++ held_of h.s) ++ h.rest) × (length (h.own ++ held_of h.s) ≡ n)
front_is j b n h = (
  h.is ∙ sym (append_assoc h.own (held_of h.s) h.rest),
  length-append h.own (held_of h.s) ∙ sym h.count,
)

-- more are wanted where they are too few for the next node
cut_goes_on : (j : Query) (b left : List ℕ) (n : ℕ) (h : RanOut j b n) →
    own_at (next_layout h.s.built) (held_of h.s) ≡ Err (truncated, left) →
    IsOutcome j (h.own ++ held_of h.s) more (length (h.own ++ held_of h.s))
cut_goes_on j b left n h short =
    let s = state_of h.s.built in
    let front = h.own ++ held_of h.s in
    let stops : remain j.registry s (held_of h.s)
    ≡ reported [] (Err ((truncated, left), held_of h.s)) =
    ap (λ (r : List TypeInfo). remain r s (held_of h.s)) (sym h.same.types)
    ∙ remain_next h.s.built (at_next h.s.built h.wants.form h.wants.next) (held_of h.s) left
    truncated short in
    let reads : reported_at j.registry (suc j.depth) j.ty front ≡ reported (s.nodes ++ [])
    (Err ((truncated, left), held_of h.s)) =
    whole_reported j.registry j.depth j.ty s h.own (held_of h.s) h.led ∙ ap (after s.nodes) stops in
    let within = front_is j b n h in
    let fits : length front ≤ j.bytes =
    omega (arith, ap length within.0, length-append front h.rest, length-take j.bytes b) in (
      (
        place front left,
        (
          left,
          fault_value j.registry (suc j.depth) j.ty front
              (s.nodes ++ []) truncated left (held_of h.s)
              reads,
          refl,
        ),
      ),
      fits,
      refl,
    )

-- to add a node appends its entry to the nodes
entries_with : (b : Built) (x : Head × Option Part) →
    (with_own b x).entries ≡ b.entries ++ next_entry b x.0 ∷ []
entries_with b (h, None) = refl
entries_with b (h, Some p) = refl

-- the node is read where they spell it
node_goes_on : (j : Query) (b : List ℕ) (n : ℕ) (h : RanOut j b n) (x : Head × Option Part) →
    own_at (next_layout h.s.built) (held_of h.s) ≡ Ok (x, []) → (later : List ℕ) →
    (rest : Reported) × (reported_at j.registry (suc j.depth) j.ty ((h.own ++ held_of h.s) ++ later)
    ≡ after (h.s.built.entries ++ next_entry h.s.built x.0 ∷ []) rest)
node_goes_on j b n h x is later =
    let s = state_of h.s.built in
    let s' = state_of (with_own h.s.built x) in
    let leads = added_leads h.s.built (with_own h.s.built x) (held_of h.s)
    (at_next h.s.built h.wants.form h.wants.next) (x, is, refl) in
    let one : after s.nodes (remain j.registry s (held_of h.s ++ later))
    ≡ after s'.nodes (remain j.registry s' later) =
    subst (λ (r : List TypeInfo). after s.nodes (remain r s (held_of h.s ++ later))
    ≡ after s'.nodes (remain r s' later)) h.same.types (leads.reports later) in (
      remain j.registry s' later,
      ap (reported_at j.registry (suc j.depth) j.ty) (append_assoc h.own (held_of h.s) later)
          ∙ whole_reported j.registry j.depth j.ty s h.own (held_of h.s ++ later) h.led ∙ one
          ∙ ap (λ (xs : List Entry). after xs (remain j.registry s' later))
          (entries_with h.s.built x),
    )

-- what begins with some bytes is not empty
some_left : (rest bytes later : List ℕ) → rest ≡ bytes ++ later → 1 ≤ length bytes → 1 ≤ length rest
some_left rest bytes later is some = omega (arith, ap length is, length-append bytes later, some)

-- by the bytes of the rest that are wanted for the node
node_by : (j : Query) (b : List ℕ) (n : ℕ) (h : RanOut j b n) (bytes : List ℕ) →
    bytes ≡ h.wants.bytes → KeepsNode h.s bytes → GoesOn j (h.own ++ held_of h.s) h.rest
node_by j b n h [] none keeps =
    inr (
      h.s.built.entries,
      next_entry h.s.built keeps.0.0,
      node_goes_on j b n h keeps.0
          (ap (own_at (next_layout h.s.built)) (sym (append-nil (held_of h.s))) ∙ keeps.1),
    )
node_by j b n h (y ∷ bytes) same keeps =
    let some : 1 ≤ length (y ∷ bytes) = omega arith in
    let short = node_short (y ∷ bytes) keeps.0 _ _
    (own_extends (next_layout h.s.built) (held_of h.s) (y ∷ bytes)) keeps.1 some in
    inl (
      cut_goes_on j b short.0 n h short.1,
      some_left h.rest (y ∷ bytes) h.wants.later
          (h.wants.is ∙ ap (λ (l : List ℕ). l ++ h.wants.later) (sym same)) some,
    )

-- where memory was wanted, more bytes were too and one is there, or a further node is read
goes_by : (j : Query) (b : List ℕ) (n : ℕ) (h : RanOut j b n) → KeepsNode h.s h.wants.bytes
    ⊎ KeepsRun h.s h.wants.bytes → GoesOn j (h.own ++ held_of h.s) h.rest
goes_by j b n h (inl keeps) = node_by j b n h h.wants.bytes refl keeps
goes_by j b n h (inr keeps) =
    let bytes = h.wants.bytes in
    let short = run_begun keeps.0 (held_of h.s) bytes keeps.3.1 keeps.3.0 _ _ refl
    (length_extends keeps.0 (held_of h.s) bytes) keeps.3.2 keeps.2 keeps.3.3 keeps.3.4 in
    let laid = ap (λ (f : Layout). own_at f (held_of h.s)) keeps.1 ∙ short.1 in
    inl (cut_goes_on j b short.0 n h laid, some_left h.rest bytes h.wants.later h.wants.is keeps.2)

-- where memory was wanted, nothing of the bytes taken is refused
pub wanted_goes_on : WantedGoesOn
wanted_goes_on j b n h = let front = front_is j b n h in
    (h.own ++ held_of h.s, h.rest, front.0, front.1, goes_by j b n h h.wants.keeps)
