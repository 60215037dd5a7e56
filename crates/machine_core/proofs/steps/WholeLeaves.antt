-- Turns on a node without parts that a piece has whole.
use Rattle.std.proofs.Common.{◌≡◌, ℕ, ◌≤◌, List, [], ◌++◌, length, take, drop, None, Ok}
use Rattle.std.proofs.Common.{refl, sym, ap, subst, ◌∙◌, arith, length-append}
use Rattle.std.proofs.lemmas.List.{append-nil, take-append-drop, take_at}
use Rattle.scale_core.specs.Compact.{IsCompact}
use Rattle.scale_core.specs.Number.{AreBytes}
use Rattle.scale_core.specs.Read.{compact_at}
use Rattle.scale_core.specs.declared.compact.Target.{Target}
use Rattle.scale_core.proofs.Again.{compact_again}
use Rattle.scale_core.proofs.Numbers.{front_bytes, rest_bytes}
use Rattle.scale_core.proofs.Results.{compact_takes}
use Rattle.widths_core.specs.Layouts.{Layout}
use Rattle.widths_core.specs.declared.run_kind.RunKind.{RunKind}
use Rattle.widths_core.specs.declared.run_kind.RunKind.TheVariants as kind
use Rattle.grammar_core.specs.Preorder as head
use Rattle.grammar_core.specs.Reading.{as_leaf, layout_at}
use Rattle.grammar_core.specs.Tree as tree
use Rattle.grammar_core.specs.Ways.{leaf_of}
use Rattle.grammar_core.specs.Runs.{IsRunLength, run_at, run_form, run_leaf}
use Rattle.grammar_core.specs.declared.form.Form.TheVariants as form
use Rattle.grammar_core.specs.declared.form.Next.TheVariants as next
use Rattle.grammar_core.proofs.Runs.{run_again}
use Rattle.node_core.specs.Leaves.{leaf_head}
use Rattle.node_core.specs.declared.leaf.Leaf.{Leaf}
use Rattle.form_core.specs.Fronts.{Front, StandsWhole, form_of_front}
use Rattle.form_core.specs.Fronts as front
use Rattle.form_core.specs.WholeRuns.{ReadsRun}
use Rattle.form_core.specs.declared.forms.PlainForm.TheVariants as plain
use Rattle.form_core.proofs.WholeRuns.{run_spelled, spelled_by}
use Rattle.value_core.specs.Built.{Built, FitsKind, IsNextLeaf, next_layout, with_leaf}
use Rattle.value_core.specs.Walked.{Walked, next_of}
use Rattle.value_core.proofs.NextLeaf.{compact_next, run_next}
use Rattle.machine_core.specs.NodeAdds.{IsAdded, IsWholeLeaf}
use Rattle.grammar_core.specs.Reading.{leaf_own}
use Rattle.outcome_core.specs.Reported.{own_at}
use Rattle.machine_core.specs.Running.{Running, IsRunning}
use Rattle.machine_core.specs.Turned.{Awaits, WantsMemory, WholeReports}
use Rattle.machine_core.specs.declared.turned.Tried.TheVariants as tried
use Rattle.machine_core.proofs.steps.NodeAdding.{next_run}
use Rattle.machine_core.proofs.steps.PlainAdding.{next_own, plain_next, spells}
use Rattle.machine_core.proofs.steps.TurnReports.{of_fields, node_wants}
use Rattle.machine_core.proofs.steps.Settling.{added_running}
use Rattle.machine_core.proofs.steps.MachineTurn.{at_next}
use Rattle.machine_core.proofs.steps.TurnEffects.{added_same, added_steps}

-- a run that was spelled has a length that its kind may have
fits_spelled : (k : RunKind) (n : ℕ) (c : List ℕ) → IsRunLength k n c → FitsKind k n
fits_spelled kind.Text n c h = tt
fits_spelled kind.Bytes n c h = tt
fits_spelled (kind.ByteArray len) n c h = h.0
fits_spelled (kind.Bits f) n c h = tt

-- a run that stands whole on the front of a piece is a value of the next type
run_is_next : (k : RunKind) (w : Walked) (piece : List ℕ) (l : Leaf) (count : ℕ) →
    next_of w ≡ next.Wants (run_form k) → AreBytes piece → ReadsRun k piece l count →
    IsNextLeaf w (leaf_head l)
run_is_next k w piece l count wants are h =
    let s = run_spelled k piece l count h in
    let own : AreBytes (take count piece) =
    front_bytes (take count piece) (drop count piece)
    (subst AreBytes (sym (take-append-drop count piece)) are) in
    let bytes : AreBytes h.run.1 = rest_bytes s.0 h.run.1 (subst AreBytes s.4 own) in
    subst (IsNextLeaf w) (sym h.head)
    (run_next w k h.run.0 h.run.1 wants s.3 bytes s.2 h.few (fits_spelled k h.run.0 s.0 s.1))

-- its bytes are read as its node
whole_read : (k : RunKind) (b : Built) (piece : List ℕ) (l : Leaf) (count : ℕ) →
    next_of b.walk ≡ next.Wants (run_form k) → ReadsRun k piece l count →
    own_at (next_layout b) (take count piece) ≡ Ok ((leaf_head l, None), [])
unfolding own_at layout_at
whole_read k b piece l count wants h =
    let own = take count piece in
    let read : run_at k own ≡ Ok (h.run, []) = ap (run_at k) (sym (append-nil own))
    ∙ run_again k h.run.0 h.run.1 own [] (run_spelled k piece l count h) in
    ap (λ (f : Layout). own_at f own) (next_run b k wants)
    ∙ ap (λ r. leaf_own (as_leaf (leaf_of (run_leaf k) r))) read
    ∙ ap (λ x. Ok ((x, None), [])) (sym h.head)

-- so are those of a compact integer
compact_read : (m : Target) (b : Built) (piece : List ℕ) (n count : ℕ) →
    next_of b.walk ≡ next.Wants (form.Compact m) → count ≤ length piece →
    compact_at m piece ≡ Ok (n, drop count piece) →
    own_at (next_layout b) (take count piece) ≡ Ok ((head.leaf (tree.compact n), None), [])
compact_read m b piece n count wants within read =
    let own = take count piece in
    let spelled : IsCompact m n own =
    spelled_by (IsCompact m) piece n count (compact_at m piece) within (compact_takes m piece)
    read in
    let again : compact_at m own ≡ Ok (n, []) = ap (compact_at m) (sym (append-nil own))
    ∙ compact_again m n own [] spelled in
    next_own b (plain.Compact m) own wants
    ∙ ap (λ r. leaf_own (as_leaf (leaf_of tree.compact r))) again

-- what stands whole on the front of a piece is read as the node that is next
front_read : (f : Front) (b : Built) (piece : List ℕ) (l : Leaf) (count : ℕ) →
    next_of b.walk ≡ next.Wants (form_of_front f) → count ≤ length piece →
    StandsWhole f piece l count →
    own_at (next_layout b) (take count piece) ≡ Ok ((leaf_head l, None), [])
front_read (front.plain p) b piece l count wants within h =
    spells b p (take count piece) l wants h.0 h.1
front_read (front.compact m) b piece l count wants within h =
    rw h.1 (compact_read m b piece h.0 count wants within h.2.read)
front_read (front.run k) b piece l count wants within h = whole_read k b piece l count wants h

-- so no run is open, and its bytes are a value of the next type, which the leaf is
pub front_is : (f : Front) (a : Running) (piece : List ℕ) (l : Leaf) (count : ℕ) →
    Awaits a (form_of_front f) → count ≤ length piece → StandsWhole f piece l count →
    IsWholeLeaf a.built (take count piece) l
front_is f a piece l count awaits within h = record {
  form = form_of_front f;
  wants = awaits.next;
  closed = awaits.closed;
  read = front_read f a.built piece l count awaits.next within h;
}

-- it is a value for what is next
pub front_next : (f : Front) (a : Running) (piece : List ℕ) (l : Leaf) (count : ℕ) →
    AreBytes piece → Awaits a (form_of_front f) → StandsWhole f piece l count →
    IsNextLeaf a.built.walk (leaf_head l)
front_next (front.plain p) a piece l count are awaits h =
    let own : AreBytes (take count piece) =
    front_bytes (take count piece) (drop count piece)
    (subst AreBytes (sym (take-append-drop count piece)) are) in
    plain_next a.built p (take count piece) l own awaits.next h.0 h.1
front_next (front.compact m) a piece l count are awaits h =
    rw h.1 (compact_next a.built.walk m h.0 awaits.next h.2.fits)
front_next (front.run k) a piece l count are awaits h =
    run_is_next k a.built.walk piece l count awaits.next are h

-- to add it is to add a node by these bytes
whole_added : (b new : Built) (own : List ℕ) (l : Leaf) → IsWholeLeaf b own l →
    new ≡ with_leaf b (leaf_head l) → IsAdded b new own
whole_added b new own l h is = ((leaf_head l, None), h.read, is)

-- the decoder is in progress again
pub leaf_running : (b new : Built) (c own : List ℕ) (l : Leaf) →
    c ≡ [] → IsWholeLeaf b own l → new ≡ with_leaf b (leaf_head l) → IsRunning new c
leaf_running b new c own l none h is =
    rw none
    (added_running b new own (at_next b h.form h.wants) h.closed (whole_added b new own l h is))

-- it is a step by its bytes, and the value stays the same one
pub leaf_reports : (b new : Built) (c own rest : List ℕ) (l : Leaf) → c ≡ [] →
    IsWholeLeaf b own l → new ≡ with_leaf b (leaf_head l) →
    WholeReports (of_fields b c) (of_fields new c) (own ++ rest) (tried.Added (length own))
leaf_reports b new c own rest l none h is =
    let added = whole_added b new own l h is in
    let front : take (length own) (own ++ rest) ≡ own = take_at own rest (length own) refl in
    rw (none, front) (
      (
        omega (arith, length-append own rest),
        added_same b new [] [] own added,
        added_steps b new [] own own (at_next b h.form h.wants) h.closed refl added,
      ),
      (refl, ap (λ (x : Built). x.run) is ∙ h.closed),
    )

-- memory is wanted for its node
pub leaf_wants : (b : Built) (c own rest : List ℕ) (l : Leaf) → c ≡ [] → IsWholeLeaf b own l →
    WantsMemory (of_fields b c) (own ++ rest)
leaf_wants b c own rest l none h =
    node_wants h.form b c own rest own h.wants h.closed (ap (λ (x : List ℕ). x ++ own) none)
    ((leaf_head l, None), h.read)
