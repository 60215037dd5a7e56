-- What a value in progress holds is bounded.
use Rattle.std.proofs.Common.{◌≡◌, ℕ, suc, ◌+◌, ◌*◌, ◌≤◌, ◌⊎◌, true, List, [], ◌∷◌, length, Option}
use Rattle.std.proofs.Common.{Some, None, Ok, Err, refl, sym, ap, ◌∙◌, arith, inl, inr}
use Rattle.std.proofs.Common.{length-append}
use Rattle.std.specs.Prelude.{Result}
use Rattle.grammar_core.specs.Runs.{run_front}
use Rattle.graph_core.specs.Widths.{widest}
use Rattle.grammar_core.specs.Begun.{Begun, nothing, whole, open_branch}
use Rattle.grammar_core.specs.Begun.{begun_preorder, begun_nodes, begun_text_bytes, is_whole_tree}
use Rattle.grammar_core.specs.Preorder.{Head, tree_of, tree_of-preorder}
use Rattle.grammar_core.specs.Reading.{truncated}
use Rattle.grammar_core.specs.Tree.{nodes, text_bytes}
use Rattle.value_core.specs.Built.{Pieces, entries_text_bytes, built_text_bytes}
use Rattle.grammar_core.specs.Preorder.{Entry}
use Rattle.value_core.specs.Built.{pieces_bytes}
use Rattle.value_core.proofs.Begun.{counts}
use Rattle.value_core.proofs.Finished.{heads_text}
use Rattle.outcome_core.specs.Bound.{node_bound, value_bound}
use Rattle.node_core.specs.Shown.{Seen}
use Rattle.decode_core.specs.Decoding.{FinishesDecoder, IsSmallValue, IsDone, IsSmall, IsWaiting}
use Rattle.decode_core.specs.Decoding.{RunCounted, RunLed, built_tree, first_running}
use Rattle.outcome_core.specs.Outcome.{Query}
use Rattle.machine_core.specs.Running.{Running, held_of, run_held}
use Rattle.outcome_core.specs.Reported.{Fault, shown}
use Rattle.machine_core.specs.Turned.{IsSound}
use Rattle.decode_core.specs.declared.fault.DecodeFault.{DecodeFault}
use Rattle.outcome_core.proofs.FaultBegins.{fault_is_begun}
use Rattle.outcome_core.proofs.OutcomeBound.{held_is_bounded}
use Rattle.decode_core.proofs.calls.FaultBound.{begins_small, more_bytes}
use Rattle.outcome_core.proofs.BegunBound.{begun_is_bounded}
use Rattle.machine_core.proofs.steps.Short.{carry_small}

-- the bytes of texts are counted the same with the types of nodes and without them
texts_shown : (xs : List Entry) → entries_text_bytes xs ≡ heads_text (shown xs)
texts_shown [] = refl
texts_shown (x ∷ xs) = omega (arith, texts_shown xs)

-- what is there of an open run is no more than what is held
pieces_held : (s : Running) → length (pieces_bytes s.built.run) ≤ length (held_of s)
pieces_held s = by s.built.run where
  by : (t : Option Pieces) →
      length (pieces_bytes t) ≤ length (run_held t s.carry)
  by None = omega arith
  by (Some t) = omega (arith, length-append (run_front t.kind t.len) t.bytes)

-- a decoder that waits for bytes has few nodes and bytes of texts for those taken
waiting_small : (j : Query) (b : List ℕ) (n : ℕ) (s : Running) → n ≡ length b → IsWaiting j b s →
    (length s.built.entries ≤ node_bound n j.depth (widest j.registry))
    × (built_text_bytes s.built ≤ n)
waiting_small j b n s count h =
    let e : Fault = ((truncated, h.wants.left), held_of s) in
    let g = fault_is_begun j.registry (suc j.depth) j.ty b s.built.entries e h.reads in
    let few = begins_small j.registry j.depth j.ty b s.built.entries e h.reads g in
    let len : length b ≡ length g.own + length (held_of s) = ap length g.is
    ∙ length-append g.own (held_of s) in
    let less : length g.own ≤ n = omega (arith, len, count) in
    let texts = (begun_is_bounded j.registry (suc j.depth) j.ty g.tree g.own
    (Some (g.below, g.next)) g.grows).2 in (
      omega (arith, few, more_bytes (length g.own) n j.depth (widest j.registry) less),
      omega (
        arith,
        texts,
        (counts g.tree (shown s.built.entries) g.shows).1,
        texts_shown s.built.entries,
        pieces_held s,
        len,
        count,
      ),
    )

-- a begun tree that is whole has the nodes and text bytes of the value
whole_counts : (g : Begun) (hs : List Head) → is_whole_tree g ≡ true → hs ≡ begun_preorder g →
    (begun_nodes g ≡ nodes (tree_of hs)) × (begun_text_bytes g ≡ text_bytes (tree_of hs))
whole_counts (whole v) hs e h = let same : tree_of hs ≡ v = ap tree_of h ∙ tree_of-preorder v in
    (ap nodes (sym same), ap text_bytes (sym same))
whole_counts nothing hs e h = absurd cc
whole_counts (open_branch k n vs g) hs e h = absurd cc

-- a whole value has few nodes and bytes of texts for the bytes taken
pub done_small : (j : Query) (b : List ℕ) (n : ℕ) (s : Running) → IsDone j b s n →
    (length s.built.entries ≤ value_bound n j.depth (widest j.registry))
    × (built_text_bytes s.built ≤ n)
done_small j b n s h =
    let begun = h.sound.begun in
    let count = whole_counts begun.tree (shown s.built.entries) (sym begun.whole ∙ h.is_complete)
    begun.shows in
    let few = (held_is_bounded j b n).0 (built_tree s.built) h.outcome in (
      omega (arith, begun.nodes, count.0, few.0),
      omega (arith, begun.text_bytes, count.1, few.1, pieces_held s, ap length h.nothing),
    )

-- a whole value has just its own nodes and bytes of runs
pub done_counts : (j : Query) (b : List ℕ) (n : ℕ) (s : Running) → IsDone j b s n →
    (length s.built.entries ≡ nodes (built_tree s.built))
    × (built_text_bytes s.built ≡ text_bytes (built_tree s.built))
done_counts j b n s h =
    let begun = h.sound.begun in
    let count = whole_counts begun.tree (shown s.built.entries) (sym begun.whole ∙ h.is_complete)
    begun.shows in (
      omega (arith, begun.nodes, count.0),
      omega (arith, begun.text_bytes, count.1, pieces_held s, ap length h.nothing),
    )

-- the bound for a finished value is no more than that for a begun one
pub value_le_nodes : (n depth width : ℕ) → value_bound n depth width ≤ node_bound n depth width
value_le_nodes n depth width =
    let spread : (n + 1) * (depth + 1) * (width + 1) ≡ n * (depth + 1) * (width + 1)
    + (depth * width + depth + width + 1) = grind (arith) in
    omega (arith, spread)

-- as much as is held of a value with these nodes, bytes of runs and open parts
running_small : (j : Query) (n : ℕ) (s : Running) (turns calls : ℕ) →
    length s.built.entries ≤ node_bound n j.depth (widest j.registry) →
    built_text_bytes s.built ≤ n → s.built.walk.limit ≡ j.depth → IsSound s →
    RunCounted j n (Ok s) turns calls →
    IsSmall (record { query = j; taken = n; run = Ok s; turns = turns; calls = calls })
running_small j n s turns calls few texts limit sound counted =
    record {
      nodes = few;
      texts = texts;
      frames = omega (arith, sound.frames, limit);
      carry =
          carry_small s.built s.carry sound.carried;
      turns =
          omega (arith, counted.1, few, sound.begun.turns);
    }

-- a decoder that has taken nothing, with its turns counted, is small
first_small : (j : Query) (n : ℕ) (s : Running) (turns calls : ℕ) →
    s ≡ first_running j.registry j.ty j.depth → RunCounted j n (Ok s) turns calls →
    IsSmall (record { query = j; taken = n; run = Ok s; turns = turns; calls = calls })
first_small j n s turns calls is counted =
    let none : length s.built.entries ≡ 0 = ap (λ (x : Running). length x.built.entries) is in
    let no_text : built_text_bytes s.built ≡ 0 =
    ap (λ (x : Running). built_text_bytes x.built) is in
    let root : length s.built.walk.frames ≡ 1 =
    ap (λ (x : Running). length x.built.walk.frames) is in
    let empty : length s.carry ≡ 0 = ap (λ (x : Running). length x.carry) is in
    let closed : s.built.turns ≡ 0 = ap (λ (x : Running). x.built.turns) is in
    record {
      nodes = omega (arith, none);
      texts = omega (arith, no_text);
      frames =
          omega (arith, root);
      carry = omega (arith, empty);
      turns =
          omega (arith, counted.1, none, closed);
    }

-- a decoder that bytes led to, with its turns counted, is small for them
pub led_small : (j : Query) (b : List ℕ) (n : ℕ) (run : Result Running DecodeFault)
    (turns calls : ℕ) → RunLed j b n run → RunCounted j n run turns calls →
    IsSmall (record { query = j; taken = n; run = run; turns = turns; calls = calls })
led_small j b n (Err f) turns calls h counted =
    record {
      nodes = omega arith;
      texts = omega arith;
      frames = omega arith;
      carry = omega arith;
      turns = counted;
    }
led_small j b n (Ok s) turns calls (inr h) counted = let few = done_small j b n s h in
    running_small j n s turns calls
    (omega (arith, few.0, value_le_nodes n j.depth (widest j.registry))) few.1 h.same.limit h.sound
    counted
led_small j b n (Ok s) turns calls (inl h) counted = by h.stands where
  by : (s ≡ first_running j.registry j.ty j.depth) ⊎ IsWaiting j b s →
      IsSmall (record { query = j; taken = n; run = Ok s; turns = turns; calls = calls })
  by (inl is) = first_small j n s turns calls is counted
  by (inr w) = let few = waiting_small j b n s h.count w in
      running_small j n s turns calls few.0 few.1 h.same.limit w.sound counted

-- a value that is handed out is small for its bytes
pub value_small : (j : Query) (b : List ℕ) (v : Seen) → FinishesDecoder j b (Ok v) →
    IsSmallValue j b (Ok v)
value_small j b v h = let few = (held_is_bounded j b h.0).0 v.tree h.3 in (h.0, h.3, few.0, few.1)
