-- How many turns there were, by the bytes that were taken and the nodes that were added.
use Rattle.std.proofs.Common.{◌≡◌, ℕ, suc, ◌+◌, ◌*◌, ◌-◌, ◌≤◌, List, [], ◌++◌, length, take, Ok}
use Rattle.std.proofs.Common.{Err, refl, sym, ap, subst, ◌∙◌, arith, inl, inr, length-append}
use Rattle.std.proofs.lemmas.List.{append-nil, length-map, length-take, take_all}
use Rattle.types_core.specs.declared.type_info.TypeInfo.{TypeInfo}
use Rattle.graph_core.specs.Widths.{widest}
use Rattle.grammar_core.specs.Reading.{value_at}
use Rattle.grammar_core.proofs.Proved.{read_is_value}
use Rattle.grammar_core.specs.Preorder.{Entry}
use Rattle.outcome_core.specs.Bound.{node_bound}
use Rattle.decode_core.specs.Decoding.{IsDone, RunLed}
use Rattle.outcome_core.specs.Machine.{State, remain, start}
use Rattle.outcome_core.specs.Outcome.{Query, done, IsOutcome}
use Rattle.machine_core.specs.Running.{Running, held_of, state_of}
use Rattle.outcome_core.specs.Reported.{Reported, reported, added, after, reported_at}
use Rattle.machine_core.specs.Turned.{FeedReports, FewTurns, IsSound, Moves, StopCounts}
use Rattle.outcome_core.specs.Machine.{TurnsLead}
use Rattle.machine_core.specs.Turned.{StopsShort, types_in}
use Rattle.machine_core.specs.declared.reason.DecodeReason.{DecodeReason}
use Rattle.machine_core.specs.declared.turned.Stopped.{Stopped}
use Rattle.machine_core.specs.declared.turned.Stopped.TheVariants as stop
use Rattle.decode_core.proofs.calls.Bridge.{moved_led}
use Rattle.outcome_core.proofs.FaultBegins.{fault_is_begun}
use Rattle.outcome_core.proofs.Fed.{value_of, whole_reported}
use Rattle.decode_core.proofs.calls.Feeding.{done_reported, led_fits}
use Rattle.outcome_core.proofs.OutcomeBound.{held_is_bounded}
use Rattle.decode_core.proofs.calls.FaultBound.{begins_small, more_bytes}
use Rattle.outcome_core.proofs.MachineTurns.{count_after}
use Rattle.value_core.proofs.Begun.{preorder_length}
use Rattle.decode_core.proofs.calls.Small.{done_small, value_le_nodes}
use Rattle.outcome_core.proofs.Reports.{reported_agrees}

-- ---- a state that bytes lead to has few nodes for them

-- all that is added while a value is read
added_few : (r : List TypeInfo) (depth t : ℕ) (own : List ℕ) (y : Reported) →
    reported_at r (suc depth) t own ≡ y →
    length (added y) ≤ node_bound (length own) depth (widest r)
added_few r depth t own (reported xs (Err e)) is =
    let g = fault_is_begun r (suc depth) t own xs e is in
    omega (
      arith,
      begins_small r depth t own xs e is g,
      more_bytes (length g.own) (length own) depth (widest r)
          (omega (arith, ap length g.is, length-append g.own e.1)),
    )
added_few r depth t own (reported xs (Ok rest)) is =
    let v = value_of (value_at r (suc depth) t own) (reported_at r (suc depth) t own) xs rest
    (reported_agrees r (suc depth) t own) is in
    let st = read_is_value r (suc depth) t own v.0 rest v.1 in
    let j : Query = record { registry = r; ty = t; depth = depth; bytes = length own } in
    let out : IsOutcome j own (done v.0) (length st.0) =
    (st.0, rest, take_all (length own) own (omega arith) ∙ st.1, st.2, st.3, refl) in
    let few = ((held_is_bounded j own (length st.0)).0 v.0 out).0 in
    omega (
      arith,
      few,
      value_le_nodes (length st.0) depth (widest r),
      more_bytes (length st.0) (length own) depth (widest r)
          (omega (arith, ap length st.1, length-append st.0 rest)),
      ap length v.2,
      length-map xs (λ (e : Entry). e.head),
      preorder_length v.0,
    )

-- a state that bytes led to has no more nodes than the bound for these bytes
state_few : (r : List TypeInfo) (depth t : ℕ) (s : State) (own : List ℕ) →
    TurnsLead r (start depth t) s own → length s.nodes ≤ node_bound (length own) depth (widest r)
state_few r depth t s own h =
    let all : reported_at r (suc depth) t own ≡ after s.nodes (remain r s []) =
    ap (reported_at r (suc depth) t) (sym (append-nil own)) ∙ whole_reported r depth t s own [] h in
    omega (
      arith,
      added_few r depth t own (after s.nodes (remain r s [])) all,
      count_after s.nodes (remain r s []),
    )

-- a whole value gets no more nodes
done_few : (j : Query) (b : List ℕ) (s last : Running) (n : ℕ) (x : List ℕ) → IsDone j b s n →
    Moves s last x → length last.built.entries ≤ length s.built.entries
done_few j b s last n x g m =
    let same = ap (λ (y : Reported). length (added y)) (done_reported j b s last n x g m []) in
    omega (
      arith,
      same,
      count_after last.built.entries
          (remain (types_in s) (state_of last.built) []),
    )

-- a decoder that a piece led to has no more nodes than the bound for all bytes taken
reached_few : (j : Query) (b : List ℕ) (s last : Running) (n : ℕ) (x : List ℕ) →
    RunLed j b n (Ok s) → Moves s last x → length last.built.entries ≤ node_bound (n + length x)
    j.depth (widest j.registry)
reached_few j b s last n x (inl g) m =
    let few = state_few j.registry j.depth j.ty (state_of last.built) (g.own ++ m.own)
    (moved_led j b s last n x g m) in
    let own_count : length (g.own ++ m.own) ≤ n + length x =
    omega (
      arith,
      length-append g.own m.own,
      g.count,
      ap length g.is,
      length-append g.own (held_of s),
      ap length m.is,
      length-append (held_of s) x,
      length-append m.own (held_of last),
    ) in
    omega (
      arith,
      few,
      more_bytes (length (g.own ++ m.own)) (n + length x) j.depth
          (widest j.registry) own_count,
    )
reached_few j b s last n x (inr h) m =
    omega (
      arith,
      done_few j b s last n x h m,
      (done_small j b n s h).0,
      value_le_nodes n j.depth (widest j.registry),
      more_bytes n (n + length x) j.depth (widest j.registry) (omega arith),
    )

-- ---- the turns on a piece

-- with n bytes taken in all, which are no fewer than those that the turns took
counts_end : (j : Query) (b slice : List ℕ) (s last : Running) (taken k n from to calls closed : ℕ)
    → RunLed j b taken (Ok s) → Moves s last (take k slice) → FewTurns s last k from to →
    IsSound last → closed ≡ last.built.turns →
    from ≤ taken + length s.built.entries + calls → taken + k ≤ n →
    to + closed ≤ n + 2 * node_bound n j.depth (widest j.registry) + suc calls
counts_end j b slice s last taken k n from to calls closed led moves few sound is before within =
    let cut : taken + length (take k slice) ≤ n = omega (arith, within, length-take k slice) in
    omega (
      arith,
      few.1,
      before,
      within,
      is,
      sound.begun.turns,
      reached_few j b s last taken (take k slice) led moves,
      more_bytes (taken + length (take k slice)) n j.depth (widest j.registry) cut,
    )

-- where turns end at an allocation failure, all turns of both loops stay within the bound
pub counts_short : (j : Query) (b slice : List ℕ) (s new : Running) (taken k from to calls : ℕ) →
    RunLed j b taken (Ok s) → StopsShort s new slice k from to →
    from ≤ taken + length s.built.entries + calls →
    to + new.built.turns ≤ taken + k + 2 * node_bound (taken + k) j.depth (widest j.registry) + suc
    calls
counts_short j b slice s new taken k from to calls led short before =
    counts_end j b slice s short.last taken k (taken + k) from to calls new.built.turns led
    short.moves short.few short.sound short.closed before (omega arith)

-- where a node is refused, all turns of both loops stay within the bound for what is taken
pub counts_refused : (j : Query) (b slice : List ℕ) (s new : Running) (taken k held : ℕ)
    (reported_reason : DecodeReason) (at len from to calls : ℕ) (why : Stopped) →
    RunLed j b taken (Ok s) → FeedReports s new slice k why →
    why ≡ stop.Refused held reported_reason at len → held ≤ taken + k →
    StopCounts s new slice from to k why →
    from ≤ taken + length s.built.entries + calls →
    to + new.built.turns ≤ taken + k - held + len + 2 * node_bound (taken + k - held + len)
    j.depth (widest j.registry) + suc calls
counts_refused j b slice s new taken k held reported_reason at len from to calls why led f w within
    counts before =
    let g = subst (FeedReports s new slice k) w f in
    let short = subst (StopCounts s new slice from to k) w counts in
    counts_end j b slice s short.last taken k (taken + k - held + len) from to calls new.built.turns
    led short.moves short.few short.sound short.closed before (omega (arith, within, g.1.2.8))

-- where the byte limit is reached, all turns of both loops stay within the bound for the limit
pub counts_long : (j : Query) (b piece slice : List ℕ) (s new : Running)
    (limit taken k from to calls : ℕ) (why : Stopped) → j.bytes ≡ limit →
    slice ≡ take (limit - taken) piece → RunLed j b taken (Ok s) → FeedReports s new slice k why →
    why ≡ stop.Wants → StopCounts s new slice from to k why →
    from ≤ taken + length s.built.entries + calls →
    to + new.built.turns ≤ limit + 2 * node_bound limit j.depth (widest j.registry) + suc calls
counts_long j b piece slice s new limit taken k from to calls why e is led f w counts before =
    let g = subst (FeedReports s new slice k) w f in
    let few : FewTurns s new k from to = subst (StopCounts s new slice from to k) w counts in
    let last_few : FewTurns s g.1.0 k from to =
    subst (λ (r : Running). FewTurns s r k from to) g.1.3 few in
    let closed : new.built.turns ≡ g.1.0.built.turns = ap (λ (r : Running). r.built.turns) g.1.3 in
    let fits : taken + k ≤ limit =
    omega (
      arith,
      g.0,
      ap length is,
      length-take (limit - taken) piece,
      led_fits j b s taken led,
      e,
    ) in
    counts_end j b slice s g.1.0 taken k limit from to calls new.built.turns led g.1.1 last_few
    g.1.4 closed before fits
