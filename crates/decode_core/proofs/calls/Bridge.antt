-- What turns on a piece report is the outcome of all bytes so far.
use Rattle.std.proofs.Common.{◌≡◌, ℕ, suc, ◌+◌, ◌-◌, ◌<◌, ◌≤◌, List, [], ◌++◌, length, take, drop}
use Rattle.std.proofs.Common.{refl, sym, ap, subst, ◌∙◌, append_assoc, Ok, Err, arith, inr}
use Rattle.std.proofs.Common.{length-append, length-drop}
use Rattle.std.proofs.lemmas.List.{append-nil, take_all, take-append-drop, length-take}
use Rattle.types_core.specs.declared.type_info.TypeInfo.{TypeInfo}
use Rattle.grammar_core.specs.Reading.{Refusal, truncated}
use Rattle.scale_core.specs.Number.{AreBytes}
use Rattle.scale_core.proofs.Numbers.{both_bytes}
use Rattle.decode_core.specs.Decoding.{HoldsOf, IsDone, IsGoing, IsOf, IsWaiting, RanOut}
use Rattle.decode_core.specs.Decoding.{built_tree}
use Rattle.outcome_core.specs.Decided.{Decided}
use Rattle.outcome_core.specs.Machine.{remain, start}
use Rattle.outcome_core.specs.Outcome.{Query, done, refused, more, too_long, IsOutcome}
use Rattle.machine_core.specs.Reasons.{reason_of}
use Rattle.machine_core.specs.Running.{Running, held_of, state_of}
use Rattle.outcome_core.specs.Reported.{reported, reported_at, after}
use Rattle.grammar_core.specs.Preorder.{Entry}
use Rattle.machine_core.specs.Turned.{IsSame, IsSound, Moves, EndsTurns, WantsMemory}
use Rattle.outcome_core.specs.Machine.{TurnsLead}
use Rattle.machine_core.specs.declared.reason.DecodeReason.{DecodeReason}
use Rattle.machine_core.specs.declared.turned.Stopped.TheVariants as stop
use Rattle.outcome_core.proofs.NotCut.{not_cut}
use Rattle.decode_core.proofs.calls.Holding.{holds_of}
use Rattle.machine_core.proofs.steps.Refusing.{waits_reported}
use Rattle.outcome_core.proofs.Fed.{Here, cut_here, done_here, led_on, refused_here}
use Rattle.outcome_core.proofs.Fed.{whole_reported}
use Rattle.outcome_core.proofs.Kept.{take_split}

-- the bytes that are offered within the limit
abbrev pub offered : Query → ℕ → List ℕ → List ℕ
offered j n piece = take (j.bytes - n) piece

-- a decoder that moved on still decodes a value of the query
pub of_moved : (j : Query) (s last : Running) → IsOf j s → IsSame s last → IsOf j last
of_moved j s last h k = record {
  types = k.types ∙ h.types;
  ty = k.ty ∙ h.ty;
  limit = k.limit
      ∙ h.limit;
}

-- the bytes within the limit are those so far and then what is offered of the piece
front_is : (j : Query) (b piece : List ℕ) (s : Running) (n : ℕ) → IsGoing j b s n →
    take j.bytes (b ++ piece) ≡ b ++ offered j n piece
front_is j b piece s n g = take_split j.bytes b piece
    ∙ ap (λ (l : List ℕ). l ++ take (j.bytes - length b) piece)
    (take_all j.bytes b (omega (arith, g.count, g.fits)))
    ∙ ap (λ (k : ℕ). b ++ take (j.bytes - k) piece) (sym g.count)

-- the own bytes of the nodes, after the turns
pub moved_own : (j : Query) (b cut : List ℕ) (s last : Running) (n k : ℕ) → (g : IsGoing j b s n) →
    (m : Moves s last (take k cut)) → b ++ cut ≡ (g.own ++ m.own) ++ (held_of last ++ drop k cut)
moved_own j b cut s last n k g m =
    ap (λ (l : List ℕ). l ++ cut) g.is ∙ append_assoc g.own (held_of s) cut
    ∙ ap (λ (l : List ℕ). g.own ++ (held_of s ++ l)) (sym (take-append-drop k cut))
    ∙ ap (λ (l : List ℕ). g.own ++ l)
    (sym (append_assoc (held_of s) (take k cut) (drop k cut))
    ∙ ap (λ (l : List ℕ). l ++ drop k cut) m.is
    ∙ append_assoc m.own (held_of last) (drop k cut))
    ∙ sym (append_assoc g.own m.own (held_of last ++ drop k cut))

-- the bytes of a decoder's nodes and of its moves lead from the first state to the new one
pub moved_led : (j : Query) (b : List ℕ) (s last : Running) (n : ℕ) (x : List ℕ) →
    (g : IsGoing j b s n) → (m : Moves s last x) →
    TurnsLead j.registry (start j.depth j.ty) (state_of last.built) (g.own ++ m.own)
moved_led j b s last n x g m =
    let one : TurnsLead j.registry (state_of s.built) (state_of last.built) m.own =
    subst (λ (r : List TypeInfo). TurnsLead r (state_of s.built) (state_of last.built) m.own)
    g.same.types (record { reports = m.reports; level = m.level }) in
    led_on j.registry (start j.depth j.ty) (state_of s.built) (state_of last.built) g.own m.own
    g.led one

-- where the turns stopped in the input
here : (j : Query) (b piece : List ℕ) (s last : Running) (n k : ℕ) → (g : IsGoing j b s n) →
    (m : Moves s last (take k (offered j n piece))) →
    Here j (b ++ piece) (state_of last.built) (held_of last ++ drop k (offered j n piece))
here j b piece s last n k g m =
    record {
      own = g.own ++ m.own;
      led = moved_led j b s last n (take k (offered j n piece)) g m;
      is = front_is j b piece s n g ∙ moved_own j b (offered j n piece) s last n k g m;
    }

-- how many bytes there are within the limit
front_count : (j : Query) (b piece : List ℕ) (s : Running) (n : ℕ) → (g : IsGoing j b s n) →
    n + length (offered j n piece) ≡ length (take j.bytes (b ++ piece))
front_count j b piece s n g =
    omega (
      arith,
      g.count,
      ap length (front_is j b piece s n g),
      length-append b (offered j n piece),
    )

-- ---- the value is whole

-- turns on a piece that end with a whole value have it as the outcome of all bytes so far
pub fed_done : (j : Query) (b piece : List ℕ) (s last : Running) (n k : ℕ) → (g : IsGoing j b s n) →
    k ≤ length (offered j n piece) → Moves s last (take k (offered j n piece)) →
    EndsTurns last (drop k (offered j n piece)) stop.Finished → IsSound last →
    IsDone j (b ++ piece) last (n + k)
fed_done j b piece s last n k g le m st sound =
    let cut = offered j n piece in
    let rest = held_of last ++ drop k cut in
    let of = of_moved j s last g.same m.same in
    let reports : (x : List ℕ) → remain j.registry (state_of last.built) x ≡ reported [] (Ok x) =
    λ x. ap (λ (r : List TypeInfo). remain r (state_of last.built) x) (sym of.types) ∙ st.0 x in
    let one = done_here j (b ++ piece) (state_of last.built) rest (n + length cut)
    (here j b piece s last n k g m) (reports rest) (front_count j b piece s n g) in
    let left : length rest ≡ length cut - k = ap (λ (l : List ℕ). length (l ++ drop k cut)) st.1
    ∙ length-drop k cut in
    let count : n + length cut - length rest ≡ n + k = omega (arith, left, le) in
    let few : length cut ≤ j.bytes - n = omega (arith, length-take (j.bytes - n) piece) in
    record {
      same = of;
      whole = reports;
      nothing = st.1;
      is_complete = st.2;
      sound = sound;
      outcome =
          subst (λ (c : ℕ). IsOutcome j (b ++ piece) (done (built_tree last.built)) c) count one;
      fits = omega (arith, le, few, g.fits);
    }

-- ---- bytes are missing

-- turns that lack bytes within the limit leave more wanted, and a begun tree held
pub fed_more : (j : Query) (b piece : List ℕ) (s last : Running) (n k : ℕ) → (g : IsGoing j b s n) →
    k ≤ length (offered j n piece) → Moves s last (take k (offered j n piece)) →
    EndsTurns last (drop k (offered j n piece)) stop.Wants → IsSound last → AreBytes piece →
    length piece ≤ j.bytes - n → IsGoing j (b ++ piece) last (n + k)
    × IsOutcome j (b ++ piece) more (n + k) × HoldsOf j (b ++ piece) last
fed_more j b piece s last n k g le m st sound are short =
    let cut = offered j n piece in
    let whole : cut ≡ piece = take_all (j.bytes - n) piece short in
    let all : length cut ≡ k = omega (arith, ap length st.0, length-drop k cut, le) in
    let of = of_moved j s last g.same m.same in
    let h = here j b piece s last n k g m in
    let input_is : b ++ piece ≡ (g.own ++ m.own) ++ held_of last =
    ap (λ (l : List ℕ). b ++ l) (sym whole) ∙ moved_own j b cut s last n k g m
    ∙ ap (λ (l : List ℕ). (g.own ++ m.own) ++ l)
    (ap (λ (l : List ℕ). held_of last ++ l) st.0 ∙ append-nil (held_of last)) in
    let count : n + k ≡ length (b ++ piece) =
    omega (arith, g.count, length-append b piece, all, ap length whole) in
    let rest = held_of last ++ drop k cut in
    let nil : rest ≡ held_of last = ap (λ (l : List ℕ). held_of last ++ l) st.0
    ∙ append-nil (held_of last) in
    let reports : remain j.registry (state_of last.built) rest ≡ reported []
    (Err ((truncated, st.1.left), rest)) =
    rw nil (ap (λ (r : List TypeInfo). remain r (state_of last.built) (held_of last))
    (sym of.types) ∙ waits_reported last st.1) in
    let one = cut_here j (b ++ piece) (state_of last.built) rest st.1.left h reports in
    let led = moved_led j b s last n (take k cut) g m in
    let stops : remain j.registry (state_of last.built) (held_of last) ≡ reported []
    (Err ((truncated, st.1.left), held_of last)) =
    ap (λ (r : List TypeInfo). remain r (state_of last.built) (held_of last)) (sym of.types)
    ∙ waits_reported last st.1 in
    let reads : reported_at j.registry (suc j.depth) j.ty (b ++ piece)
    ≡ reported last.built.entries (Err ((truncated, st.1.left), held_of last)) =
    ap (reported_at j.registry (suc j.depth) j.ty) input_is
    ∙ whole_reported j.registry j.depth j.ty (state_of last.built) (g.own ++ m.own) (held_of last)
    led ∙ ap (after last.built.entries) stops
    ∙ ap (λ (xs : List Entry). reported xs (Err ((truncated, st.1.left), held_of last)))
    (append-nil last.built.entries) in
    let all_bytes = both_bytes b piece g.are_bytes are in
    let waiting : IsWaiting j (b ++ piece) last =
    record { wants = st.1; reads = reads; sound = sound } in
    let full : take j.bytes (b ++ piece) ≡ b ++ piece =
    take_all j.bytes (b ++ piece)
    (omega (arith, length-append b piece, g.count, g.fits, short)) in (
      record {
        same = of;
        own = g.own ++ m.own;
        is = input_is;
        are_bytes = all_bytes;
        led = led;
        stands = inr waiting;
        count = count;
        fits =
            omega (arith, count, length-append b piece, g.count, g.fits, short);
      },
      (rw full at one, omega (arith, length-append b piece, g.count, g.fits, short), count),
      holds_of j (b ++ piece) last of all_bytes waiting,
    )

-- turns that lack bytes where the piece passes the limit make the input too long
pub fed_long : (j : Query) (b piece : List ℕ) (s last : Running) (n k : ℕ) → (g : IsGoing j b s n) →
    k ≤ length (offered j n piece) → Moves s last (take k (offered j n piece)) →
    EndsTurns last (drop k (offered j n piece)) stop.Wants → j.bytes - n < length piece →
    IsOutcome j (b ++ piece) too_long j.bytes
fed_long j b piece s last n k g le m st long =
    let cut = offered j n piece in
    let of = of_moved j s last g.same m.same in
    let h = here j b piece s last n k g m in
    let rest = held_of last ++ drop k cut in
    let nil : rest ≡ held_of last = ap (λ (l : List ℕ). held_of last ++ l) st.0
    ∙ append-nil (held_of last) in
    let reports : remain j.registry (state_of last.built) rest ≡ reported []
    (Err ((truncated, st.1.left), rest)) =
    rw nil (ap (λ (r : List TypeInfo). remain r (state_of last.built) (held_of last))
    (sym of.types) ∙ waits_reported last st.1) in (
      cut_here j (b ++ piece) (state_of last.built) rest st.1.left h reports,
      omega (arith, length-append b piece, g.count, g.fits, long),
      refl,
    )

-- ---- the next node is refused

-- turns that end with a refusal have it as the outcome of all bytes so far, at its place
pub fed_refused : (j : Query) (b piece : List ℕ) (s last : Running) (n k held : ℕ)
    (reported_reason : DecodeReason) (at len : ℕ) → (g : IsGoing j b s n) →
    k ≤ length (offered j n piece) → Moves s last (take k (offered j n piece)) →
    EndsTurns last (drop k (offered j n piece)) (stop.Refused held reported_reason at len) →
    (held ≤ n + k) × ((e : Refusal) × (reported_reason ≡ reason_of e)
    × IsOutcome j (b ++ piece) (refused e (n + k - held + at)) (n + k - held + len))
fed_refused j b piece s last n k held reported_reason at len g le m st =
    let cut = offered j n piece in
    let x = held_of last ++ drop k cut in
    let of = of_moved j s last g.same m.same in
    let h = here j b piece s last n k g m in
    let counted = front_count j b piece s n g in
    let e = st.0 in
    let left = st.1 in
    let reports : remain j.registry (state_of last.built) x ≡ reported [] (Err ((e, left), x)) =
    ap (λ (r : List TypeInfo). remain r (state_of last.built) x) (sym of.types) ∙ st.6 in
    let decided = subst (λ (r : List TypeInfo). Decided r (state_of last.built) x e left len)
    of.types st.7 in
    let one = refused_here j (b ++ piece) (state_of last.built) x (n + length cut) len e left h
    counted (not_cut e st.2) decided reports in
    let x_count : length x ≡ held + (length cut - k) =
    omega (arith, length-append (held_of last) (drop k cut), length-drop k cut, st.4) in
    let own_count = ap length (moved_own j b cut s last n k g m) in
    let within : held ≤ n + k =
    omega (
      arith,
      own_count,
      length-append b cut,
      length-append (g.own ++ m.own) x,
      x_count,
      g.count,
      le,
    ) in
    let place_is : n + length cut - length left ≡ n + k - held + at =
    omega (arith, x_count, st.5, decided.low, le, within) in
    let taken_is : n + length cut - length x + len ≡ n + k - held + len =
    omega (arith, x_count, le, within) in (
      within,
      (
        e,
        st.3,
        subst (λ (c : ℕ). IsOutcome j (b ++ piece) (refused e (n + k - held + at)) c)
            taken_is (subst (λ (p : ℕ). IsOutcome j (b ++ piece) (refused e p)
            (n + length cut - length x + len)) place_is one),
      ),
    )

-- ---- memory is wanted

-- turns that end at an allocation failure report that it was wanted after all bytes taken
pub fed_short : (j : Query) (b piece : List ℕ) (s last : Running) (n k : ℕ) →
    (g : IsGoing j b s n) →
    k ≤ length (offered j n piece) → Moves s last (take k (offered j n piece)) →
    WantsMemory last (drop k (offered j n piece)) → IsSound last → RanOut j (b ++ piece) (n + k)
unfolding here
fed_short j b piece s last n k g le m w sound =
    let cut = offered j n piece in
    let h = here j b piece s last n k g m in
    let rest = held_of last ++ drop k cut in
    let all = ap length (moved_own j b cut s last n k g m) in
    let own = g.own ++ m.own in
    let count : n + k ≡ length own + length (held_of last) =
    omega (
      arith,
      all,
      length-append b cut,
      length-append own rest,
      length-append (held_of last) (drop k cut),
      length-drop k cut,
      g.count,
      le,
    ) in
    record {
      s = last;
      same = of_moved j s last g.same m.same;
      own = own;
      rest = drop k cut;
      is =
          h.is;
      led = h.led;
      count = count;
      wants = w;
      sound = sound;
    }
