-- To which begun tree bytes lead, and its path.
use Rattle.std.proofs.Common.{◌≡◌, ℕ, suc, ◌+◌, ◌-◌, List, [], ◌++◌, length, take, drop, Option}
use Rattle.std.proofs.Common.{Some, None, Ok, Err, refl, sym, ap, subst, ◌∙◌, arith, inl, inr}
use Rattle.std.proofs.Common.{◌⊎◌}
use Rattle.std.specs.Prelude.{option_map}
use Rattle.std.proofs.lemmas.List.{append-nil, take-append-drop}
use Rattle.growth_core.specs.declared.refused.Refused.{Refused}
use Rattle.scale_core.specs.Number.{AreBytes}
use Rattle.scale_core.proofs.Numbers.{front_bytes}
use Rattle.types_core.specs.declared.type_info.TypeInfo.{TypeInfo}
use Rattle.grammar_core.specs.Begun.{Grows}
use Rattle.grammar_core.specs.Preorder.{Entry}
use Rattle.grammar_core.specs.Reading.{truncated}
use Rattle.value_core.specs.Begun.{built_bytes, next_with_room}
use Rattle.value_core.specs.Built.{Built}
use Rattle.value_core.specs.OpenNodes.{HasPath, path_of}
use Rattle.value_core.specs.Walked.{Walked, next_type}
use Rattle.outcome_core.specs.Machine.{remain}
use Rattle.outcome_core.specs.Outcome.{Query}
use Rattle.outcome_core.specs.Reported.{Ending, after, reported, reported_at}
use Rattle.outcome_core.proofs.Fed.{whole_reported}
use Rattle.outcome_core.proofs.ReportedSpells.{HoldsBytes, entry_bytes, reported_spells}
use Rattle.machine_core.specs.Running.{Running, held_of, state_of}
use Rattle.machine_core.specs.Turned.{EndsTurns, FeedReports, SameNodes, StandsAfter}
use Rattle.machine_core.specs.declared.turned.Stopped.{Stopped}
use Rattle.machine_core.specs.declared.turned.Stopped.TheVariants as stop
use Rattle.machine_core.proofs.steps.Calls.{same_nodes}
use Rattle.machine_core.proofs.steps.Refusing.{waits_reported}
use Rattle.decode_core.specs.Decoding.{IsGoing, IsWaiting, RunLed, first_running}
use Rattle.decode_core.specs.Paths.{BuiltLeadsTo, RunPath, unread}
use Rattle.decode_core.proofs.calls.Bridge.{moved_led, moved_own, of_moved}

-- a value of the query: its types, its type and its depth limit
pub record IsBuiltOf (j : Query) (b : Built) : Type 0 where
  pub types : b.walk.types ≡ j.registry
  pub ty : b.ty ≡ j.ty
  pub limit : b.walk.limit ≡ j.depth

-- the nodes' bytes stand before those that are not read
bytes_are : (j : Query) (b : List ℕ) (nodes : List Entry) (end : Ending) →
    HoldsBytes j.registry b (reported nodes end) → b ≡ entry_bytes j.registry nodes ++ unread end
bytes_are j b nodes (Ok rest) h = h
bytes_are j b nodes (Err e) h = h

-- the next type, without its levels
next_alone : (room : ℕ) (o : Option ℕ) →
    o ≡ option_map (λ (n : ℕ × ℕ). n.1) (option_map (λ (t : ℕ). (room, t)) o)
next_alone room (Some t) = refl
next_alone room None = refl

-- where reading ends after a builder's nodes, the bytes lead to its walk
pub leads_to : (j : Query) (b : List ℕ) (s : Built) (end : Ending) → IsBuiltOf j s → AreBytes b →
    reported_at j.registry (suc j.depth) j.ty b ≡ reported s.entries end → HasPath s →
    BuiltLeadsTo j b s
leads_to j b s end of are reads h =
    let own = built_bytes s in
    let next = next_with_room s.walk in
    let levels : s.walk.limit + 1 ≡ suc j.depth = omega (arith, of.limit) in
    let spelled = bytes_are j b s.entries end
    (subst (HoldsBytes j.registry b) reads (reported_spells j.registry (suc j.depth) j.ty b are)) in
    record {
      nodes = s.entries;
      end = end;
      reads = reads;
      tree = h.tree;
      own = own;
      missing = next;
      is = spelled
          ∙ ap (λ (r : List TypeInfo). entry_bytes r s.entries ++ unread end) (sym of.types);
      grows = subst (λ (t : ℕ). Grows j.registry (suc j.depth) t h.tree own next) of.ty
          (subst (λ (n : ℕ). Grows j.registry n s.ty h.tree own next) levels
          (subst (λ (r : List TypeInfo). Grows r (s.walk.limit + 1) s.ty h.tree own next) of.types
          h.grows));
      shows = h.shows;
      path = h.path ∙ ap (λ (r : List TypeInfo). path_of r s.ty h.tree) of.types
          ∙ ap (λ (t : ℕ). path_of j.registry t h.tree) of.ty;
      next_is = next_alone (s.walk.limit + 2 - length s.walk.frames) (next_type s.walk);
    }

-- bytes that led to a decoder lead to its path
pub run_path : (j : Query) (b : List ℕ) (n : ℕ) (s : Running) → RunLed j b n (Ok s) →
    HasPath s.built → RunPath j b (Ok s)
run_path j b n s (inr done) h = inr (inl done.is_complete)
run_path j b n s (inl g) h = by g.stands where
  by : (s ≡ first_running j.registry j.ty j.depth) ⊎ IsWaiting j b s → RunPath j b (Ok s)
  by (inl fresh) = inl fresh
  by (inr w) = inr (inr (leads_to j b s.built (Err ((truncated, w.wants.left), held_of s))
      (record { types = g.same.types; ty = g.same.ty; limit = g.same.limit })
      g.are_bytes w.reads h))

-- ---- the turns on all bytes

-- no allocation failed
abbrev pub IsAnswer : Stopped → Type 0
IsAnswer (stop.OutOfMemory _) = ⊥
IsAnswer _ = Unit {0}

-- a stop that is none, by all others
pub is_answer : (why : Stopped) → ((x : Refused) → why ≡ stop.OutOfMemory x → ⊥) → IsAnswer why
is_answer stop.Finished h = tt
is_answer stop.Wants h = tt
is_answer (stop.Refused held reported_reason at len) h = tt
is_answer (stop.OutOfMemory x) h = h x refl

-- the first bytes of bytes are bytes
pub first_bytes : (n : ℕ) (b : List ℕ) → AreBytes b → AreBytes (take n b)
first_bytes n b are =
    front_bytes (take n b) (drop n b) (subst AreBytes (sym (take-append-drop n b)) are)

-- the nodes are those before the last turn
same_after : (last new : Running) (why : Stopped) → StandsAfter why last new → IsAnswer why →
    SameNodes last new
same_after last new stop.Finished h a = same_nodes last new h
same_after last new stop.Wants h a = same_nodes last new h
same_after last new (stop.Refused held reported_reason at len) h a = h
same_after last new (stop.OutOfMemory _) h a = absurd a

-- what is still to be read after the last turn: nothing or a fault
ends_with : (last : Running) (rest : List ℕ) (why : Stopped) → EndsTurns last rest why →
    IsAnswer why → (end : Ending) × (remain last.built.walk.types (state_of last.built)
    (held_of last ++ rest) ≡ reported [] end)
ends_with last rest stop.Finished h a = (Ok (held_of last ++ rest), h.0 (held_of last ++ rest))
ends_with last rest stop.Wants h a =
    let nil : held_of last ++ rest ≡ held_of last =
    ap (λ (l : List ℕ). held_of last ++ l) h.0 ∙ append-nil (held_of last) in (
      Err ((truncated, h.1.left), held_of last),
      ap (remain last.built.walk.types (state_of last.built)) nil ∙ waits_reported last h.1,
    )
ends_with last rest (stop.Refused held reported_reason at len) h a =
    (Err ((h.0, h.1), held_of last ++ rest), h.6)
ends_with last rest (stop.OutOfMemory _) h a = absurd a

-- turns on all bytes lead to where these are rejected or end
pub fed_leads : (j : Query) (x : List ℕ) (s new : Running) (n : ℕ) (why : Stopped) →
    IsGoing j [] s 0 → AreBytes x → FeedReports s new x n why → IsAnswer why →
    HasPath new.built → BuiltLeadsTo j x new.built
fed_leads j x s new n why g are f a h =
    let last = f.1.0 in
    let m = f.1.1 in
    let rest = held_of last ++ drop n x in
    let of = of_moved j s last g.same m.same in
    let same = same_after last new why f.1.3 a in
    let end = ends_with last (drop n x) why f.1.2 a in
    let left : remain j.registry (state_of last.built) rest ≡ reported [] end.0 =
    ap (λ (r : List TypeInfo). remain r (state_of last.built) rest) (sym of.types) ∙ end.1 in
    let reads : reported_at j.registry (suc j.depth) j.ty x ≡ reported new.built.entries end.0 =
    ap (reported_at j.registry (suc j.depth) j.ty) (moved_own j [] x s last 0 n g m)
    ∙ whole_reported j.registry j.depth j.ty (state_of last.built) (g.own ++ m.own) rest
    (moved_led j [] s last 0 (take n x) g m)
    ∙ ap (after last.built.entries) left
    ∙ ap (λ (xs : List Entry). reported xs end.0)
    (append-nil last.built.entries ∙ sym same.entries) in
    leads_to j x new.built end.0
    (record {
      types = ap (λ (w : Walked). w.types) same.walk ∙ of.types;
      ty = same.ty ∙ of.ty;
      limit = ap (λ (w : Walked). w.limit) same.walk ∙ of.limit;
    }) are reads h
