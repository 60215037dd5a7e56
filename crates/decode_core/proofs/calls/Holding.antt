-- What is held where bytes are missing is the begun tree of all bytes so far.
use Rattle.std.proofs.Common.{◌≡◌, ℕ, suc, ◌+◌, true, List, [], ◌∷◌, ◌++◌, length, Option, Some}
use Rattle.std.proofs.Common.{None, Err, refl, sym, ap, subst, ◌∙◌, arith}
use Rattle.std.specs.Prelude.{◌-◌, option_map}
use Rattle.scale_core.specs.Number.{AreBytes}
use Rattle.scale_core.specs.declared.fault.Reason.TheVariants as scale
use Rattle.types_core.specs.Kinds.{kind_of}
use Rattle.types_core.specs.declared.kind.PrimitiveKind.{PrimitiveKind}
use Rattle.types_core.specs.declared.kind.PrimitiveKind.TheVariants as K
use Rattle.types_core.specs.declared.type_info.TypeInfo.{TypeInfo}
use Rattle.widths_core.specs.Classes.{is_finite}
use Rattle.widths_core.specs.Layouts.{Layout, layout, kind_layout}
use Rattle.widths_core.specs.Layouts as layout
use Rattle.widths_core.specs.declared.run_kind.RunKind.{RunKind}
use Rattle.widths_core.specs.declared.run_kind.RunKind.TheVariants as kind
use Rattle.grammar_core.specs.Runs.{run_length_at}
use Rattle.grammar_core.specs.Begun.{Begun, Grows}
use Rattle.grammar_core.specs.declared.form.Form.{Form}
use Rattle.grammar_core.specs.declared.form.Form.TheVariants as form
use Rattle.value_core.specs.Begun.{built_bytes, next_with_room}
use Rattle.value_core.specs.Built.{Built, Pieces, next_layout, pieces_bytes, type_or_0}
use Rattle.value_core.specs.Walked.{next_type}
use Rattle.value_core.proofs.Forms.{HasForm, Wanted, wanted}
use Rattle.decode_core.specs.Decoding.{HoldsOf, IsOf, IsWaiting}
use Rattle.outcome_core.specs.HeldLaws.{open_run, past_length}
use Rattle.outcome_core.specs.HeldTree.{IsShort}
use Rattle.form_core.specs.Needs.{HasBytes, kind_need, need}
use Rattle.outcome_core.specs.Outcome.{Query}
use Rattle.machine_core.specs.Running.{Running, IsCarry, IsRunNext, held_of, run_held}
use Rattle.outcome_core.specs.Reported.{own_at}
use Rattle.machine_core.proofs.steps.NodeAdding.{next_has, next_run}
use Rattle.machine_core.proofs.steps.Refusing.{IsShortOf, run_length_short}
use Rattle.machine_core.proofs.steps.OpenRuns.{length_again, own_of}
use Rattle.outcome_core.proofs.ReportedSpells.{HoldsBytes, entry_bytes, reported_spells}

-- ---- the tree and its bytes

-- the nodes' bytes stand before those that are held
own_is : (j : Query) (b : List ℕ) (s : Running) → IsOf j s → AreBytes b → IsWaiting j b s →
    b ≡ built_bytes s.built ++ held_of s
own_is j b s of are w =
    let read = subst (HoldsBytes j.registry b) w.reads
    (reported_spells j.registry (suc j.depth) j.ty b are) in
    read ∙ ap (λ (r : List TypeInfo). entry_bytes r s.built.entries ++ held_of s) (sym of.types)

-- the tree grows up to the walk's next type
grows_to : (j : Query) (s : Running) (u : ℕ) (g : Begun) → IsOf j s →
    next_type s.built.walk ≡ Some u →
    Grows s.built.walk.types (s.built.walk.limit + 1) s.built.ty g (built_bytes s.built)
    (next_with_room s.built.walk) →
    Grows j.registry (suc j.depth) j.ty g (built_bytes s.built)
    (Some (s.built.walk.limit + 2 - length s.built.walk.frames, u))
grows_to j s u g of is h =
    let own = built_bytes s.built in
    let at = s.built.walk.limit + 2 - length s.built.walk.frames in
    let next : next_with_room s.built.walk ≡ Some (at, u) =
    ap (λ (o : Option ℕ). option_map (λ (t : ℕ). (at, t)) o) is in
    let levels : s.built.walk.limit + 1 ≡ suc j.depth = omega (arith, of.limit) in
    subst (λ (t : ℕ). Grows j.registry (suc j.depth) t g own (Some (at, u))) of.ty
    (subst (λ (n : ℕ). Grows j.registry n s.built.ty g own (Some (at, u))) levels
    (subst (λ (r : List TypeInfo). Grows r (s.built.walk.limit + 1) s.built.ty g own (Some (at, u)))
    of.types
    (subst (λ (o : Option (ℕ × ℕ)). Grows s.built.walk.types (s.built.walk.limit + 1) s.built.ty g
    own o) next h)))

-- the next layout of a decoder is that of its next type in the query's registry
layout_is : (j : Query) (s : Running) (u : ℕ) → IsOf j s → next_type s.built.walk ≡ Some u →
    next_layout s.built ≡ layout j.registry u
layout_is j s u of is = ap (λ (o : Option ℕ). layout s.built.walk.types (type_or_0 o)) is
    ∙ ap (λ (r : List TypeInfo). layout r u) of.types

-- where bytes are missing, what is held is short for the type that is next, with its room
short_to : (j : Query) (b : List ℕ) (s : Running) → IsOf j s → (w : IsWaiting j b s) →
    (n : Wanted s.built.walk w.wants.form) →
    IsShort j.registry (s.built.walk.limit + 2 - length s.built.walk.frames) n.ty (held_of s)
short_to j b s of w n =
    let finite : is_finite j.registry n.ty ≡ true =
    subst (λ (r : List TypeInfo). is_finite r n.ty ≡ true) of.types n.finite in
    let laid = ap (λ (f : Layout).
    own_at f (held_of s)) (sym (layout_is j s n.ty of n.is_next)) in (
      omega (arith, n.room),
      finite,
      w.wants.left,
      laid ∙ w.wants.short,
    )

-- ---- the bytes of runs

-- two runs of one layout are of one kind
same_run : (k l : RunKind) → layout.plain (layout.run k) ≡ layout.plain (layout.run l) → k ≡ l
same_run k l h = cc

-- what is short for a kind or a form that has the layout of a run is short for the run's length
kind_alone : (p : PrimitiveKind) (k : RunKind) (c : List ℕ) →
    layout.plain (layout.run k) ≡ kind_layout p → IsShortOf (kind_need p) c →
    run_length_at k c ≡ Err (scale.Truncated, [])
kind_alone K.Str k c h s = rw (same_run k kind.Text h) (run_length_short kind.Text c tt s)
kind_alone _ k c h s = absurd cc

-- where a run's own bytes are short, its length is not there whole
run_alone : (f : Form) (k : RunKind) (c : List ℕ) → HasForm f (layout.plain (layout.run k)) →
    HasBytes f → IsShortOf (need f) c → run_length_at k c ≡ Err (scale.Truncated, [])
run_alone (form.Primitive p) k c h some s = kind_alone (kind_of p) k c h s
run_alone form.Bytes k c h some s =
    rw (same_run k kind.Bytes h) (run_length_short kind.Bytes c tt s)
run_alone (form.Bits f) k c h some s =
    rw (same_run k (kind.Bits f) h) (run_length_short (kind.Bits f) c tt s)
run_alone (form.ByteArray n) k c h some s = absurd some
run_alone form.Empty k c h some s = absurd some
run_alone (form.Compact m) k c h some s = absurd cc
run_alone form.Fields k c h some s = absurd some
run_alone form.Arm k c h some s = let no = h.1 in absurd cc
run_alone (form.Array n) k c h some s = absurd some
run_alone form.Sequence k c h some s = let no = h.1 in absurd cc
run_alone form.Count k c h some s = absurd cc

-- no byte lies past the length of a run of which none is there
nothing_past : (k : RunKind) → past_length (run_length_at k []) ≡ 0
nothing_past kind.Text = ap past_length (run_length_short kind.Text [] tt tt)
nothing_past kind.Bytes = ap past_length (run_length_short kind.Bytes [] tt tt)
nothing_past (kind.ByteArray n) = refl
nothing_past (kind.Bits f) = ap past_length (run_length_short (kind.Bits f) [] tt tt)

-- what is carried is not even a run's length
carried_past : (b : Built) (c : List ℕ) (k : RunKind) → IsCarry b c →
    next_layout b ≡ layout.plain (layout.run k) → past_length (run_length_at k c) ≡ 0
carried_past b [] k h laid = nothing_past k
carried_past b (x ∷ c) k h laid =
    ap past_length (run_alone h.0 k (x ∷ c) (rw laid at (next_has b h.0 h.1)) h.2 h.4)

-- no run is open
carried_run : (b : Built) (c : List ℕ) (lay : Layout) → IsCarry b c → next_layout b ≡ lay →
    open_run lay c ≡ 0
carried_run b c (layout.plain (layout.run k)) h e = carried_past b c k h e
carried_run b c _ h e = refl

-- a run that is open has the bytes that came after its length
open_is : (b : Built) (c : List ℕ) (run : Option Pieces) → IsCarry b c → IsRunNext b c run →
    length (pieces_bytes run) ≡ open_run (next_layout b) (run_held run c)
open_is b c None carried h = sym (carried_run b c (next_layout b) carried refl)
open_is b c (Some t) carried h =
    sym (ap (λ (lay : Layout). open_run lay (own_of t)) (next_run b t.kind h.0)
    ∙ ap past_length (length_again t.kind t.len t.bytes h.2))

-- a decoder that waits for bytes holds the begun tree of all bytes so far, and no other node
pub holds_of : (j : Query) (b : List ℕ) (s : Running) → IsOf j s → AreBytes b → IsWaiting j b s →
    HoldsOf j b s
holds_of j b s of are w =
    let n = wanted s.built.walk w.wants.form w.wants.next in
    let begun = w.sound.begun in
    let at = s.built.walk.limit + 2 - length s.built.walk.frames in
    let texts : length (pieces_bytes s.built.run) ≡ open_run (layout j.registry n.ty)
    (held_of s) =
    open_is s.built s.carry s.built.run w.sound.carried w.sound.run_next
    ∙ ap (λ (lay : Layout). open_run lay (held_of s)) (layout_is j s n.ty of n.is_next) in
    record {
      tree = begun.tree;
      holds = (
        built_bytes s.built,
        at,
        n.ty,
        own_is j b s of are w,
        grows_to j s n.ty begun.tree of n.is_next begun.grows,
        short_to j b s of w n,
      );
      shows = begun.shows;
      nodes = begun.nodes;
      texts = omega (arith, begun.text_bytes, texts);
    }
