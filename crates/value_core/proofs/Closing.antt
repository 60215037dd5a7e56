-- The innermost open node gets its size.
use Rattle.std.proofs.Common.{Option, ◌≡◌, ℕ, zero, suc, ◌+◌, ◌-◌, ◌<◌, List, [], ◌∷◌, ◌++◌}
use Rattle.std.proofs.Common.{length, Some, None, refl, sym, ap, subst, ◌∙◌, arith, inl, inr}
use Rattle.std.proofs.Common.{length-append}
use Rattle.std.specs.Prelude.{slice_get, slice_set}
use Rattle.std.proofs.lemmas.List.{length-map}
use Rattle.types_core.specs.declared.type_info.TypeInfo.{TypeInfo}
use Rattle.grammar_core.specs.Parts.{Part, times, first_of}
use Rattle.grammar_core.specs.Cells.{Cell}
use Rattle.node_core.specs.Shown.{cell_shown, cells_shown, head_shown, size_shown, closed_as}
use Rattle.node_core.specs.Shown.{kept_bytes, all_kept, IsInPool, AreInPool}
use Rattle.value_core.specs.Spine.{OpenNode, open_part, Spine}
use Rattle.value_core.specs.Walked.{OpenPart, Walked, Closes, advanced, advanced_in, opened}
use Rattle.value_core.specs.Built.{IsSettled, closings, entries_shown, entries_text_bytes}
use Rattle.value_core.specs.Built.{settled_in, settled_walk}
use Rattle.value_core.specs.Building.{IsBuilding, IsOpenRun, IsPaid, Settles, AreBuilt}
use Rattle.value_core.specs.Building.{pieces_shown}
use Rattle.node_core.specs.declared.open_run.OpenRun.{OpenRun}
use Rattle.node_core.specs.declared.node.Content.{Content}
use Rattle.node_core.specs.declared.node.Content.TheVariants as content
use Rattle.node_core.specs.declared.node.Node.{Node}
use Rattle.value_core.proofs.Spines.{Closed, is_cons, node_closed}
use Rattle.value_core.proofs.Begun.{settled_short}

abbrev pub with_size : Node → ℕ → Node
with_size n k =
    record { ty = n.ty; children = n.children; content = closed_as n.content k }

abbrev cell_with_size : Cell → ℕ → Cell
cell_with_size c k = record { ty = c.ty; head = c.head; size = k }

-- with another size a node stays what it is, and keeps what it has in the pool
pub record Resized (pool : List ℕ) (children : ℕ) (c : Content) (k : ℕ) : Type 0 where
  pub head : head_shown pool children (closed_as c k) ≡ head_shown pool children c
  pub kept : kept_bytes (closed_as c k) ≡ kept_bytes c
  pub inside : IsInPool pool c → IsInPool pool (closed_as c k)

-- a node shows the same and keeps the same in the pool when it gets another size
pub same : (pool : List ℕ) (children : ℕ) (c : Content) (k : ℕ) → Resized pool children c k
same pool m content.Empty k = record { head = refl; kept = refl; inside = λ h. h }
same pool m _ k = record { head = refl; kept = refl; inside = λ h. h }

-- a node that is open has parts, so it gets its size
sized : (c : Content) (k : ℕ) → size_shown c ≡ 0 → size_shown (closed_as c k) ≡ k
sized (content.Fields size) k h = refl
sized (content.Arm q size) k h = refl
sized (content.List size) k h = refl
sized _ k h = absurd (omega (arith, h))

-- the cells are those of before, with the size of the open node at one place
resized : (pool : List ℕ) (ns : List Node) (n : Node) (k place : ℕ) (front : List Cell) (c : Cell)
    (back : List Cell) → c.size ≡ 0 → slice_get ns place ≡ Some n →
    cells_shown pool ns ≡ front ++ c ∷ back → place ≡ length front →
    cells_shown pool (slice_set ns place (with_size n k)) ≡ front ++ cell_with_size c k ∷ back
resized pool [] n k place front c back z g e p = absurd cc
resized pool (m ∷ ns) n k zero [] c back z g e p =
    let is : m ≡ n = cc in
    let first : cell_shown pool m ≡ c = cc in
    let rest : cells_shown pool ns ≡ back = cc in
    let unsized : size_shown m.content ≡ 0 = ap (λ (x : Cell). x.size) first ∙ z in
    rw (
      ← is,
      ← first,
      ← rest,
      (same pool m.children m.content k).head,
      sized m.content k unsized,
    ) refl
resized pool (m ∷ ns) n k zero (d ∷ front) c back z g e p = absurd cc
resized pool (m ∷ ns) n k (suc place) [] c back z g e p = absurd cc
resized pool (m ∷ ns) n k (suc place) (d ∷ front) c back z g e p =
    let first : cell_shown pool m ≡ d = cc in
    let rest : cells_shown pool ns ≡ front ++ c ∷ back = cc in
    let at : place ≡ length front = omega (arith, p) in
    rw (resized pool ns n k place front c back z g rest at, first) refl

-- nodes with their types show the same when one of them gets another size
entries_resized : (pool : List ℕ) (ns : List Node) (n : Node) (k place : ℕ) →
    slice_get ns place ≡ Some n →
    entries_shown pool (slice_set ns place (with_size n k)) ≡ entries_shown pool ns
entries_resized pool [] n k place g = absurd cc
entries_resized pool (m ∷ ns) n k zero g = let is : m ≡ n = cc in
    rw (is, (same pool n.children n.content k).head) refl
entries_resized pool (m ∷ ns) n k (suc place) g = rw (entries_resized pool ns n k place g) refl

-- the bytes of all nodes lie in the pool also when one of them gets another size
inside_resized : (pool : List ℕ) (ns : List Node) (n : Node) (k place : ℕ) →
    slice_get ns place ≡ Some n → AreInPool pool ns →
    AreInPool pool (slice_set ns place (with_size n k))
inside_resized pool [] n k place g h = absurd cc
inside_resized pool (m ∷ ns) n k zero g h =
    let is : m ≡ n = cc in (
      (same pool n.children n.content k).inside
          (subst (λ (x : Node). IsInPool pool x.content) is h.0),
      h.1,
    )
inside_resized pool (m ∷ ns) n k (suc place) g h = (h.0, inside_resized pool ns n k place g h.1)

-- as many bytes are kept in the pool when one node gets another size
kept_resized : (ns : List Node) (n : Node) (k place : ℕ) → slice_get ns place ≡ Some n →
    all_kept (slice_set ns place (with_size n k)) ≡ all_kept ns
kept_resized [] n k place g = absurd cc
kept_resized (m ∷ ns) n k zero g = let is : m ≡ n = cc in
    rw (is, (same [] n.children n.content k).kept) refl
kept_resized (m ∷ ns) n k (suc place) g = rw (kept_resized ns n k place g) refl

-- where a node is closed, one is open
opened_one : (r : List TypeInfo) (room t place : ℕ) (p : Part) (os : List OpenNode)
    (fs : List OpenPart) (cs : List Cell) (own : List ℕ) →
    Spine r room t os (open_part place p ∷ fs) cs own → (fs ≡ [] → ⊥) → first_of p ≡ None →
    Closed r room t place fs cs own
opened_one r room t place p [] fs cs own (inl h) some e =
    absurd (some (is_cons (open_part place p) (open_part 0 (times 1 t)) fs [] h.0).1)
opened_one r room t place p [] fs cs own (inr h) some e =
    absurd (some (is_cons (open_part place p) (open_part 0 (times 0 t)) fs [] h.1).1)
opened_one r room t place p (o ∷ os) fs cs own h some e =
    node_closed r room t o os (open_part place p) fs cs own h e

-- the node that closes, by the walk before and after
pub record IsClosing (ty : ℕ) (new : Walked) (pool : List ℕ) (ns : List Node)
    (text_len place : ℕ) : Type 0 where
  pub inside : place < length ns
  pub builds : (n : Node) (k : ℕ) → slice_get ns place ≡ Some n → k ≡ length ns - place →
      IsBuilding ty new pool (slice_set ns place (with_size n k)) text_len

-- where the innermost node closes and gets its size, the value that is being built stays one
pub closing : (ty : ℕ) (old new : Walked) (pool : List ℕ) (ns : List Node) (text_len place : ℕ) →
    IsBuilding ty old pool ns text_len → Closes old new place →
    IsClosing ty new pool ns text_len place
closing ty old new pool ns text_len place b c =
    let spine : Spine old.types b.room ty b.opens (open_part place c.part ∷ new.frames)
    (cells_shown pool ns) b.own = rw (← c.frames) b.spine in
    let k = opened_one old.types b.room ty place c.part b.opens new.frames (cells_shown pool ns)
    b.own spine c.not_root c.whole in
    let long : length ns ≡ length k.front + length (k.cell ∷ k.back) =
    sym (length-map ns (cell_shown pool)) ∙ ap length k.cells_are
    ∙ length-append k.front (k.cell ∷ k.back) in
    record {
      inside = omega (arith, long, k.place_is);
      builds = λ n size g e.
          let sized : size ≡ 1 + length k.back = omega (arith, e, long, k.place_is) in
          record {
            room = suc b.room;
            level = omega (arith, b.level, ap length c.frames, c.limit);
            own = b.own;
            are_bytes = b.are_bytes;
            opens = k.grown.0;
            spine = rw (
              c.types,
              resized pool ns n size place k.front k.cell k.back k.unsized g k.cells_are
                  k.place_is,
              sized,
            ) k.grown.1;
            inside = inside_resized pool ns n size place g b.inside;
            texts = b.texts ∙ sym (ap entries_text_bytes (entries_resized pool ns n size place g));
            fits = rw (kept_resized ns n size place g) b.fits;
          };
    }

-- what stands when all that is whole is closed stays
pub settled_step : (place : ℕ) (p : Part) (fs : List OpenPart) → (fs ≡ [] → ⊥) → first_of p ≡ None →
    settled_in (open_part place p ∷ fs) ≡ settled_in fs
settled_step place p [] some e = absurd (some refl)
settled_step place p (f ∷ fs) some e = rw e refl

-- the innermost node that is closed is among the nodes
pub closed_inside : (old new : Walked) (ns : List Node) (place : ℕ) → AreBuilt old ns →
    Closes old new place → place < length ns
closed_inside old new ns place b c = (closing b.0 old new b.1 ns b.2 place b.3 c).inside

-- closing the innermost node, which gets its size, counts as closing some that are whole
pub closing_settles : (old new : Walked) (ns : List Node) (n : Node) (k place : ℕ) →
    slice_get ns place ≡ Some n → k ≡ length ns - place → Closes old new place →
    Settles old ns new (slice_set ns place (with_size n k))
closing_settles old new ns n k place g e c = record {
  walk = rw (c.types, c.limit, c.frames, settled_step place c.part new.frames c.not_root c.whole)
      refl;
  entries = λ pool. entries_resized pool ns n k place g;
  builds = λ ty pool text_len b. (closing ty old new pool ns text_len place b c).builds n k g e;
  kept = kept_resized ns n k place g;
}

-- what is settled stays so
pub settled_twice : (fs : List OpenPart) → settled_in (settled_in fs) ≡ settled_in fs
settled_twice [] = refl
settled_twice (f ∷ []) = refl
settled_twice (f ∷ g ∷ fs) = by (first_of f.left) refl (settled_twice (g ∷ fs)) where
  by : (x : Option ℕ) → first_of f.left ≡ x →
      settled_in (settled_in (g ∷ fs)) ≡ settled_in (g ∷ fs) →
      settled_in (settled_in (f ∷ g ∷ fs)) ≡ settled_in (f ∷ g ∷ fs)
  by (Some u) e h = let stays : settled_in (f ∷ g ∷ fs) ≡ f ∷ g ∷ fs = rw (e, settled_in) refl in
      ap settled_in stays
  by None e h = let less : settled_in (f ∷ g ∷ fs) ≡ settled_in (g ∷ fs) =
      rw (e, settled_in) refl in ap settled_in less ∙ h ∙ sym less

-- once all that is whole is closed, nothing is left that is whole and open
pub settled_again : (w : Walked) → IsSettled (settled_walk w)
settled_again w = rw (settled_twice w.frames) refl

-- where no run shows as open, none is open
pub none_open : (pool : List ℕ) (text : Option OpenRun) → pieces_shown pool text ≡ None →
    text ≡ None
none_open pool None e = refl
none_open pool (Some o) e = absurd cc

-- where no run is open, nodes that keep as many bytes more as came to the pool leave nothing else
-- there
pub stays_exact : (w v : Walked) (old new : List ℕ) (before after : List Node)
    (run : Option OpenRun) → run ≡ None → IsOpenRun w old (all_kept before) run →
    all_kept after + length old ≡ all_kept before + length new →
    IsOpenRun v new (all_kept after) run
stays_exact w v old new before after None none h grown = omega (arith, h, grown)
stays_exact w v old new before after (Some o) none h grown = absurd cc

-- ---- turns

-- there is a turn for each node that closes
pub turns_are : (w v : Walked) (before after : ℕ) → v ≡ settled_walk w →
    after + length v.frames ≡ before + length w.frames → after ≡ before + closings w.frames
turns_are w v before after is e =
    omega (arith, e, ap (λ (x : Walked). length x.frames) is, settled_short w.frames)

-- closing nodes leaves their number
settled_length : (old new : Walked) (before after : List Node) → Settles old before new after →
    length after ≡ length before
settled_length old new before after h = sym (length-map after _) ∙ ap length (h.entries [])
    ∙ length-map before _

-- nodes were closed, each in a turn
pub settled_paid : (old new : Walked) (before after : List Node) (turns paid : ℕ) →
    Settles old before new after → new ≡ settled_walk old → paid ≡ turns + closings old.frames →
    IsPaid old before turns → IsPaid new after paid
settled_paid old new before after turns paid h is e p =
    omega (
      arith,
      e,
      p,
      ap (λ (x : Walked). length x.frames) is,
      settled_short old.frames,
      settled_length old new before after h,
    )

-- when the next node is there, as many parts are open as before
pub advanced_length : (fs : List OpenPart) → length (advanced_in fs) ≡ length fs
advanced_length [] = refl
advanced_length (f ∷ fs) = refl

-- one more node is there
pub leaf_paid : (w : Walked) (ns : List Node) (n : Node) (turns : ℕ) → IsPaid w ns turns →
    IsPaid (advanced w) (ns ++ n ∷ []) turns
leaf_paid w ns n turns p = omega (arith, p, advanced_length w.frames, length-append ns (n ∷ []))

-- and it is open
pub open_paid : (w : Walked) (ns : List Node) (n : Node) (place turns : ℕ) (part : Part) →
    IsPaid w ns turns → IsPaid (opened (advanced w) place part) (ns ++ n ∷ []) turns
open_paid w ns n place turns part p =
    omega (arith, p, advanced_length w.frames, length-append ns (n ∷ []))
