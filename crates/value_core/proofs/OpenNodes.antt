-- The open nodes by a walk's fields, and that their path is the begun tree's.
use Rattle.std.proofs.Common.{◌≡◌, ℕ, zero, suc, ◌+◌, ◌-◌, ◌<◌, ◌≤◌, List, [], ◌∷◌, ◌++◌, length}
use Rattle.std.proofs.Common.{map, Option, Some, None, refl, sym, ap, ◌∙◌, append_assoc, arith}
use Rattle.std.proofs.Common.{drop, inl, inr, length-append, length-drop, subst}
use Rattle.std.specs.Prelude.{option_map, reverse, slice_get}
use Rattle.std.proofs.lemmas.List.{length-map, length-take-le, map-append, reverse-append}
use Rattle.std.proofs.lemmas.Option.{same_Some, slice_get-map}
use Rattle.std.proofs.lemmas.Simd.{map-map}
use Rattle.types_core.specs.declared.type_info.TypeInfo.{TypeInfo}
use Rattle.grammar_core.specs.Tree.{how_many}
use Rattle.grammar_core.specs.Parts.{Part, times, first_of, left_after, how_many_left}
use Rattle.grammar_core.specs.Preorder.{Entry}
use Rattle.grammar_core.specs.Cells.{Cell}
use Rattle.grammar_core.specs.Begun.{Begun, nothing, whole, open_branch, IsPart, Grows}
use Rattle.grammar_core.proofs.OpenNodes.{first_count, one_less}
use Rattle.node_core.specs.Remaining.{left_by, parts_by, IsWithin}
use Rattle.node_core.specs.Shown.{cell_shown, cells_shown, head_shown}
use Rattle.node_core.specs.declared.node.Node.{Node}
use Rattle.node_core.specs.declared.remaining.Frame.{Frame}
use Rattle.node_core.specs.declared.remaining.Remaining.{Remaining}
use Rattle.value_core.specs.Begun.{IsBegun, built_bytes, next_with_room}
use Rattle.value_core.specs.Building.{IsPaid, IsBuilding}
use Rattle.value_core.specs.Built.{Built, Pieces, IsSettled, entries_shown, settled_in}
use Rattle.value_core.specs.Frames.{AreWithin, frames_of, open_part_of}
use Rattle.value_core.specs.OpenNodes.{HasPath, arm_in, open_parts}
use Rattle.value_core.specs.OpenNodes.{outer_parts, path_of, step_before, step_in}
use Rattle.value_core.specs.Spine.{OpenNode, open_cell, open_cells, IsOpen, open_part, Spine}
use Rattle.value_core.specs.Walked.{OpenPart, Walked, depth_from, depth_of, first_in}
use Rattle.value_core.specs.declared.open_nodes.PathStep.{PathStep}
use Rattle.value_core.proofs.Begun.{heads_are, innermost, is_begun, own_is, spine_is_begun}
use Rattle.value_core.proofs.Members.{members_are}
use Rattle.value_core.proofs.OwnBytes.{spine_bytes}
use Rattle.value_core.proofs.Paths.{spine_path, step_of}
use Rattle.value_core.proofs.Spines.{is_cons, spine_length}

-- an open node of whose parts one is begun
abbrev outer_part : OpenPart → OpenPart × ℕ
outer_part p = (p, 1)

-- ---- the open nodes by a walk's fields

-- the parts that are not the last, the outermost first
outer_snoc : (xs : List OpenPart) (z : OpenPart) → outer_parts (xs ++ z ∷ []) ≡ reverse xs
outer_snoc [] z = refl
outer_snoc (x ∷ []) z = refl
outer_snoc (x ∷ y ∷ ys) z = ap (λ (l : List OpenPart). l ++ x ∷ []) (outer_snoc (y ∷ ys) z)
    ∙ sym (reverse-append (x ∷ []) (y ∷ ys))

-- where at least one part follows the first one, the last of these is the root's
open_snoc : (f : OpenPart) (xs : List OpenPart) (z : OpenPart) →
    open_parts (f ∷ (xs ++ z ∷ []))
    ≡ map outer_part (outer_parts (xs ++ z ∷ [])) ++ (f, 0) ∷ []
open_snoc f [] z = refl
open_snoc f (x ∷ xs) z = refl

-- what is around the innermost node, turned twice
around_is : (r : List TypeInfo) (fs : List Frame) →
    reverse (map (open_part_of r) (reverse fs)) ≡ map (open_part_of r) fs
around_is r [] = refl
around_is r (f ∷ fs) =
    ap (λ (l : List Frame). reverse (map (open_part_of r) l)) (reverse-append (f ∷ []) fs)
    ∙ ap reverse (map-append (open_part_of r) (reverse fs) (f ∷ []))
    ∙ reverse-append (map (open_part_of r) (reverse fs)) (open_part_of r f ∷ [])
    ∙ ap (λ (l : List OpenPart). open_part_of r f ∷ l) (around_is r fs)

-- the open nodes of a walk with these fields
abbrev shown_open : List TypeInfo → Frame → List Frame → List (OpenPart × ℕ)
shown_open r top [] = []
shown_open r top (a ∷ fs) = map outer_part (map (open_part_of r) fs)
    ++ (open_part_of r top, 0) ∷ []

-- they are those that are kept around the innermost one, and that one
open_is : (r : List TypeInfo) (top : Frame) (around : List Frame) →
    open_parts (frames_of r top around) ≡ shown_open r top around
open_is r top [] = refl
open_is r top (a ∷ fs) =
    ap (λ (l : List OpenPart). open_parts (open_part_of r top ∷ l))
    (ap (map (open_part_of r)) (reverse-append (a ∷ []) fs)
    ∙ map-append (open_part_of r) (reverse fs) (a ∷ []))
    ∙ open_snoc (open_part_of r top) (map (open_part_of r) (reverse fs)) (open_part_of r a)
    ∙ ap (λ (l : List OpenPart). map outer_part l ++ (open_part_of r top, 0) ∷ [])
    (outer_snoc (map (open_part_of r) (reverse fs)) (open_part_of r a) ∙ around_is r fs)

-- as many as there are around the innermost part
pub open_counted : (r : List TypeInfo) (top : Frame) (around : List Frame) →
    length (open_parts (frames_of r top around)) ≡ length around
open_counted r top [] = refl
open_counted r top (a ∷ fs) =
    ap length (open_is r top (a ∷ fs))
    ∙ shown_counted
  where
    shown_counted : length (shown_open r top (a ∷ fs)) ≡ length (a ∷ fs)
    shown_counted = omega (
      arith,
      length-append {A = OpenPart × ℕ},
      length-map (map (open_part_of r) fs) outer_part,
      length-map fs (open_part_of r),
    )

-- the one at a depth
at_outer : (r : List TypeInfo) (fs : List Frame) (last : OpenPart × ℕ) (n : ℕ) (f : Frame) →
    slice_get fs n ≡ Some f →
    slice_get (map outer_part (map (open_part_of r) fs) ++ last ∷ []) n
    ≡ Some (open_part_of r f, 1)
at_outer r [] last n f e = absurd cc
at_outer r (g ∷ fs) last zero f e = let same : Some g ≡ Some f = e in cc
at_outer r (g ∷ fs) last (suc n) f e = at_outer r fs last n f e

-- and the last one after all of them
at_inner : (r : List TypeInfo) (fs : List Frame) (last : OpenPart × ℕ) (n : ℕ) → length fs ≡ n →
    slice_get (map outer_part (map (open_part_of r) fs) ++ last ∷ []) n
    ≡ Some last
at_inner r [] last zero h = refl
at_inner r [] last (suc n) h = absurd (omega (arith, h))
at_inner r (g ∷ fs) last zero h = absurd (omega (arith, h))
at_inner r (g ∷ fs) last (suc n) h = at_inner r fs last n (omega (arith, h))

-- a node around the innermost one, by its depth
pub open_outer : (r : List TypeInfo) (top : Frame) (around : List Frame) (n : ℕ) (f : Frame) →
    slice_get around (suc n) ≡ Some f →
    slice_get (open_parts (frames_of r top around)) n ≡ Some (open_part_of r f, 1)
open_outer r top [] n f e = absurd cc
open_outer r top (a ∷ fs) n f e =
    ap (λ (l : List (OpenPart × ℕ)). slice_get l n) (open_is r top (a ∷ fs))
    ∙ at_outer r fs (open_part_of r top, 0) n f e

-- the innermost one
pub open_inner : (r : List TypeInfo) (top : Frame) (around : List Frame) (n : ℕ) →
    length around ≡ suc n →
    slice_get (open_parts (frames_of r top around)) n ≡ Some (open_part_of r top, 0)
open_inner r top [] n h = absurd (omega (arith, h))
open_inner r top (a ∷ fs) n h =
    ap (λ (l : List (OpenPart × ℕ)). slice_get l n) (open_is r top (a ∷ fs))
    ∙ at_inner r fs (open_part_of r top, 0) n (omega (arith, h))

-- ---- how many parts are left

-- as many as are counted
pub left_counted : (refs : List ℕ) (l : Remaining) → IsWithin refs l →
    how_many_left (left_by refs l) ≡ l.count
left_counted refs l h = go l.count l.end h.counted h.there where
  go : (n end : ℕ) → (1 ≤ end → n < end) → end ≤ length refs + 1 →
      how_many_left (parts_by refs n l.element end) ≡ n
  go n zero c w = refl
  go n (suc end) c w =
      ap length (members_are refs end n (omega (arith, c (omega arith))) (omega (arith, w)))
      ∙ length-take-le n (drop (end - n) refs)
      (omega (arith, length-drop (end - n) refs, w, c (omega arith)))

-- and so for one of the open nodes around the innermost
pub left_within : (refs : List ℕ) (fs : List Frame) (n : ℕ) (f : Frame) → AreWithin refs fs →
    slice_get fs n ≡ Some f → IsWithin refs f.left
left_within refs [] n f all e = absurd cc
left_within refs (g ∷ fs) zero f all e =
    subst (λ (x : Frame). IsWithin refs x.left) (same_Some g f e) all.0
left_within refs (g ∷ fs) (suc n) f all e = left_within refs fs n f all.1 e

-- all but the root's part are around the innermost one or are it
outer_counted : (f : OpenPart) (fs : List OpenPart) → length (outer_parts (f ∷ fs)) ≡ length fs
outer_counted f [] = refl
outer_counted f (g ∷ fs) =
    omega (arith, length-append (outer_parts (g ∷ fs)) (f ∷ []), outer_counted g fs)

-- where only whole nodes are closed, as many are open as the next one is deep
pub depth_is : (w : Walked) → settled_in w.frames ≡ w.frames →
    depth_of w ≡ length (open_parts w.frames)
depth_is w s = by w.frames s where
  alone : (o : Option ℕ) → depth_from 1 o ≡ 0
  alone (Some t) = refl
  alone None = refl

  by : (fs : List OpenPart) → settled_in fs ≡ fs →
      depth_from (length fs) (first_in fs) ≡ length (open_parts fs)
  by [] s = refl
  by (f ∷ []) s = alone (first_of f.left)
  by (f ∷ g ∷ fs) s =
      let next = innermost f g fs s in
      rw next.1 (omega (
        arith,
        length-append (map outer_part (outer_parts (g ∷ fs))) ((f, 0) ∷ []),
        length-map (outer_parts (g ∷ fs)) outer_part,
        outer_counted g fs,
      ))

-- ---- the steps by the nodes

-- the node that stands after others
at_seam : {X : Type 0} (xs : List X) (y : X) (ys : List X) →
    slice_get (xs ++ y ∷ ys) (length xs) ≡ Some y
at_seam [] y ys = refl
at_seam (x ∷ xs) y ys = at_seam xs y ys

abbrev entry_of_cell : Cell → Entry
entry_of_cell c = record { ty = c.ty; head = c.head }

-- an open node gives its step, by how many of its parts are to come
step_is : (r : List TypeInfo) (o : OpenNode) (p : Part) (cs1 back all : List Cell) (f : OpenPart)
    (begun : ℕ) → IsOpen r o p → all ≡ cs1 ++ open_cell o ∷ back → f.node ≡ length cs1 →
    how_many_left f.left + begun ≡ how_many_left p →
    step_in (map entry_of_cell all) (f, begun) ≡ step_of o
step_is r o p cs1 back all f begun h is place left =
    let found : slice_get (map entry_of_cell all) f.node ≡ Some (entry_of_cell (open_cell o)) =
    slice_get-map entry_of_cell all f.node
    ∙ ap (option_map entry_of_cell) (ap (slice_get all) place
    ∙ ap (λ (cs : List Cell). slice_get cs (length cs1)) is
    ∙ at_seam cs1 (open_cell o) back) in
    let part : o.all - (how_many_left f.left + begun) ≡ how_many o.done =
    omega (arith, left, h.1.4, first_count r h.1.0 o.done h.1.2 p h.1.6) in
    ap (λ (e : Option Entry). step_before e (how_many_left f.left + begun)) found
    ∙ ap (λ (n : ℕ). record { ty = record { 0 = o.ty }; arm = arm_in o.kind; part = n }) part

-- so do all around the next type, of which one is begun
outer_is : (r : List TypeInfo) (room t : ℕ) (os : List OpenNode) (f : OpenPart)
    (fs : List OpenPart) (cs : List Cell) (own : List ℕ) (back all : List Cell) (w : ℕ) →
    Spine r room t os (f ∷ fs) cs own → all ≡ cs ++ back → first_of f.left ≡ Some w →
    map (step_in (map entry_of_cell all))
    (map outer_part (outer_parts (open_part f.node (left_after f.left) ∷ fs))) ≡ spine_path os
outer_is r room t [] f fs cs own back all w (inl h) is e =
    rw (is_cons f (open_part 0 (times 1 t)) fs [] h.0).1 refl
outer_is r room t [] f fs cs own back all w (inr h) is e =
    rw (is_cons f (open_part 0 (times 0 t)) fs [] h.1).1 refl
outer_is r room t (o ∷ os) f fs cs own back all w h is e =
    let parts = is_cons f (open_part (length h.4) h.0) fs (open_part h.2 (left_after h.1) ∷ h.3)
    h.6 in
    let step = step_in (map entry_of_cell all) in
    let now = open_part f.node (left_after f.left) in
    let rest = outer_parts (open_part h.2 (left_after h.1) ∷ h.3) in
    let left_is : f.left ≡ h.0 = ap (λ (x : OpenPart). x.left) parts.0 in
    let next : first_of h.0 ≡ Some w = ap first_of (sym left_is) ∙ e in
    let one : how_many_left (left_after f.left) + 1 ≡ how_many_left h.0 =
    omega (arith, one_less f.left w e, ap how_many_left left_is) in
    let cells_are : all ≡ h.4 ++ (open_cells r o ++ back) =
    is ∙ ap (λ (x : List Cell). x ++ back) h.11 ∙ append_assoc h.4 (open_cells r o) back in
    let outer = outer_is r (suc room) t os (open_part h.2 h.1) h.3 h.4 h.5 (open_cells r o ++ back)
    all o.ty h.8 cells_are h.7 in
    let mine = step_is r o h.0 h.4 _ all now 1 h.9 cells_are
    (ap (λ (x : OpenPart). x.node) parts.0) one in
    ap (λ (x : List OpenPart). map step (map outer_part (outer_parts (now ∷ x)))) parts.1
    ∙ ap (map step) (map-append outer_part rest (now ∷ []))
    ∙ map-append step (map outer_part rest) (outer_part now ∷ [])
    ∙ ap (λ (x : List PathStep). x ++ step (now, 1) ∷ []) outer
    ∙ ap (λ (x : PathStep). spine_path os ++ x ∷ []) mine

-- the steps by the walk's parts and the nodes are those from the open nodes
path_is : (r : List TypeInfo) (room t : ℕ) (os : List OpenNode) (f : OpenPart)
    (fs : List OpenPart) (cs : List Cell) (own : List ℕ) → Spine r room t os (f ∷ fs) cs own →
    map (step_in (map entry_of_cell cs)) (open_parts (f ∷ fs)) ≡ spine_path os
path_is r room t [] f fs cs own (inl h) =
    rw (is_cons f (open_part 0 (times 1 t)) fs [] h.0).1 refl
path_is r room t [] f fs cs own (inr h) =
    rw (is_cons f (open_part 0 (times 0 t)) fs [] h.1).1 refl
path_is r room t (o ∷ os) f fs cs own h =
    let parts = is_cons f (open_part (length h.4) h.0) fs (open_part h.2 (left_after h.1) ∷ h.3)
    h.6 in
    let step = step_in (map entry_of_cell cs) in
    let rest = map outer_part (outer_parts (open_part h.2 (left_after h.1) ∷ h.3)) in
    let outer = outer_is r (suc room) t os (open_part h.2 h.1) h.3 h.4 h.5 (open_cells r o) cs
    o.ty h.8 h.11 h.7 in
    let all_left : how_many_left f.left + 0 ≡ how_many_left h.0 =
    omega (arith, ap (λ (x : OpenPart). how_many_left x.left) parts.0) in
    let mine = step_is r o h.0 h.4 _ cs f 0 h.9 h.11 (ap (λ (x : OpenPart). x.node) parts.0)
    all_left in
    ap (λ (x : List OpenPart). map step (open_parts (f ∷ x))) parts.1
    ∙ map-append step rest ((f, 0) ∷ [])
    ∙ ap (λ (x : List PathStep). x ++ step (f, 0) ∷ []) outer
    ∙ ap (λ (x : PathStep). spine_path os ++ x ∷ []) mine

-- ---- what a builder holds

-- a node with its type
abbrev pub entry_shown : List ℕ → Node → Entry
entry_shown pool n = record { ty = n.ty.0; head = head_shown pool n.children n.content }

-- nodes shown with their types are those shown with their sizes as well
entries_are : (pool : List ℕ) (ns : List Node) →
    map entry_of_cell (cells_shown pool ns) ≡ entries_shown pool ns
entries_are pool ns = map-map entry_of_cell (cell_shown pool) ns

-- where a type is next
part_path : (ty : ℕ) (types : List TypeInfo) (limit : ℕ) (f : OpenPart) (fs : List OpenPart)
    (pool : List ℕ) (ns : List Node) (text_len : ℕ) (run : Option Pieces) (turns : ℕ) (u : ℕ) →
    IsBuilding ty (record { types = types; limit = limit; frames = f ∷ fs }) pool ns text_len →
    first_of f.left ≡ Some u →
    HasPath (record {
      ty = ty;
      walk = record { types = types; limit = limit; frames = f ∷ fs };
      entries = entries_shown pool ns;
      run = run;
      turns = turns;
    })
part_path ty types limit f fs pool ns text_len run turns u b e =
    let parts = spine_length types b.room ty b.opens (f ∷ fs) (cells_shown pool ns) b.own b.spine in
    let g = spine_is_begun types (limit + 1) b.room ty b.opens f fs (cells_shown pool ns) b.own u
    (omega (arith, b.level, parts)) b.spine e in
    let left : limit + 2 - length (f ∷ fs) ≡ b.room = omega (arith, b.level) in
    let own = own_is types pool ns b.own
    (spine_bytes types b.room ty b.opens (f ∷ fs) (cells_shown pool ns) b.own b.are_bytes
    b.spine) in
    record {
      tree = g.0;
      grows = rw (e, left, own) g.1;
      shows = heads_are pool ns ∙ g.3;
      path =
          ap (λ (es : List Entry). map (step_in es) (open_parts (f ∷ fs)))
          (sym (entries_are pool ns))
          ∙ path_is types b.room ty b.opens f fs (cells_shown pool ns) b.own b.spine ∙ sym g.4;
    }

-- a begun tree of which something is missing wants a type
part_wants : {X : Type 0} (r : List TypeInfo) (room t : ℕ) (g : Begun) (b : List ℕ) →
    IsPart g → Grows r room t g b None → X
unfolding Grows
part_wants r room t nothing b p h = let no = h.1 in absurd cc
part_wants r room t (whole v) b p h = absurd p
part_wants r zero t (open_branch k n vs g) b p h = absurd h
part_wants r (suc room) t (open_branch k n vs g) b p h =
    part_wants r room h.1 g h.3 h.9 h.10

-- a complete tree has no open node
whole_path : (r : List TypeInfo) (room t : ℕ) (g : Begun) (b : List ℕ) → Grows r room t g b None →
    path_of r t g ≡ []
whole_path r room t nothing b h = refl
whole_path r room t (whole v) b h = refl
whole_path r room t (open_branch k n vs g) b h =
    part_wants r room t (open_branch k n vs g) b tt h

-- where nothing is missing
whole_has_path : (b : Built) (f : OpenPart) → b.walk.frames ≡ f ∷ [] → first_of f.left ≡ None →
    IsBegun b → HasPath b
whole_has_path b f is e h =
    let none : next_with_room b.walk ≡ None =
    ap (λ (fs : List OpenPart). option_map (λ (t : ℕ). (b.walk.limit + 2 - length b.walk.frames, t))
    (first_in fs)) is ∙ ap (option_map (λ (t : ℕ). (b.walk.limit + 2 - length b.walk.frames, t))) e
    in
    record {
      tree = h.tree;
      grows = h.grows;
      shows = h.shows;
      path =
          ap (λ (fs : List OpenPart). map (step_in b.entries) (open_parts fs)) is
          ∙ sym (whole_path b.walk.types (b.walk.limit + 1) b.ty h.tree (built_bytes b)
          (subst (Grows b.walk.types (b.walk.limit + 1) b.ty h.tree (built_bytes b)) none h.grows));
    }

-- the same by the fields of its walk
path_by : (ty : ℕ) (types : List TypeInfo) (limit : ℕ) (fs : List OpenPart) (pool : List ℕ)
    (ns : List Node) (text_len : ℕ) (run : Option Pieces) (turns : ℕ) →
    IsBuilding ty (record { types = types; limit = limit; frames = fs }) pool ns text_len →
    settled_in fs ≡ fs →
    IsBegun (record {
      ty = ty;
      walk = record { types = types; limit = limit; frames = fs };
      entries = entries_shown pool ns;
      run = run;
      turns = turns;
    }) →
    HasPath (record {
      ty = ty;
      walk = record { types = types; limit = limit; frames = fs };
      entries = entries_shown pool ns;
      run = run;
      turns = turns;
    })
path_by ty types limit [] pool ns text_len run turns b s begun =
    absurd (omega (
      arith,
      spine_length types b.room ty b.opens [] (cells_shown pool ns) b.own
          b.spine,
    ))
path_by ty types limit (f ∷ []) pool ns text_len run turns b s begun =
    by (first_of f.left) refl where
      by : (x : Option ℕ) → first_of f.left ≡ x →
          HasPath (record {
            ty = ty;
            walk = record { types = types; limit = limit; frames = f ∷ [] };
            entries = entries_shown pool ns;
            run = run;
            turns = turns;
          })
      by (Some u) e = part_path ty types limit f [] pool ns text_len run turns u b e
      by None e = whole_has_path _ f refl e begun
path_by ty types limit (f ∷ g ∷ fs) pool ns text_len run turns b s begun =
    let u = innermost f g fs s in
    part_path ty types limit f (g ∷ fs) pool ns text_len run turns u.0 b u.1

-- the path of a value that is being built, with all that is whole closed, is a begun tree's
pub has_path : (ty : ℕ) (w : Walked) (pool : List ℕ) (ns : List Node) (text_len : ℕ)
    (run : Option Pieces) (turns : ℕ) → IsBuilding ty w pool ns text_len → IsPaid w ns turns →
    IsSettled w → HasPath (record {
      ty = ty;
      walk = w;
      entries = entries_shown pool ns;
      run = run;
      turns = turns;
    })
has_path ty w pool ns text_len run turns b paid s =
    path_by ty w.types w.limit w.frames pool ns text_len run turns b
    (ap (λ (x : Walked). x.frames) s)
    (is_begun ty w pool ns text_len run turns b paid s)

-- the step at a depth, by the kept nodes
pub step_found : (pool : List ℕ) (ns : List Node) (frames : List OpenPart) (p : OpenPart)
    (begun left depth : ℕ) (found : PathStep) →
    Some (p, begun) ≡ slice_get (open_parts frames) depth → how_many_left p.left ≡ left →
    found ≡ step_before (option_map (entry_shown pool) (slice_get ns p.node)) (left + begun) →
    Some found ≡ slice_get (map (step_in (entries_shown pool ns)) (open_parts frames)) depth
step_found pool ns frames p begun left depth found part count is =
    let es = entries_shown pool ns in
    let here : option_map (entry_shown pool) (slice_get ns p.node) ≡ slice_get es p.node =
    sym (slice_get-map (entry_shown pool) ns p.node) in
    ap Some (is ∙ ap (λ (e : Option Entry). step_before e (left + begun)) here
    ∙ ap (λ (k : ℕ). step_before (slice_get es p.node) (k + begun)) (sym count))
    ∙ ap (option_map (step_in es)) part ∙ sym (slice_get-map (step_in es) (open_parts frames) depth)
