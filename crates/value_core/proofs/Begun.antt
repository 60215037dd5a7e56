-- What a builder holds is a begun tree.
use Rattle.widths_core.specs.Layouts.{layout}
use Rattle.std.proofs.Common.{◌≡◌, ℕ, suc, ◌+◌, ◌-◌, ◌≤◌, Bool, true, false, List, [], ◌∷◌}
use Rattle.std.proofs.Common.{◌++◌, length, map, Option, Some, None, refl, sym, ap, flat_map, subst}
use Rattle.std.proofs.Common.{◌∙◌, append_assoc, arith, inl, inr, length-append}
use Rattle.std.specs.Prelude.{nat_lt, if◌then◌else◌}
use Rattle.std.proofs.lemmas.Bool.{lt-ltb, le-ltb, ltb-true, ltb-false}
use Rattle.std.proofs.lemmas.List.{append-nil, map-append, length-map}
use Rattle.std.proofs.lemmas.Simd.{map-map}
use Rattle.std.proofs.lemmas.Option.{same_Some}
use Rattle.std.proofs.lemmas.List.Folds.{flat_map-map}
use Rattle.scale_core.specs.Number.{AreBytes}
use Rattle.types_core.specs.declared.type_info.TypeInfo.{TypeInfo}
use Rattle.graph_core.specs.Types.{shape}
use Rattle.grammar_core.specs.Tree.{Tree, Trees, nodes, all_nodes}
use Rattle.grammar_core.specs.Preorder as head
use Rattle.grammar_core.specs.Preorder.{Head, preorder, all_preorder}
use Rattle.grammar_core.specs.Parts.{each, times, first_of, left_after}
use Rattle.grammar_core.specs.Cells.{Cell, cells, all_cells}
use Rattle.grammar_core.specs.Begun.{Begun, nothing, whole, open_branch, IsPart, Grows}
use Rattle.grammar_core.specs.Begun.{begun_preorder, begun_nodes, begun_text_bytes}
use Rattle.grammar_core.specs.Spelled.{own_bytes, cell_bytes}
use Rattle.grammar_core.specs.Forms.{next_at}
use Rattle.grammar_core.specs.declared.form.StopReason.TheVariants as stop
use Rattle.grammar_core.specs.declared.form.Next.TheVariants as next
use Rattle.grammar_core.proofs.Begun.{begun_trees_fit}
use Rattle.node_core.specs.Shown.{cell_shown, cells_shown}
use Rattle.value_core.specs.OpenNodes.{path_of}
use Rattle.value_core.specs.Spine.{OpenNode, open_cells, open_part, Spine}
use Rattle.value_core.specs.declared.open_nodes.PathStep.{PathStep}
use Rattle.grammar_core.specs.Cells.{part_of}
use Rattle.value_core.specs.Walked.{OpenPart, Walked}
use Rattle.value_core.specs.Built.{Pieces, IsSettled, entries_shown}
use Rattle.grammar_core.specs.Preorder.{Entry}
use Rattle.value_core.specs.Built.{settled_in}
use Rattle.value_core.specs.Building.{IsPaid, IsBuilding}
use Rattle.value_core.specs.Refusals.{is_whole_in}
use Rattle.value_core.specs.Begun.{IsBegun, next_in}
use Rattle.node_core.specs.declared.node.Node.{Node}
use Rattle.node_core.proofs.CellsOf.{bare_heads, cells_length, all_cells_length, cells_preorder}
use Rattle.node_core.proofs.CellsOf.{all_cells_preorder}
use Rattle.value_core.proofs.Finished.{heads_text, heads_text-append, text_of_preorder}
use Rattle.value_core.proofs.Finished.{text_of_all_preorder, text_of_entries}
use Rattle.value_core.proofs.OwnBytes.{spine_bytes}
use Rattle.value_core.proofs.Paths.{path_opened, spine_path, step_of}
use Rattle.value_core.proofs.Spines.{is_cons, spine_is_whole, spine_length}

-- ---- all open nodes

-- a begun tree of which something is missing, with these nodes and bytes and this path
abbrev pub BegunAs : List TypeInfo → ℕ → ℕ → List Head → List ℕ → Option (ℕ × ℕ) →
    List PathStep → Type 0
BegunAs r top t hs own next path = (g : Begun) × Grows r top t g own next × IsPart g
    × (hs ≡ begun_preorder g) × (path_of r t g ≡ path)

-- the innermost open node, its whole children and what follows stand after the nodes before it
heads_after : (r : List TypeInfo) (o : OpenNode) (cs cs1 : List Cell) (hs : List Head) →
    cs ≡ cs1 ++ open_cells r o →
    bare_heads cs ++ hs ≡ bare_heads cs1 ++ (head.branch o.kind o.all ∷ (all_preorder o.done ++ hs))
heads_after r o cs cs1 hs e =
    ap (λ (x : List Cell). bare_heads x ++ hs) e
    ∙ ap (λ (x : List Head). x ++ hs) (map-append (λ (c : Cell). c.head) cs1 (open_cells r o))
    ∙ append_assoc (bare_heads cs1) (bare_heads (open_cells r o)) hs
    ∙ ap (λ (x : List Head). bare_heads cs1 ++ (head.branch o.kind o.all ∷ (x ++ hs)))
    (all_cells_preorder r (part_of (layout r o.ty) o.kind o.all) o.done)

-- a begun tree where a type is next makes one begun tree of all open nodes around it
plugged : (r : List TypeInfo) (top room t : ℕ) (os : List OpenNode) (f : OpenPart)
    (fs : List OpenPart) (cs : List Cell) (own : List ℕ) (w : ℕ) (g : Begun) (c : List ℕ)
    (next : Option (ℕ × ℕ)) → room + length os ≡ top → Spine r room t os (f ∷ fs) cs own →
    first_of f.left ≡ Some w → Grows r room w g c next → IsPart g →
    BegunAs r top t (bare_heads cs ++ begun_preorder g) (own ++ c) next
    (spine_path os ++ path_of r w g)
unfolding Grows
plugged r top room t [] f fs cs own w g c next e (inl h) first k part =
    let parts = is_cons f (open_part 0 (times 1 t)) fs [] h.0 in
    let same : t ≡ w = same_Some t w (sym (ap (λ (x : OpenPart). first_of x.left) parts.0)
    ∙ first) in
    let level : top ≡ room = omega (arith, e) in
    (g, rw (h.2, same, level) k, part, rw h.1 refl, rw same refl)
plugged r top room t [] f fs cs own w g c next e (inr h) first k part =
    let parts = is_cons f (open_part 0 (times 0 t)) fs [] h.1 in
    let no : None ≡ Some w = sym (ap (λ (x : OpenPart). first_of x.left) parts.0) ∙ first in
    absurd cc
plugged r top room t (o ∷ os) f fs cs own w g c next e h first k part =
    let parts = is_cons f (open_part (length h.4) h.0) fs (open_part h.2 (left_after h.1) ∷ h.3)
    h.6 in
    let is_next = sym (ap (λ (x : OpenPart). first_of x.left) parts.0) ∙ first in
    let g' = plugged r top (suc room) t os (open_part h.2 h.1) h.3 h.4 h.5 o.ty
    (open_branch o.kind o.all o.done g) (o.own ++ c) next (omega (arith, e)) h.8 h.7
    (h.0, w, o.own, c, h.9.0, h.9.1, h.10, is_next, refl, part, k) tt in
    let shows = heads_after r o cs h.4 (begun_preorder g) h.11 ∙ g'.3 in
    let path = g'.4 ∙ ap (λ (x : List PathStep). spine_path os ++ x)
    (path_opened r o h.0 w g h.9 is_next)
    ∙ sym (append_assoc (spine_path os) (step_of o ∷ []) (path_of r w g)) in
    (g'.0, rw (h.12, append_assoc) g'.1, g'.2, shows, path)

-- nodes, bytes and path of a begun tree may be replaced by equal ones
same_begun : (r : List TypeInfo) (top t : ℕ) (hs hs' : List Head) (own own' : List ℕ)
    (next : Option (ℕ × ℕ)) (path path' : List PathStep) → hs ≡ hs' → own ≡ own' →
    path ≡ path' → BegunAs r top t hs own next path → BegunAs r top t hs' own' next path'
same_begun r top t hs hs' own own' next path path' e f p h =
    (h.0, rw (← f) h.1, h.2, rw (← e) h.3, h.4 ∙ p)

-- where a type is next, the nodes so far are those of a begun tree that wants it
pub spine_is_begun : (r : List TypeInfo) (top room t : ℕ) (os : List OpenNode) (f : OpenPart)
    (fs : List OpenPart) (cs : List Cell) (own : List ℕ) (u : ℕ) → room + length os ≡ top →
    Spine r room t os (f ∷ fs) cs own → first_of f.left ≡ Some u →
    BegunAs r top t (bare_heads cs) own (Some (room, u)) (spine_path os)
unfolding Grows
spine_is_begun r top room t os f fs cs own u e h first =
    let g = plugged r top room t os f fs cs own u nothing [] (Some (room, u)) e h first
    (refl, refl) tt in
    same_begun r top t (bare_heads cs ++ []) (bare_heads cs) (own ++ []) own (Some (room, u))
    (spine_path os ++ []) (spine_path os) (append-nil (bare_heads cs)) (append-nil own)
    (append-nil (spine_path os)) g

-- ---- its counts

-- the list of a tree's nodes is as long as the tree has nodes
pub preorder_length : (v : Tree) → length (preorder v) ≡ nodes v
preorder_length v = ap length (sym (cells_preorder [] 0 v))
    ∙ length-map (cells [] 0 v) (λ (c : Cell). c.head) ∙ cells_length [] 0 v

-- the list of the nodes of several trees is as long as they have nodes
all_preorder_length : (vs : Trees) → length (all_preorder vs) ≡ all_nodes vs
all_preorder_length vs = ap length (sym (all_cells_preorder [] (each []) vs))
    ∙ length-map (all_cells [] (each []) vs) (λ (c : Cell). c.head)
    ∙ all_cells_length [] (each []) vs

abbrev pub Counts : Begun → List Head → Type 0
Counts g hs = (length hs ≡ begun_nodes g) × (heads_text hs ≡ begun_text_bytes g)

-- the nodes of a begun tree are as many as it reports, and so are their bytes of text
counted : (g : Begun) → Counts g (begun_preorder g)
counted nothing = (refl, refl)
counted (whole v) = (preorder_length v, text_of_preorder v)
counted (open_branch k n vs g) =
    let below = counted g in
    let rest = begun_preorder g in (
      omega (arith, length-append (all_preorder vs) rest, all_preorder_length vs, below.0),
      omega (arith, heads_text-append (all_preorder vs) rest, text_of_all_preorder vs, below.1),
    )

-- the same for nodes that are known to be its own
pub counts : (g : Begun) (hs : List Head) → hs ≡ begun_preorder g → Counts g hs
counts g hs h = rw h (counted g)

-- ---- what the walk says

-- where only whole nodes are closed, a type is next in the innermost that is open
pub settled_short : (fs : List OpenPart) → length (settled_in fs) ≤ length fs
settled_short [] = omega arith
settled_short (f ∷ []) = omega arith
settled_short (f ∷ g ∷ fs) = by (first_of f.left) refl (settled_short (g ∷ fs)) where
  by : (x : Option ℕ) → first_of f.left ≡ x → length (settled_in (g ∷ fs)) ≤ length (g ∷ fs) →
      length (settled_in (f ∷ g ∷ fs)) ≤ length (f ∷ g ∷ fs)
  by (Some u) e h = rw (e, settled_in) (omega arith)
  by None e h = rw (e, settled_in) (omega (arith, h))

-- where nothing is to be closed and a node is open, a type is next in the innermost
pub innermost : (f g : OpenPart) (fs : List OpenPart) →
    settled_in (f ∷ g ∷ fs) ≡ f ∷ g ∷ fs → (u : ℕ) × (first_of f.left ≡ Some u)
innermost f g fs h = by (first_of f.left) refl where
  by : (x : Option ℕ) → first_of f.left ≡ x → (u : ℕ) × (first_of f.left ≡ Some u)
  by (Some u) e = (u, e)
  by None e =
      let less : settled_in (f ∷ g ∷ fs) ≡ settled_in (g ∷ fs) = rw (e, settled_in) refl in
      absurd (omega (arith, ap length less, ap length h, settled_short (g ∷ fs)))

-- what comes next by the number of open parts is what comes next by the room that is left
answer_is : (r : List TypeInfo) (limit parts u : ℕ) →
    (if nat_lt (limit + 1) parts then next.Stop stop.TooDeep else next_at r u)
    ≡ next_in r (Some (limit + 2 - parts, u))
answer_is r limit parts u = by (nat_lt (limit + 1) parts) refl where
  by : (deep : Bool) → nat_lt (limit + 1) parts ≡ deep →
      (if nat_lt (limit + 1) parts then next.Stop stop.TooDeep else next_at r u)
      ≡ next_in r (Some (limit + 2 - parts, u))
  by true e = rw (e, le-ltb 0 (limit + 2 - parts) (omega (arith, ltb-true (limit + 1) parts e)))
      refl
  by false e = rw (e, lt-ltb 0 (limit + 2 - parts) (omega (arith, ltb-false (limit + 1) parts e)))
      refl

-- ---- what a builder holds

-- nodes are the same by themselves, whether shown with their types or with sizes as well
pub heads_are : (pool : List ℕ) (ns : List Node) →
    map (λ (e : Entry). e.head) (entries_shown pool ns) ≡ bare_heads (cells_shown pool ns)
heads_are pool ns = map-map (λ (e : Entry). e.head) _ ns ∙ sym (map-map (λ (c : Cell). c.head) _ ns)

-- the bytes of nodes shown with their types are those of the same nodes shown with sizes
pub own_is : (r : List TypeInfo) (pool : List ℕ) (ns : List Node) (own : List ℕ) →
    flat_map (cell_bytes r) (cells_shown pool ns) ≡ own →
    flat_map (λ (e : Entry). own_bytes (shape r e.ty) e.head) (entries_shown pool ns) ≡ own
own_is r pool ns own e = flat_map-map _ _ ns
    ∙ sym (flat_map-map (cell_bytes r) (cell_shown pool) ns) ∙ e

-- as many nodes are shown as are kept
entries_length : (pool : List ℕ) (ns : List Node) → length (entries_shown pool ns) ≡ length ns
entries_length pool ns = length-map ns _

-- where a type is next
part_begun : (ty : ℕ) (types : List TypeInfo) (limit : ℕ) (f : OpenPart) (fs : List OpenPart)
    (pool : List ℕ) (ns : List Node) (text_len : ℕ) (run : Option Pieces) (turns : ℕ) (u : ℕ) →
    IsBuilding ty (record { types = types; limit = limit; frames = f ∷ fs }) pool ns text_len →
    IsPaid (record { types = types; limit = limit; frames = f ∷ fs }) ns turns →
    first_of f.left ≡ Some u →
    IsBegun (record {
      ty = ty;
      walk = record { types = types; limit = limit; frames = f ∷ fs };
      entries = entries_shown pool ns;
      run = run;
      turns = turns;
    })
part_begun ty types limit f fs pool ns text_len run turns u b paid e =
    let parts = spine_length types b.room ty b.opens (f ∷ fs) (cells_shown pool ns) b.own b.spine in
    let g = spine_is_begun types (limit + 1) b.room ty b.opens f fs (cells_shown pool ns) b.own u
    (omega (arith, b.level, parts)) b.spine e in
    let left : limit + 2 - length (f ∷ fs) ≡ b.room = omega (arith, b.level) in
    let fit = (begun_trees_fit types (limit + 1) ty g.0 b.own (Some (b.room, u)) g.1).1 b.room u
    refl in
    let own = own_is types pool ns b.own
    (spine_bytes types b.room ty b.opens (f ∷ fs) (cells_shown pool ns) b.own b.are_bytes
    b.spine) in
    let count = counts g.0 (bare_heads (cells_shown pool ns)) g.3 in
    record {
      tree = g.0;
      are_bytes = subst AreBytes (sym own) b.are_bytes;
      grows = rw (e, left, own) g.1;
      shows = heads_are pool ns ∙ g.3;
      nodes = sym (length-map (entries_shown pool ns) (λ (x : Entry). x.head))
          ∙ ap length (heads_are pool ns) ∙ count.0;
      text_bytes = text_of_entries pool ns ∙ count.1;
      answer = rw e (answer_is types limit (length (f ∷ fs)) u);
      depth = rw e (omega (arith, fit.1, b.level));
      whole = missing f fs e ∙ sym fit.0;
      turns = omega (arith, paid, entries_length pool ns);
    } where
      missing : (f : OpenPart) (fs : List OpenPart) → first_of f.left ≡ Some u →
          is_whole_in (f ∷ fs) ≡ false
      missing f [] e = rw e refl
      missing f (g ∷ fs) e = refl

-- where nothing is missing
whole_begun : (ty : ℕ) (types : List TypeInfo) (limit : ℕ) (f : OpenPart) (pool : List ℕ)
    (ns : List Node) (text_len : ℕ) (run : Option Pieces) (turns : ℕ) →
    IsBuilding ty (record { types = types; limit = limit; frames = f ∷ [] }) pool ns text_len →
    IsPaid (record { types = types; limit = limit; frames = f ∷ [] }) ns turns →
    first_of f.left ≡ None →
    IsBegun (record {
      ty = ty;
      walk = record { types = types; limit = limit; frames = f ∷ [] };
      entries = entries_shown pool ns;
      run = run;
      turns = turns;
    })
unfolding Grows
whole_begun ty types limit f pool ns text_len run turns b paid e = by b.opens refl where
  by : (os : List OpenNode) → b.opens ≡ os →
      IsBegun (record {
        ty = ty;
        walk = record { types = types; limit = limit; frames = f ∷ [] };
        entries = entries_shown pool ns;
        run = run;
        turns = turns;
      })
  by [] o =
      let spine : Spine types b.room ty [] (f ∷ []) (cells_shown pool ns) b.own =
      subst (λ (x : List OpenNode). Spine types b.room ty x (f ∷ []) (cells_shown pool ns)
      b.own) o b.spine in
      let v = spine_is_whole types b.room ty f (cells_shown pool ns) b.own spine e in
      let shows : bare_heads (cells_shown pool ns) ≡ preorder v.0 = ap bare_heads v.1
      ∙ cells_preorder types ty v.0 in
      let own = own_is types pool ns b.own
      (spine_bytes types b.room ty b.opens (f ∷ []) (cells_shown pool ns) b.own b.are_bytes
      b.spine) in
      let count = counts (whole v.0) (bare_heads (cells_shown pool ns)) shows in
      record {
        tree = whole v.0;
        are_bytes = subst AreBytes (sym own) b.are_bytes;
        grows = (rw own v.2, omega (arith, v.3, b.level), rw e refl);
        shows = heads_are pool ns ∙ shows;
        nodes = sym (length-map (entries_shown pool ns) (λ (x : Entry). x.head))
            ∙ ap length (heads_are pool ns) ∙ count.0;
        text_bytes = text_of_entries pool ns ∙ count.1;
        answer = rw e refl;
        depth = rw e refl;
        whole = rw e refl;
        turns = omega (arith, paid, entries_length pool ns);
      }
  by (x ∷ os) o = absurd (omega (
    arith,
    ap length o,
    spine_length types b.room ty b.opens (f ∷ []) (cells_shown pool ns) b.own b.spine,
  ))

-- a value that is being built, with all that is whole closed, is a begun tree, by its walk's fields
begun_by : (ty : ℕ) (types : List TypeInfo) (limit : ℕ) (fs : List OpenPart) (pool : List ℕ)
    (ns : List Node) (text_len : ℕ) (run : Option Pieces) (turns : ℕ) →
    IsBuilding ty (record { types = types; limit = limit; frames = fs }) pool ns text_len →
    IsPaid (record { types = types; limit = limit; frames = fs }) ns turns → settled_in fs ≡ fs →
    IsBegun (record {
      ty = ty;
      walk = record { types = types; limit = limit; frames = fs };
      entries = entries_shown pool ns;
      run = run;
      turns = turns;
    })
begun_by ty types limit [] pool ns text_len run turns b paid s =
    absurd (omega (
      arith,
      spine_length types b.room ty b.opens [] (cells_shown pool ns) b.own
          b.spine,
    ))
begun_by ty types limit (f ∷ []) pool ns text_len run turns b paid s =
    by (first_of f.left) refl where
      by : (x : Option ℕ) → first_of f.left ≡ x →
          IsBegun (record {
            ty = ty;
            walk = record { types = types; limit = limit; frames = f ∷ [] };
            entries = entries_shown pool ns;
            run = run;
            turns = turns;
          })
      by (Some u) e = part_begun ty types limit f [] pool ns text_len run turns u b paid e
      by None e = whole_begun ty types limit f pool ns text_len run turns b paid e
begun_by ty types limit (f ∷ g ∷ fs) pool ns text_len run turns b paid s = let u =
    innermost f g fs s in part_begun ty types limit f (g ∷ fs) pool ns text_len run turns u.0 b
    paid u.1

-- a value that is being built, with all that is whole closed, is a begun tree with its counts
pub is_begun : (ty : ℕ) (w : Walked) (pool : List ℕ) (ns : List Node) (text_len : ℕ)
    (run : Option Pieces) (turns : ℕ) → IsBuilding ty w pool ns text_len → IsPaid w ns turns →
    IsSettled w → IsBegun (record {
      ty = ty;
      walk = w;
      entries = entries_shown pool ns;
      run = run;
      turns = turns;
    })
is_begun ty w pool ns text_len run turns b paid s =
    begun_by ty w.types w.limit w.frames pool ns text_len run turns b paid
    (ap (λ (x : Walked). x.frames) s)
