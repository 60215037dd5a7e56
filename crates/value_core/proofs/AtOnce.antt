-- A node that is whole as soon as it is added, with its one part or without any, takes no place
-- among the open ones.
use Rattle.std.proofs.Common.{◌≡◌, ℕ, ◌+◌, List, [], ◌∷◌, ◌++◌, length, Option, Some, None}
use Rattle.std.proofs.Common.{refl, sym, ap, subst, ◌∙◌, append_assoc, arith, length-append}
use Rattle.std.specs.Prelude.{slice_get, slice_set, IfSome}
use Rattle.std.proofs.lemmas.List.{length-map, map-append}
use Rattle.std.proofs.lemmas.Option.{same_Some}
use Rattle.types_core.specs.declared.type_id.TypeId.{TypeId}
use Rattle.widths_core.specs.Layouts.{Layout}
use Rattle.widths_core.specs.Layouts as layout
use Rattle.grammar_core.specs.Cells.{fields_part}
use Rattle.grammar_core.specs.Parts.{Part, each, first_of, how_many_left}
use Rattle.grammar_core.specs.Preorder.{Head}
use Rattle.grammar_core.specs.Preorder as head
use Rattle.grammar_core.specs.Tree as tree
use Rattle.node_core.specs.Leaves.{leaf_head, leaf_text_bytes, IsAppended, IsLeafKept}
use Rattle.node_core.specs.Shown.{all_kept, head_shown, size_shown}
use Rattle.node_core.specs.declared.leaf.Leaf.{Leaf}
use Rattle.node_core.specs.declared.node.Content.{Content}
use Rattle.node_core.specs.declared.node.Node.{Node}
use Rattle.value_core.specs.Begun.{IsBegun}
use Rattle.value_core.specs.Building.{IsBuilding, IsPaid}
use Rattle.value_core.specs.Built.{Built, Pieces, IsNextLeaf, IsNextOpen, IsSettled}
use Rattle.grammar_core.specs.Preorder.{Entry}
use Rattle.value_core.specs.Built.{closings, entries_shown, settled_in, settled_walk, type_or_0}
use Rattle.value_core.specs.Built.{next_layout, with_fields, with_leaf, with_open}
use Rattle.value_core.specs.Opened.{OpensFields}
use Rattle.value_core.specs.Spine.{open_part}
use Rattle.value_core.specs.Walked.{Closes, OpenPart, Walked, advanced, advanced_in, first_in}
use Rattle.value_core.specs.Walked.{next_of, next_type, opened}
use Rattle.value_core.proofs.Adding.{kept_snoc, open_added, open_shown}
use Rattle.value_core.proofs.Ahead.{type_at}
use Rattle.value_core.proofs.Begun.{is_begun, settled_short}
use Rattle.value_core.proofs.Closing.{advanced_length, closing_settles, open_paid, same}
use Rattle.value_core.proofs.Closing.{settled_step, with_size}
use Rattle.value_core.proofs.Leaves.{leaf_appended}
use Rattle.value_core.proofs.NextOpen.{laid_next}

-- a node stands where it was put
get_at : (ns : List Node) (n : Node) (ms : List Node) →
    slice_get (ns ++ n ∷ ms) (length ns) ≡ Some n
get_at [] n ms = refl
get_at (m ∷ ns) n ms = get_at ns n ms

-- and another in its place stands there
set_at : (ns : List Node) (n : Node) (ms : List Node) (x : Node) →
    slice_set (ns ++ n ∷ ms) (length ns) x ≡ ns ++ x ∷ ms
set_at [] n ms x = refl
set_at (m ∷ ns) n ms x = ap (λ (l : List Node). m ∷ l) (set_at ns n ms x)

-- where a type is next, something is open, and stays so when the next node is there
some_open : (w : Walked) (u : ℕ) → next_type w ≡ Some u → (advanced w).frames ≡ [] → ⊥
some_open w u e = by w.frames e where
  by : (fs : List OpenPart) → first_in fs ≡ Some u → advanced_in fs ≡ [] → ⊥
  by [] first none = absurd cc
  by (o ∷ os) first none = absurd cc

-- a node of which nothing is to come closes at once
closes_at : (w : Walked) (place u : ℕ) (p : Part) → next_type w ≡ Some u → first_of p ≡ None →
    Closes (opened (advanced w) place p) (advanced w) place
closes_at w place u p e none = record {
  part = p;
  whole = none;
  frames = refl;
  not_root = some_open w u e;
  types = refl;
  limit = refl;
}

-- what is settled then is what is where it was never open
settled_at : (w : Walked) (place u : ℕ) (p : Part) → next_type w ≡ Some u → first_of p ≡ None →
    settled_walk (opened (advanced w) place p) ≡ settled_walk (advanced w)
settled_at w place u p e none =
    rw (settled_step place p (advanced w).frames (some_open w u e) none) refl

-- with one turn more
closings_at : (w : Walked) (place u turns : ℕ) (p : Part) → next_type w ≡ Some u →
    first_of p ≡ None → turns + closings (opened (advanced w) place p).frames
    ≡ turns + 1 + closings (advanced w).frames
closings_at w place u turns p e none =
    omega (
      arith,
      ap length (settled_step place p (advanced w).frames (some_open w u e) none),
      settled_short (advanced w).frames,
    )

-- a value with the next node, of which it is known where the walk goes on, and in which turn
abbrev built_with : Built → Walked → Head → ℕ → ℕ → Built
built_with b w h u turns = record {
  ty = b.ty;
  walk = w;
  entries = b.entries ++ record { ty = u; head = h } ∷ [];
  run = b.run;
  turns = turns;
}

-- a node that is opened
open_is : (b : Built) (h : Head) (p : Part) (w : Walked) (u turns : ℕ) →
    next_type b.walk ≡ Some u → settled_walk (opened (advanced b.walk) (length b.entries) p) ≡ w →
    b.turns + closings (opened (advanced b.walk) (length b.entries) p).frames ≡ turns →
    with_open b h p ≡ built_with b w h u turns
open_is b h p w u turns e settles counts = rw (← settles, ← counts, e) refl

-- a node without parts
pub childless_is : (b : Built) (h : Head) (p : Part) (u : ℕ) → next_type b.walk ≡ Some u →
    first_of p ≡ None → with_open b h p
    ≡ built_with b (settled_walk (advanced b.walk)) h u
    (b.turns + 1 + closings (advanced b.walk).frames)
childless_is b h p u e none =
    open_is b h p (settled_walk (advanced b.walk)) u
    (b.turns + 1 + closings (advanced b.walk).frames) e
    (settled_at b.walk (length b.entries) u p e none)
    (closings_at b.walk (length b.entries) u b.turns p e none)

-- a node of which a part is to come stays open
stays_open : (place t : ℕ) (ts : List ℕ) (fs : List OpenPart) →
    settled_in (open_part place (each (t ∷ ts)) ∷ fs) ≡ open_part place (each (t ∷ ts)) ∷ fs
stays_open place t ts [] = refl
stays_open place t ts (f ∷ fs) = refl

-- a node of which parts are to come is the innermost one, and none is closed
pub stays_is : (b : Built) (h : Head) (t u : ℕ) (ts : List ℕ) → next_type b.walk ≡ Some u →
    with_open b h (each (t ∷ ts))
    ≡ built_with b (opened (advanced b.walk) (length b.entries) (each (t ∷ ts))) h u b.turns
stays_is b h t u ts e =
    let stays = stays_open (length b.entries) t ts (advanced b.walk).frames in
    open_is b h (each (t ∷ ts)) (opened (advanced b.walk) (length b.entries) (each (t ∷ ts))) u
    b.turns e (rw stays refl) (omega (arith, ap length stays))

-- a node of one part, and that part
pub around_is : (b : Built) (h g : Head) (t u : ℕ) → next_type b.walk ≡ Some u →
    with_leaf (with_open b h (each (t ∷ []))) g
    ≡ built_with (built_with b (advanced b.walk) h u b.turns) (settled_walk (advanced b.walk)) g t
    (b.turns + 1 + closings (advanced b.walk).frames)
around_is b h g t u e =
    let w = opened (advanced b.walk) (length b.entries) (each (t ∷ [])) in
    ap (λ (x : Built). with_leaf x g) (stays_is b h t u [] e)
    ∙ leaf_is (built_with b w h u b.turns) (settled_walk (advanced b.walk))
    (b.turns + 1 + closings (advanced b.walk).frames)
    (settled_at b.walk (length b.entries) u (each []) e refl)
    (closings_at b.walk (length b.entries) u b.turns (each []) e refl) where
      leaf_is : (x : Built) (w : Walked) (turns : ℕ) → settled_walk (advanced x.walk) ≡ w →
          x.turns + closings (advanced x.walk).frames ≡ turns →
          with_leaf x g ≡ built_with x w g (type_or_0 (next_type x.walk)) turns
      leaf_is x w turns settles counts = rw (← settles, ← counts) refl

-- ---- what is built

-- a node that was opened and has its size shows as what it was opened as
entries_at : (pool : List ℕ) (ns : List Node) (n : Node) (k : ℕ) (w : Walked) (p : Part) →
    IsNextOpen w (head_shown [] n.children n.content) p →
    entries_shown pool (ns ++ with_size n k ∷ [])
    ≡ entries_shown pool ns
    ++ record { ty = n.ty.0; head = head_shown [] n.children n.content } ∷ []
entries_at pool ns n k w p l =
    let shown = open_shown pool n.children n.content l.kind _ l.head_is in
    map-append _ ns (with_size n k ∷ [])
    ∙ rw ((same pool n.children n.content k).head, shown.same) refl

-- nor does it keep anything in the pool then
pub sized_kept : (w : Walked) (ns : List Node) (n : Node) (k : ℕ) (p : Part) →
    IsNextOpen w (head_shown [] n.children n.content) p →
    all_kept (ns ++ with_size n k ∷ []) ≡ all_kept ns
sized_kept w ns n k p l =
    let shown = open_shown [] n.children n.content l.kind (how_many_left p) l.head_is in
    omega (
      arith,
      kept_snoc ns (with_size n k),
      (same [] n.children n.content k).kept,
      shown.none_kept,
    )

-- a node without parts, which has its size
pub childless : (ty : ℕ) (w : Walked) (pool : List ℕ) (ns : List Node) (n : Node) (text_len : ℕ)
    (p : Part) (b : IsBuilding ty w pool ns text_len)
    (l : IsNextOpen w (head_shown [] n.children n.content) p) → n.ty.0 ≡ l.ty →
    size_shown n.content ≡ 0 → first_of p ≡ None →
    IsBuilding ty (advanced w) pool (ns ++ with_size n 1 ∷ []) text_len
    × (entries_shown pool (ns ++ with_size n 1 ∷ []) ≡ entries_shown pool ns
    ++ record { ty = n.ty.0; head = head_shown [] n.children n.content } ∷ [])
childless ty w pool ns n text_len p b l at size none =
    let begun = open_added ty w pool ns n text_len p b l at size in
    let s = closing_settles (opened (advanced w) (length ns) p) (advanced w) (ns ++ n ∷ []) n 1
    (length ns) (get_at ns n []) (omega (arith, length-append ns (n ∷ [])))
    (closes_at w (length ns) l.ty p l.next none) in (
      subst (λ (x : List Node). IsBuilding ty (advanced w) pool x text_len)
          (set_at ns n [] (with_size n 1)) (s.builds ty pool text_len begun),
      entries_at pool ns n 1 w p l,
    )

-- one node is there, and one turn closed it
pub childless_paid : (w : Walked) (ns : List Node) (n : Node) (turns : ℕ) → IsPaid w ns turns →
    IsPaid (advanced w) (ns ++ n ∷ []) (turns + 1)
childless_paid w ns n turns p =
    omega (arith, p, advanced_length w.frames, length-append ns (n ∷ []))

-- the part of a node of one part
abbrev pub part_node : TypeId → Content → Node
part_node t c = record { ty = t; children = 0; content = c }

-- a node of one part, with its size, and that part
pub around : (ty : ℕ) (w : Walked) (pool new_pool : List ℕ) (ns : List Node) (n : Node)
    (text_len : ℕ) (t : TypeId) (leaf : Leaf) (c : Content) (b : IsBuilding ty w pool ns text_len)
    (o : IsNextOpen w (head_shown [] n.children n.content) (each (t.0 ∷ []))) → n.ty.0 ≡ o.ty →
    size_shown n.content ≡ 0 →
    IsNextLeaf (opened (advanced w) (length (entries_shown pool ns)) (each (t.0 ∷ [])))
    (leaf_head leaf) → IsLeafKept leaf pool new_pool c →
    IsBuilding ty (advanced w) new_pool ((ns ++ with_size n 2 ∷ []) ++ part_node t c ∷ [])
    (text_len + leaf_text_bytes leaf)
    × (entries_shown new_pool ((ns ++ with_size n 2 ∷ []) ++ part_node t c ∷ [])
    ≡ (entries_shown pool ns
    ++ record { ty = n.ty.0; head = head_shown [] n.children n.content } ∷ [])
    ++ record { ty = t.0; head = leaf_head leaf } ∷ [])
around ty w pool new_pool ns n text_len t leaf c b o at size next kept =
    let p = each (t.0 ∷ []) in
    let x = part_node t c in
    let begun = open_added ty w pool ns n text_len p b o at size in
    let next_leaf : IsNextLeaf (opened (advanced w) (length ns) p) (leaf_head leaf) =
    subst (λ (k : ℕ). IsNextLeaf (opened (advanced w) k p) (leaf_head leaf)) (length-map ns _)
    next in
    let appended : IsAppended t leaf (ns ++ n ∷ []) pool ((ns ++ n ∷ []) ++ x ∷ []) new_pool =
    record { content = c; nodes_are = refl; kept = kept } in
    let with = leaf_appended ty (opened (advanced w) (length ns) p) leaf pool new_pool
    (ns ++ n ∷ []) ((ns ++ n ∷ []) ++ x ∷ []) text_len t begun next_leaf refl appended in
    let flat = append_assoc ns (n ∷ []) (x ∷ []) in
    let s = closing_settles (opened (advanced w) (length ns) (each [])) (advanced w)
    (ns ++ n ∷ x ∷ []) n 2 (length ns) (get_at ns n (x ∷ []))
    (omega (arith, length-append ns (n ∷ x ∷ [])))
    (closes_at w (length ns) o.ty (each []) o.next refl) in
    let set : slice_set (ns ++ n ∷ x ∷ []) (length ns) (with_size n 2)
    ≡ (ns ++ with_size n 2 ∷ []) ++ x ∷ [] = set_at ns n (x ∷ []) (with_size n 2)
    ∙ sym (append_assoc ns (with_size n 2 ∷ []) (x ∷ [])) in (
      subst (λ (y : List Node). IsBuilding ty (advanced w) new_pool y
          (text_len + leaf_text_bytes leaf)) set
          (s.builds ty new_pool (text_len + leaf_text_bytes leaf)
          (subst (λ (y : List Node).
          IsBuilding ty (opened (advanced w) (length ns) (each [])) new_pool y
          (text_len + leaf_text_bytes leaf)) flat with.builds)),
      ap (entries_shown new_pool) (sym set) ∙ s.entries new_pool
          ∙ ap (entries_shown new_pool) (sym flat) ∙ with.entries
          ∙ rw (
            map-append _ ns (n ∷ []),
            (open_shown pool n.children n.content o.kind _ o.head_is).same,
            ← same_Some t.0 next.ty next.next,
          ) refl,
    )

-- the pool has grown by what the part keeps there
pub around_kept : (w : Walked) (pool new_pool : List ℕ) (ns : List Node) (n : Node) (t : TypeId)
    (leaf : Leaf) (c : Content) (p : Part) → IsNextOpen w (head_shown [] n.children n.content) p →
    IsLeafKept leaf pool new_pool c →
    all_kept ((ns ++ with_size n 2 ∷ []) ++ part_node t c ∷ []) + length pool
    ≡ all_kept ns + length new_pool
around_kept w pool new_pool ns n t leaf c p l kept =
    omega (
      arith,
      kept_snoc (ns ++ with_size n 2 ∷ []) (part_node t c),
      sized_kept w ns n 2 p l,
      kept.kept,
      ap length kept.grown,
      length-append pool kept.more,
    )

-- two nodes are there, and one turn closed one
pub around_paid : (w : Walked) (ns : List Node) (n m : Node) (turns : ℕ) → IsPaid w ns turns →
    IsPaid (advanced w) ((ns ++ n ∷ []) ++ m ∷ []) (turns + 1)
around_paid w ns n m turns p =
    omega (
      arith,
      childless_paid w ns n turns p,
      length-append (ns ++ n ∷ []) (m ∷ []),
    )

-- between the two a begun tree is held
pub begun_between : (ty : ℕ) (w : Walked) (pool : List ℕ) (ns : List Node) (n : Node)
    (text_len t : ℕ) (run : Option Pieces) (turns : ℕ) (b : IsBuilding ty w pool ns text_len)
    (o : IsNextOpen w (head_shown [] n.children n.content) (each (t ∷ []))) → n.ty.0 ≡ o.ty →
    size_shown n.content ≡ 0 → IsPaid w ns turns →
    IsBegun (with_open (record {
      ty = ty;
      walk = w;
      entries = entries_shown pool ns;
      run = run;
      turns = turns;
    }) (head_shown [] n.children n.content) (each (t ∷ [])))
begun_between ty w pool ns n text_len t run turns b o at size paid =
    let p = each (t ∷ []) in
    let h = head_shown [] n.children n.content in
    let held : Walked → List Entry → Built = λ v es.
    record { ty = ty; walk = v; entries = es; run = run; turns = turns } in
    let stays : IsSettled (opened (advanced w) (length ns) p) =
    rw (stays_open (length ns) t [] (advanced w).frames) refl in
    let begun = is_begun ty (opened (advanced w) (length ns) p) pool (ns ++ n ∷ []) text_len run
    turns (open_added ty w pool ns n text_len p b o at size)
    (open_paid w ns n (length ns) turns p paid) stays in
    let entries : entries_shown pool (ns ++ n ∷ [])
    ≡ entries_shown pool ns ++ record { ty = o.ty; head = h } ∷ [] =
    map-append _ ns (n ∷ [])
    ∙ rw ((open_shown pool n.children n.content o.kind _ o.head_is).same, at) refl in
    let is : held (opened (advanced w) (length ns) p) (entries_shown pool (ns ++ n ∷ []))
    ≡ with_open (held w (entries_shown pool ns)) h p =
    ap (held (opened (advanced w) (length ns) p)) entries
    ∙ ap (λ (k : ℕ). held (opened (advanced w) k p)
    (entries_shown pool ns ++ record { ty = o.ty; head = h } ∷ [])) (sym (length-map ns _))
    ∙ sym (stays_is (held w (entries_shown pool ns)) h t o.ty [] o.next) in
    subst IsBegun is begun

-- ---- the same by the fields of a builder and how it is seen

-- a builder's fields, as it is seen
abbrev seen_as : ℕ → Walked → List ℕ → List Node → Option Pieces → ℕ → Built
seen_as ty w pool ns run turns = record {
  ty = ty;
  walk = w;
  entries = entries_shown pool ns;
  run = run;
  turns = turns;
}

-- a node that may be opened in `seen` may be opened in the equal `old`
opens_by : {old seen : Built} (h : Head) (p : Part) → old ≡ seen → IsNextOpen seen.walk h p →
    IsNextOpen old.walk h p
opens_by h p is next = subst (λ (b : Built). IsNextOpen b.walk h p) (sym is) next

-- a node without parts, of the type that the walk tells
pub childless_by : {ty : ℕ} {w : Walked} {pool : List ℕ} {ns : List Node} {text_len turns : ℕ}
    {run : Option Pieces} {seen : Built} (n : Node) (p : Part) →
    seen_as ty w pool ns run turns ≡ seen → IsBuilding ty w pool ns text_len →
    IsNextOpen seen.walk (head_shown [] n.children n.content) p →
    IfSome (next_type w) (λ x. n.ty.0 ≡ x) → size_shown n.content ≡ 0 → first_of p ≡ None →
    IsBuilding ty (advanced w) pool (ns ++ with_size n 1 ∷ []) text_len
    × (entries_shown pool (ns ++ with_size n 1 ∷ []) ≡ entries_shown pool ns
    ++ record { ty = n.ty.0; head = head_shown [] n.children n.content } ∷ [])
childless_by {ty} {w} {pool} {ns} {text_len} n p is b next told size none =
    let l = opens_by (head_shown [] n.children n.content) p is next in
    childless ty w pool ns n text_len p b l (type_at w n.ty.0 l.ty l.next told) size none

-- it is what opening it would be
pub childless_shows : {old seen : Built} (t : ℕ) (h : Head) (p : Part) → old ≡ seen →
    IsNextOpen seen.walk h p → IfSome (next_type old.walk) (λ x. t ≡ x) → first_of p ≡ None →
    built_with old (settled_walk (advanced old.walk)) h t
    (old.turns + 1 + closings (advanced old.walk).frames) ≡ with_open seen h p
childless_shows {old} t h p is next told none =
    let l = opens_by h p is next in
    ap (λ (u : ℕ). built_with old (settled_walk (advanced old.walk)) h u
    (old.turns + 1 + closings (advanced old.walk).frames)) (type_at old.walk t l.ty l.next told)
    ∙ sym (childless_is old h p l.ty l.next none)
    ∙ ap (λ (b : Built). with_open b h p) is

-- a node of one part, of the type that the walk tells, and that part
pub around_by : {ty : ℕ} {w : Walked} {pool new_pool : List ℕ} {ns : List Node}
    {text_len turns : ℕ} {run : Option Pieces} {seen : Built} {leaf : Leaf} {c : Content} (n : Node)
    (t : TypeId) → seen_as ty w pool ns run turns ≡ seen → IsBuilding ty w pool ns text_len →
    IsNextOpen seen.walk (head_shown [] n.children n.content) (each (t.0 ∷ [])) →
    IfSome (next_type w) (λ x. n.ty.0 ≡ x) → size_shown n.content ≡ 0 →
    IsNextLeaf (opened (advanced seen.walk) (length seen.entries) (each (t.0 ∷ [])))
    (leaf_head leaf) → IsLeafKept leaf pool new_pool c →
    IsBuilding ty (advanced w) new_pool ((ns ++ with_size n 2 ∷ []) ++ part_node t c ∷ [])
    (text_len + leaf_text_bytes leaf)
    × (entries_shown new_pool ((ns ++ with_size n 2 ∷ []) ++ part_node t c ∷ [])
    ≡ (entries_shown pool ns
    ++ record { ty = n.ty.0; head = head_shown [] n.children n.content } ∷ [])
    ++ record { ty = t.0; head = leaf_head leaf } ∷ [])
around_by {ty} {w} {pool} {new_pool} {ns} {text_len} {leaf = leaf} {c} n t is b next told size one
    kept =
    let p = each (t.0 ∷ []) in
    let o = opens_by (head_shown [] n.children n.content) p is next in
    let part = subst (λ (x : Built). IsNextLeaf (opened (advanced x.walk) (length x.entries) p)
    (leaf_head leaf)) (sym is) one in
    around ty w pool new_pool ns n text_len t leaf c b o (type_at w n.ty.0 o.ty o.next told) size
    part kept

-- they are what opening the node, and adding the part, would be
pub around_shows : {old seen : Built} (t part : ℕ) (h g : Head) → old ≡ seen →
    IsNextOpen seen.walk h (each (part ∷ [])) → IfSome (next_type old.walk) (λ x. t ≡ x) →
    built_with (built_with old (advanced old.walk) h t old.turns)
    (settled_walk (advanced old.walk)) g part
    (old.turns + 1 + closings (advanced old.walk).frames)
    ≡ with_leaf (with_open seen h (each (part ∷ []))) g
around_shows {old} t part h g is next told =
    let l = opens_by h (each (part ∷ [])) is next in
    ap (λ (u : ℕ). built_with (built_with old (advanced old.walk) h u old.turns)
    (settled_walk (advanced old.walk)) g part
    (old.turns + 1 + closings (advanced old.walk).frames)) (type_at old.walk t l.ty l.next told)
    ∙ sym (around_is old h g part l.ty l.next)
    ∙ ap (λ (b : Built). with_leaf (with_open b h (each (part ∷ []))) g) is

-- and between the two a begun tree is held
pub begun_by : {ty : ℕ} {w : Walked} {pool : List ℕ} {ns : List Node} {text_len turns : ℕ}
    {run : Option Pieces} {seen : Built} (n : Node) (t : ℕ) →
    seen_as ty w pool ns run turns ≡ seen → IsBuilding ty w pool ns text_len →
    IsNextOpen seen.walk (head_shown [] n.children n.content) (each (t ∷ [])) →
    IfSome (next_type w) (λ x. n.ty.0 ≡ x) → size_shown n.content ≡ 0 → IsPaid w ns turns →
    IsBegun (with_open seen (head_shown [] n.children n.content) (each (t ∷ [])))
begun_by {ty} {w} {pool} {ns} {text_len} {turns} {run} n t is b next told size paid =
    let p = each (t ∷ []) in
    let h = head_shown [] n.children n.content in
    let o = opens_by h p is next in
    subst (λ (x : Built). IsBegun (with_open x h p)) is
    (begun_between ty w pool ns n text_len t run turns b o (type_at w n.ty.0 o.ty o.next told) size
    paid)

-- ---- a composite or tuple of one part

-- its parts are those that its layout has
pub fields_are : (b : Built) (ts : List ℕ) → OpensFields b.walk (each ts) →
    with_fields b ≡ with_open b (head.branch tree.fields (length ts)) (each ts)
fields_are b ts o =
    let members : o.members ≡ ts = same_parts o.members ts (sym o.part_is) in
    let laid : next_layout b ≡ layout.fields ts = laid_next b o.ty o.next ∙ o.laid
    ∙ ap layout.fields members in
    ap (λ (l : Layout). with_open b (head.branch tree.fields (how_many_left (fields_part l)))
    (fields_part l)) laid where
      same_parts : (ts us : List ℕ) → ◌≡◌ {A = Part} (each ts) (each us) → ts ≡ us
      same_parts ts us e = cc

-- what is next in it is what is next where it is the innermost open node
pub fields_next_of : (b : Built) (t : ℕ) → OpensFields b.walk (each (t ∷ [])) →
    next_of (opened (advanced b.walk) (length b.entries) (each (t ∷ [])))
    ≡ next_of (with_fields b).walk
fields_next_of b t o =
    ap (λ (x : Built). next_of x.walk)
    (sym (fields_are b (t ∷ []) o
    ∙ stays_is b (head.branch tree.fields 1) t o.ty [] o.next))
