-- A node more: the value that is being built stays one.
use Rattle.std.proofs.Common.{◌*◌, Option, None, drop, ◌≡◌, ℕ, zero, suc, ◌+◌, ◌-◌, ◌≤◌, List, []}
use Rattle.std.proofs.Common.{◌∷◌}
use Rattle.std.proofs.Common.{◌++◌, Bool, true, false, length, take, drop, slice_range, Some, refl}
use Rattle.std.proofs.Common.{sym, ap, subst, ◌∙◌, arith, length-append}
use Rattle.std.proofs.lemmas.List.{append-nil, length-map, map-append, take-append-le}
use Rattle.std.specs.Int.{w128, from_le_bytes}
use Rattle.scale_core.specs.Number.{AreBytes}
use Rattle.scale_core.proofs.Numbers.{both_bytes}
use Rattle.types_core.specs.declared.type_info.TypeInfo.{TypeInfo}
use Rattle.grammar_core.specs.Tree.{Branch, Tree, none, levels, most_levels}
use Rattle.grammar_core.specs.Grammar.{Val}
use Rattle.grammar_core.specs.Begun.{IsOpenAs}
use Rattle.grammar_core.specs.Parts.{Part, how_many_left}
use Rattle.grammar_core.specs.Preorder as head
use Rattle.grammar_core.specs.Tree as tree
use Rattle.grammar_core.specs.Preorder.{Head, tree_with}
use Rattle.grammar_core.specs.Cells.{Cell, cells}
use Rattle.node_core.specs.Shown.{head_shown, cell_shown, cells_shown, size_shown, signed_from}
use Rattle.node_core.specs.Shown.{kept_bytes, all_kept, IsInPool, AreInPool}
use Rattle.value_core.specs.Spine.{OpenNode, open_part, open_cell, open_cells, IsOpen, Spine}
use Rattle.value_core.specs.Walked.{OpenPart, Walked, first_in, advanced, opened, next_of}
use Rattle.value_core.specs.Built.{entries_shown, head_text_bytes, entries_text_bytes}
use Rattle.grammar_core.specs.Preorder.{Entry}
use Rattle.value_core.specs.Built.{IsLeaf, IsNextLeaf, IsNextOpen}
use Rattle.value_core.specs.Building.{IsBuilding, IsOpenAt, IsOpenRun, pieces_shown}
use Rattle.value_core.specs.Refusals.{missing_at}
use Rattle.node_core.specs.declared.open_run.OpenRun.{OpenRun}
use Rattle.widths_core.specs.RunBytes.{run_bytes}
use Rattle.widths_core.specs.declared.run_kind.RunKind.{RunKind}
use Rattle.std.specs.Prelude.{IfOk, IsSome, option_map, Result, Ok}
use Rattle.std.proofs.lemmas.List.{length-drop, take_all}
use Rattle.node_core.specs.declared.node.Node.{Node}
use Rattle.node_core.specs.declared.node.Content.{Content}
use Rattle.node_core.specs.declared.node.Content.TheVariants as content
use Rattle.value_core.proofs.Spines.{Grown, value_added, node_opened}

-- what the pool has at its front stays where more is appended
range_more : (pool more : List ℕ) (start end : ℕ) → start ≤ end → end ≤ length pool →
    slice_range (pool ++ more) start end ≡ slice_range pool start end
range_more pool more start end h k =
    rw (
      range_front (pool ++ more) start end h,
      range_front pool start end h,
      take-append-le end pool more k,
    ) refl where
      nothing : (k start : ℕ) → take {A = ℕ} k [] ≡ []
      nothing zero start = refl
      nothing (suc k) start = refl

      range_front : (xs : List ℕ) (start end : ℕ) → start ≤ end →
          slice_range xs start end ≡ drop start (take end xs)
      range_front xs zero end h = ap (λ (k : ℕ). take k xs) (omega arith)
      range_front [] (suc start) zero h = absurd (omega arith)
      range_front [] (suc start) (suc end) h = nothing (suc end - suc start) start
      range_front (x ∷ xs) (suc start) zero h = absurd (omega arith)
      range_front (x ∷ xs) (suc start) (suc end) h =
          ap (λ (k : ℕ). take k (drop start xs)) (omega arith)
          ∙ range_front xs start end (omega arith)

-- a node whose bytes lie in the pool shows the same where more bytes come to the pool
head_more : (pool more : List ℕ) (n : ℕ) (c : Content) → IsInPool pool c →
    head_shown (pool ++ more) n c ≡ head_shown pool n c
head_more pool more n (content.Text len start) h =
    ap (λ (x : List ℕ). head.leaf (tree.text x))
    (range_more pool more start (start + len) (omega arith) h)
head_more pool more n (content.Bytes len start) h =
    ap (λ (x : List ℕ). head.leaf (tree.bytes x))
    (range_more pool more start (start + len) (omega arith) h)
head_more pool more n (content.Bits unused len start) h =
    ap (λ (x : List ℕ). head.leaf (tree.bits (8 * len - unused) x))
    (range_more pool more start (start + len) (omega arith) h.0)
head_more pool more n (content.LongUnsigned start) h =
    ap (λ (x : List ℕ). head.leaf (tree.unsigned (from_le_bytes w128 x)))
    (range_more pool more start (start + 16) (omega arith) h)
head_more pool more n (content.LongCompact start) h =
    ap (λ (x : List ℕ). head.leaf (tree.compact (from_le_bytes w128 x)))
    (range_more pool more start (start + 16) (omega arith) h)
head_more pool more n (content.LongSigned start) h =
    ap (λ (x : List ℕ). head.leaf (tree.signed (signed_from (from_le_bytes w128 x))))
    (range_more pool more start (start + 16) (omega arith) h)
head_more pool more n (content.Wide start) h =
    ap (λ (x : List ℕ). head.leaf (tree.wide x))
    (range_more pool more start (start + 32) (omega arith) h)
head_more pool more n _ h = refl

-- the bytes of a node that lie in the pool lie in it where more bytes come to it
within_more : (pool more : List ℕ) (c : Content) → IsInPool pool c → IsInPool (pool ++ more) c
within_more pool more (content.Text len start) h = omega (arith, h, length-append pool more)
within_more pool more (content.Bytes len start) h = omega (arith, h, length-append pool more)
within_more pool more (content.Bits unused len start) h =
    (omega (arith, h.0, length-append pool more), h.1)
within_more pool more (content.LongUnsigned start) h = omega (arith, h, length-append pool more)
within_more pool more (content.LongCompact start) h = omega (arith, h, length-append pool more)
within_more pool more (content.LongSigned start) h = omega (arith, h, length-append pool more)
within_more pool more (content.Wide start) h = omega (arith, h, length-append pool more)
within_more pool more _ h = tt

-- nodes whose bytes lie in the pool show the same, with type and size, where more come to it
cells_more : (pool more : List ℕ) (ns : List Node) → AreInPool pool ns →
    cells_shown (pool ++ more) ns ≡ cells_shown pool ns
cells_more pool more [] h = refl
cells_more pool more (n ∷ ns) h =
    rw (head_more pool more n.children n.content h.0, cells_more pool more ns h.1) refl

-- nodes whose bytes lie in the pool show the same, with their types, where more come to it
entries_more : (pool more : List ℕ) (ns : List Node) → AreInPool pool ns →
    entries_shown (pool ++ more) ns ≡ entries_shown pool ns
entries_more pool more [] h = refl
entries_more pool more (n ∷ ns) h =
    rw (head_more pool more n.children n.content h.0, entries_more pool more ns h.1) refl

-- where one node more has its bytes in the longer pool, so have all nodes
inside_more : (pool more : List ℕ) (ns : List Node) (n : Node) → AreInPool pool ns →
    IsInPool (pool ++ more) n.content → AreInPool (pool ++ more) (ns ++ n ∷ [])
inside_more pool more [] n h k = (k, tt)
inside_more pool more (m ∷ ns) n h k =
    (within_more pool more m.content h.0, inside_more pool more ns n h.1 k)

-- with one node more, there are as many bytes of text more as this node has
text_snoc : (es : List Entry) (e : Entry) →
    entries_text_bytes (es ++ e ∷ []) ≡ entries_text_bytes es + head_text_bytes e.head
text_snoc [] e = omega arith
text_snoc (x ∷ es) e = omega (arith, text_snoc es e)

-- with one node more, as many bytes more are kept in the pool as this node has there
pub kept_snoc : (ns : List Node) (n : Node) →
    all_kept (ns ++ n ∷ []) ≡ all_kept ns + kept_bytes n.content
kept_snoc [] n = omega arith
kept_snoc (m ∷ ns) n = omega (arith, kept_snoc ns n)

-- the node that is added
abbrev entry_of : ℕ → Head → Entry
entry_of t h = record { ty = t; head = h }

-- a node that is added, with its bytes in the pool, is shown after those that were there
pub entries_added : (pool more : List ℕ) (ns : List Node) (n : Node) (t : ℕ) (h : Head) →
    AreInPool pool ns → n.ty.0 ≡ t → head_shown (pool ++ more) n.children n.content ≡ h →
    entries_shown (pool ++ more) (ns ++ n ∷ []) ≡ entries_shown pool ns ++ entry_of t h ∷ []
entries_added pool more ns n t h inside e f = map-append _ ns (n ∷ [])
    ∙ rw (entries_more pool more ns inside, e, f) refl

-- the same where nodes are shown with their sizes
cells_added : (pool more : List ℕ) (ns : List Node) (n : Node) (c : Cell) → AreInPool pool ns →
    cell_shown (pool ++ more) n ≡ c →
    cells_shown (pool ++ more) (ns ++ n ∷ []) ≡ cells_shown pool ns ++ c ∷ []
cells_added pool more ns n c inside e = map-append (cell_shown (pool ++ more)) ns (n ∷ [])
    ∙ rw (cells_more pool more ns inside, e) refl

-- a node without children is the whole of its value
leaf_cells : (r : List TypeInfo) (t : ℕ) (h : Head) → IsLeaf h →
    (cells r t (tree_with h none) ≡ record { ty = t; head = h; size = 1 } ∷ [])
    × (levels (tree_with h none) ≡ 1)
leaf_cells r t (head.leaf l) h = (refl, refl)
leaf_cells r t (head.branch k n) h = absurd h

-- where a value of the next type comes, its nodes and bytes stand after those that were there
leaf_grown : (r : List TypeInfo) (room ty : ℕ) (os : List OpenNode) (fs : List OpenPart)
    (cs : List Cell) (own : List ℕ) (t : ℕ) (v : Tree) (c : List ℕ) → first_in fs ≡ Some t →
    Spine r room ty os fs cs own → Val r t v c → levels v ≤ room →
    Grown r room ty (advanced (record { types = r; limit = 0; frames = fs })).frames
    (cs ++ cells r t v) (own ++ c)
leaf_grown r room ty os [] cs own t v c e h k l = absurd cc
leaf_grown r room ty os (f ∷ fs) cs own t v c e h k l =
    value_added r room ty os f fs cs own t v c h e k l

-- when the next node is there, as many parts are open as before
advanced_length : (fs : List OpenPart) →
    length (advanced (record { types = []; limit = 0; frames = fs })).frames ≡ length fs
advanced_length [] = refl
advanced_length (f ∷ fs) = refl

-- and it has the size of one
leaf_size : (pool : List ℕ) (n : ℕ) (c : Content) → IsLeaf (head_shown pool n c) →
    size_shown c ≡ 1
leaf_size pool n (content.Fields size) h = absurd h
leaf_size pool n (content.Arm q size) h = absurd h
leaf_size pool n (content.List size) h = absurd h
leaf_size pool n _ h = refl

-- a node without children is added
pub leaf_added : (ty : ℕ) (w : Walked) (pool more : List ℕ) (ns : List Node) (n : Node)
    (text_len more_len : ℕ) (h : Head) (b : IsBuilding ty w pool ns text_len) (l : IsNextLeaf w h) →
    n.ty.0 ≡ l.ty → head_shown (pool ++ more) n.children n.content ≡ h →
    IsInPool (pool ++ more) n.content → more_len ≡ head_text_bytes h →
    all_kept ns + kept_bytes n.content ≤ length pool + length more →
    IsBuilding ty (advanced w) (pool ++ more) (ns ++ n ∷ []) (text_len + more_len)
leaf_added ty w pool more ns n text_len more_len h b l at shows within texts room =
    let leaf = leaf_cells w.types l.ty h l.leaf in
    let g = leaf_grown w.types b.room ty b.opens w.frames (cells_shown pool ns) b.own l.ty
    (tree_with h none) l.own l.next b.spine l.value (omega (arith, leaf.1, b.level, l.room)) in
    let cell : cell_shown (pool ++ more) n ≡ record { ty = l.ty; head = h; size = 1 } =
    rw (
      at,
      shows,
      leaf_size (pool ++ more) n.children n.content (subst IsLeaf (sym shows) l.leaf),
    ) refl in
    record {
      room = b.room;
      level = omega (arith, b.level, advanced_length w.frames);
      own = b.own ++ l.own;
      are_bytes = both_bytes b.own l.own b.are_bytes l.are_bytes;
      opens = g.0;
      spine = rw (cells_added pool more ns n _ b.inside cell, ← leaf.0) g.1;
      inside = inside_more pool more ns n b.inside within;
      texts = rw (entries_added pool more ns n l.ty h b.inside at shows)
          (omega (arith, b.texts, texts, text_snoc (entries_shown pool ns) (entry_of l.ty h)));
      fits = omega (arith, room, kept_snoc ns n, length-append pool more);
    }

-- ---- a node whose children come next

abbrev is_open : Head → Bool
is_open (head.branch k n) = true
is_open _ = false

-- a node that has a kind and a number of children is one with parts
kind_is_open : (kind : Branch) (n : ℕ) → is_open (head.branch kind n) ≡ true
kind_is_open k n = refl

-- it is kept by no bytes of the pool
pub record IsApart (pool : List ℕ) (n : ℕ) (c : Content) : Type 0 where
  pub same : head_shown pool n c ≡ head_shown [] n c
  pub inside : IsInPool pool c
  pub none_kept : kept_bytes c ≡ 0

-- a node that shows as one with parts keeps nothing in the pool
open_by : (pool : List ℕ) (n : ℕ) (c : Content) → is_open (head_shown [] n c) ≡ true →
    IsApart pool n c
open_by pool n (content.Fields size) e = record { same = refl; inside = tt; none_kept = refl }
open_by pool n (content.Arm q size) e = record { same = refl; inside = tt; none_kept = refl }
open_by pool n (content.List size) e = record { same = refl; inside = tt; none_kept = refl }
open_by pool n _ e = absurd cc

-- the same, where its kind and its number of children are known by an equation
pub open_shown : (pool : List ℕ) (children : ℕ) (c : Content) (kind : Branch) (n : ℕ) →
    head_shown [] children c ≡ head.branch kind n → IsApart pool children c
open_shown pool children c kind n e = open_by pool children c (ap is_open e ∙ kind_is_open kind n)

-- it keeps nothing in the pool where it is the next node
pub open_kept : (w : Walked) (ns : List Node) (n : Node) (p : Part) →
    IsNextOpen w (head_shown [] n.children n.content) p → all_kept (ns ++ n ∷ []) ≡ all_kept ns
open_kept w ns n p l =
    let shown = open_shown [] n.children n.content l.kind (how_many_left p) l.head_is in
    omega (arith, kept_snoc ns n, shown.none_kept)

-- a node with parts has no bytes of text of its own
kind_text : (kind : Branch) (n : ℕ) → head_text_bytes (head.branch kind n) ≡ 0
kind_text k n = refl

-- where a node of the next type opens, it is the innermost, and its cells come after the others
open_grown : (r : List TypeInfo) (room ty : ℕ) (os : List OpenNode) (fs : List OpenPart)
    (cs : List Cell) (own : List ℕ) (o : OpenNode) (p : Part) → first_in fs ≡ Some o.ty →
    Spine r (suc room) ty os fs cs own → IsOpen r o p → most_levels o.done ≤ room →
    Spine r room ty (o ∷ os)
    (open_part (length cs) p ∷ (advanced (record { types = r; limit = 0; frames = fs })).frames)
    (cs ++ open_cells r o) (own ++ o.own)
open_grown r room ty os [] cs own o p e h k l = absurd cc
open_grown r room ty os (f ∷ fs) cs own o p e h k l =
    node_opened r room ty os f p fs cs own o h e k l

-- with one open node more, whose size is not known yet, the value that is being built stays one
pub open_added : (ty : ℕ) (w : Walked) (pool : List ℕ) (ns : List Node) (n : Node) (text_len : ℕ)
    (p : Part) (b : IsBuilding ty w pool ns text_len)
    (l : IsNextOpen w (head_shown [] n.children n.content) p) → n.ty.0 ≡ l.ty →
    size_shown n.content ≡ 0 →
    IsBuilding ty (opened (advanced w) (length ns) p) pool (ns ++ n ∷ []) text_len
open_added ty w pool ns n text_len p b l at size = by b.room refl where
  inside_after : (pool : List ℕ) (ns : List Node) (n : Node) → AreInPool pool ns →
      IsInPool pool n.content → AreInPool pool (ns ++ n ∷ [])
  inside_after pool [] n h k = (k, tt)
  inside_after pool (m ∷ ns) n h k = (h.0, inside_after pool ns n h.1 k)

  by : (room : ℕ) → b.room ≡ room →
      IsBuilding ty (opened (advanced w) (length ns) p) pool (ns ++ n ∷ []) text_len
  by zero e = absurd (omega (arith, e, b.level, l.room))
  by (suc room) e =
      let o : OpenNode = record {
        ty = l.ty;
        kind = l.kind;
        all = how_many_left p;
        done = none;
        own =
            l.own;
      } in
      let open_as : IsOpenAs w.types l.kind l.ty (how_many_left p) none l.own p =
      (p, l.own, [], l.opens, refl, sym (append-nil l.own), (refl, refl)) in
      let shown = open_shown pool n.children n.content l.kind (how_many_left p) l.head_is in
      let spine : Spine w.types (suc room) ty b.opens w.frames (cells_shown pool ns) b.own =
      rw (← e) b.spine in
      let g = open_grown w.types room ty b.opens w.frames (cells_shown pool ns) b.own o p l.next
      spine (l.finite, open_as) (omega arith) in
      let cell : cell_shown pool n ≡ open_cell o = rw (at, shown.same, l.head_is, size) refl in
      let cells_are : cells_shown pool (ns ++ n ∷ []) ≡ cells_shown pool ns ++ open_cell o ∷ [] =
      map-append (cell_shown pool) ns (n ∷ [])
      ∙ ap (λ (c : Cell). cells_shown pool ns ++ c ∷ []) cell in
      let entries_are : entries_shown pool (ns ++ n ∷ [])
      ≡ entries_shown pool ns ++ entry_of l.ty (head.branch l.kind (how_many_left p)) ∷ [] =
      map-append _ ns (n ∷ []) ∙ rw (at, shown.same, l.head_is) refl in
      record {
        room = room;
        level = omega (arith, e, b.level, advanced_length w.frames);
        own = b.own ++ l.own;
        are_bytes = both_bytes b.own l.own b.are_bytes l.are_bytes;
        opens = o ∷ b.opens;
        spine = rw (cells_are, ← length-map ns (cell_shown pool)) g;
        inside = inside_after pool ns n b.inside shown.inside;
        texts = rw entries_are (omega (
          arith,
          b.texts,
          text_snoc (entries_shown pool ns) (entry_of l.ty (head.branch l.kind (how_many_left p))),
          kind_text l.kind (how_many_left p),
        ));
        fits = omega (arith, b.fits, kept_snoc ns n, shown.none_kept);
      }

-- ---- bytes of an open run

-- where the bytes of all nodes lie in the pool, they lie in it where more bytes come to it
inside_longer : (pool more : List ℕ) (ns : List Node) → AreInPool pool ns →
    AreInPool (pool ++ more) ns
inside_longer pool more [] h = tt
inside_longer pool more (n ∷ ns) h =
    (within_more pool more n.content h.0, inside_longer pool more ns h.1)

-- a value that is being built stays one where more bytes come to the pool
pub bytes_added : (ty : ℕ) (w : Walked) (pool more : List ℕ) (ns : List Node) (text_len : ℕ) →
    IsBuilding ty w pool ns text_len → IsBuilding ty w (pool ++ more) ns text_len
bytes_added ty w pool more ns text_len b = record {
  room = b.room;
  level = b.level;
  own = b.own;
  are_bytes = b.are_bytes;
  opens = b.opens;
  spine = rw (cells_more pool more ns b.inside) b.spine;
  inside = inside_longer pool more ns b.inside;
  texts = rw (entries_more pool more ns b.inside) b.texts;
  fits = omega (arith, b.fits, length-append pool more);
}

-- what a list has from a place on grows by what comes to the list
drop_more : (k : ℕ) (pool more : List ℕ) → k ≤ length pool →
    drop k (pool ++ more) ≡ drop k pool ++ more
drop_more zero pool more h = refl
drop_more (suc k) [] more h = absurd (omega (arith, h))
drop_more (suc k) (x ∷ pool) more h = drop_more k pool more (omega (arith, h))

-- bytes that come to the pool are the open run's, where it lacks as many at least
pub open_longer : (w : Walked) (pool more : List ℕ) (kept : ℕ) (run : Option OpenRun) →
    AreBytes more → IsOpenRun w pool kept run → IsSome (pieces_shown pool run) →
    IfOk (missing_at (pieces_shown pool run) (next_of w)) (λ m. length more ≤ m.1) →
    IsOpenRun w (pool ++ more) kept run
    × (pieces_shown (pool ++ more) run
    ≡ option_map (λ t. record { kind = t.kind; len = t.len; bytes = t.bytes ++ more })
    (pieces_shown pool run))
open_longer w pool more kept None p h some k = absurd cc
open_longer w pool more kept (Some o) p h some k =
    let lacks : length more ≤ run_bytes o.kind o.len - length (drop o.start pool) =
    rw h.is_next at k in (
      record {
        is_next = h.is_next;
        inside = omega (arith, h.inside, length-append pool more);
        short = omega (
          arith,
          h.inside,
          h.short,
          lacks,
          length-append pool more,
          length-drop o.start pool,
        );
        behind = h.behind;
        are_bytes =
            rw (drop_more o.start pool more h.inside)
            (both_bytes (drop o.start pool) more h.are_bytes p);
        spelled = h.spelled;
        fits = h.fits;
      },
      ap (λ (b : List ℕ). Some (record { kind = o.kind; len = o.len; bytes = b }))
          (drop_more o.start pool more h.inside),
    )

-- nodes whose bytes lie in the pool show the same, with their types, where more come to it
pub longer_entries : (pool more : List ℕ) (ns : List Node) → AreInPool pool ns →
    entries_shown (pool ++ more) ns ≡ entries_shown pool ns
longer_entries = entries_more

-- the whole of an open run is what its place in the pool shows
pub open_whole : (w : Walked) (pool : List ℕ) (kept : ℕ) (o : OpenRun) (k : RunKind) →
    IsOpenAt w pool kept o.kind o.start o.len →
    missing_at (pieces_shown pool (Some o)) (next_of w) ≡ Ok (k, 0) →
    (o.start + run_bytes o.kind o.len ≡ length pool)
    × (slice_range pool o.start (o.start + run_bytes o.kind o.len) ≡ drop o.start pool)
open_whole w pool kept o k h e =
    let lacks : run_bytes o.kind o.len - length (drop o.start pool) ≡ 0 =
    ok_is (rw h.is_next at e) in
    let whole : o.start + run_bytes o.kind o.len ≡ length pool =
    omega (arith, lacks, h.inside, h.short, length-drop o.start pool) in (
      whole,
      ap (λ (k : ℕ). take k (drop o.start pool))
          (omega (arith, whole, length-drop o.start pool))
          ∙ take_all (length (drop o.start pool)) (drop o.start pool) (omega arith),
    ) where
      ok_is : {E : Type 0} {j : RunKind} {n : ℕ} →
          ◌≡◌ {A = Result (RunKind × ℕ) E} (Ok (j, n)) (Ok (k, 0)) → n ≡ 0
      ok_is {j = j} {n = n} e = let same : (j, n) ≡ (k, 0) = cc in
          ap (λ (p : RunKind × ℕ). p.1) same
