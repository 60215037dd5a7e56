-- The records of the first nodes of a list, and of one more.
use Rattle.std.proofs.Common.{◌≡◌, ℕ, zero, suc, ◌+◌, ◌-◌, ◌<◌, ◌≤◌, List, [], ◌∷◌, ◌++◌, length}
use Rattle.std.proofs.Common.{take, drop, get_or, refl, sym, ap, ◌∙◌, arith, length-append}
use Rattle.std.proofs.Common.{append_assoc, append-nil, slice_range, slice_set}
use Rattle.std.proofs.lemmas.List.{map-append, length-map, take_more, take_more_set, drop-drop}
use Rattle.std.proofs.lemmas.List.{drop-set-lt, take-append-drop, take_all, length-take}
use Rattle.grammar_core.specs.Cells.{Cell}
use Rattle.node_core.specs.Shown.{all_kept, cell_shown, cells_shown, head_shown}
use Rattle.node_core.specs.Shown.{kept_bytes}
use Rattle.node_core.specs.Encoding.{pool_bytes as kept_in}
use Rattle.node_core.specs.declared.node.Content.{Content}
use Rattle.node_core.specs.declared.node.Content.TheVariants as is
use Rattle.node_core.specs.declared.node.Node.{Node}
use Rattle.record_core.specs.Records.{head_pool_bytes, pool_of, record_of, records_from}
use Rattle.record_core.specs.Written.{StandsIn}
use Rattle.record_core.specs.declared.record.Record.{Record}

-- the bytes that a node has in the pool are those of the node that is shown
pub kept_is : (bytes : List ℕ) (n : ℕ) (c : Content) →
    kept_in bytes c ≡ head_pool_bytes (head_shown bytes n c)
kept_is bytes n (is.Text len start) = refl
kept_is bytes n (is.Bytes len start) = refl
kept_is bytes n (is.Wide start) = refl
kept_is bytes n (is.Bits unused len start) = refl
kept_is bytes n _ = refl

-- the records of nodes and one more are those of the nodes and then its own
records_more : (at : ℕ) (cs : List Cell) (c : Cell) → records_from at (cs ++ c ∷ [])
    ≡ records_from at cs ++ record_of (at + length (pool_of cs)) c ∷ []
records_more at [] c = let same : at ≡ at + 0 = omega arith in
    ap (λ (n : ℕ). record_of n c ∷ []) same
records_more at (d ∷ cs) c =
    let same : at + length (head_pool_bytes d.head) + length (pool_of cs)
    ≡ at + length (pool_of (d ∷ cs)) =
    omega (arith, length-append (head_pool_bytes d.head) (pool_of cs)) in
    ap (λ (rs : List Record). record_of at d ∷ rs)
    (records_more (at + length (head_pool_bytes d.head)) cs c
    ∙ ap (λ (n : ℕ). records_from (at + length (head_pool_bytes d.head)) cs
    ++ record_of n c ∷ []) same)

-- the same from the start of the pool
records_first : (cs : List Cell) (c : Cell) → records_from 0 (cs ++ c ∷ [])
    ≡ records_from 0 cs ++ record_of (length (pool_of cs)) c ∷ []
records_first cs c = let same : 0 + length (pool_of cs) ≡ length (pool_of cs) = omega arith in
    records_more 0 cs c ∙ ap (λ (n : ℕ). records_from 0 cs ++ record_of n c ∷ []) same

-- there are as many records as nodes
pub records_length : (at : ℕ) (cs : List Cell) → length (records_from at cs) ≡ length cs
records_length at [] = refl
records_length at (c ∷ cs) = ap suc (records_length (at + length (head_pool_bytes c.head)) cs)

-- the bytes of nodes and one more are those of the nodes and then its own
pool_more : (cs : List Cell) (c : Cell) →
    pool_of (cs ++ c ∷ []) ≡ pool_of cs ++ head_pool_bytes c.head
pool_more [] c = append-nil (head_pool_bytes c.head)
pool_more (d ∷ cs) c = ap (λ (xs : List ℕ). head_pool_bytes d.head ++ xs) (pool_more cs c)
    ∙ sym (append_assoc (head_pool_bytes d.head) (pool_of cs) (head_pool_bytes c.head))

-- one node more is shown
cells_more : (bytes : List ℕ) (ns : List Node) (i : ℕ) (d : Node) → i < length ns →
    cells_shown bytes (take (i + 1) ns)
    ≡ cells_shown bytes (take i ns) ++ cell_shown bytes (get_or ns i d) ∷ []
cells_more bytes ns i d h = ap (cells_shown bytes) (take_more ns i d h)
    ∙ map-append (cell_shown bytes) (take i ns) (get_or ns i d ∷ [])

-- the first nodes have no more bytes than all
pub pool_upto : (bytes : List ℕ) (ns : List Node) (i : ℕ) →
    length (pool_of (cells_shown bytes (take i ns))) ≤ length (pool_of (cells_shown bytes ns))
pool_upto bytes ns zero = omega arith
pool_upto bytes [] (suc i) = omega arith
pool_upto bytes (n ∷ ns) (suc i) =
    let own = head_pool_bytes (head_shown bytes n.children n.content) in
    omega (
      arith,
      pool_upto bytes ns i,
      length-append own (pool_of (cells_shown bytes (take i ns))),
      length-append own (pool_of (cells_shown bytes ns)),
    )

-- where the first nodes end in the pool, and the next one
pub pool_next : (bytes : List ℕ) (ns : List Node) (i : ℕ) (d : Node) → i < length ns →
    length (pool_of (cells_shown bytes (take (i + 1) ns)))
    ≡ length (pool_of (cells_shown bytes (take i ns)))
    + length (kept_in bytes (get_or ns i d).content)
pool_next bytes ns i d h =
    let n = get_or ns i d in let before = cells_shown bytes (take i ns) in
    ap (λ (cs : List Cell). length (pool_of cs)) (cells_more bytes ns i d h)
    ∙ ap length (pool_more before (cell_shown bytes n))
    ∙ length-append (pool_of before) (head_pool_bytes (head_shown bytes n.children n.content))
    ∙ ap (λ (xs : List ℕ). length (pool_of before) + length xs)
    (sym (kept_is bytes n.children n.content))

-- the records of the first nodes stand in front, and their bytes, and the rest stays
pub record ArePut (bytes : List ℕ) (ns : List Node) (old new : List Record) (old_pool pool : List ℕ)
    (at i : ℕ) : Type 0
  where
    pub records : take i new ≡ records_from 0 (cells_shown bytes (take i ns))
    pub records_rest : drop i new ≡ drop i old
    pub at_is : at ≡ length (pool_of (cells_shown bytes (take i ns)))
    pub pool_is : take at pool ≡ pool_of (cells_shown bytes (take i ns))
    pub pool_rest : drop at pool ≡ drop at old_pool

-- the next node ends within the pool
pub next_fits : (bytes : List ℕ) (ns : List Node) (i : ℕ) (d : Node) (at : ℕ) (part : List ℕ) →
    i < length ns → at ≡ length (pool_of (cells_shown bytes (take i ns))) →
    part ≡ kept_in bytes (get_or ns i d).content →
    at + length part ≤ length (pool_of (cells_shown bytes ns))
next_fits bytes ns i d at part h e is =
    omega (arith, pool_upto bytes ns (i + 1), pool_next bytes ns i d h, e, ap length is)

-- one node more is put
pub put_next : (bytes : List ℕ) (ns : List Node) (old new : List Record)
    (old_pool pool more : List ℕ) (at i : ℕ) (d : Node) (part : List ℕ) (r : Record) →
    ArePut bytes ns old new old_pool pool at i → i < length ns → i < length new →
    part ≡ kept_in bytes (get_or ns i d).content →
    r ≡ record_of at (cell_shown bytes (get_or ns i d)) →
    take (at + length part) more ≡ take at pool ++ part →
    drop (at + length part) more ≡ drop (at + length part) pool →
    ArePut bytes ns old (slice_set new i r) old_pool more (at + length part) (i + 1)
put_next bytes ns old new old_pool pool more at i d part r so_far h room is made placed rest =
    let n = get_or ns i d in let before = cells_shown bytes (take i ns) in record {
      records = take_more_set new i r room
          ∙ ap (λ (rs : List Record). rs ++ r ∷ []) so_far.records
          ∙ ap (λ (x : Record). records_from 0 before ++ x ∷ [])
          (made ∙ ap (λ (k : ℕ). record_of k (cell_shown bytes n)) so_far.at_is)
          ∙ sym (ap (records_from 0) (cells_more bytes ns i d h)
          ∙ records_first before (cell_shown bytes n));
      records_rest = drop-set-lt (i + 1) new i r (omega arith)
          ∙ sym (drop-drop 1 i new) ∙ ap (drop 1) so_far.records_rest ∙ drop-drop 1 i old;
      at_is = omega (arith, so_far.at_is, ap length is, pool_next bytes ns i d h);
      pool_is = placed
          ∙ ap (λ (xs : List ℕ). xs ++ part) so_far.pool_is
          ∙ ap (λ (xs : List ℕ). pool_of before ++ xs) (is ∙ kept_is bytes n.children n.content)
          ∙ sym (ap pool_of (cells_more bytes ns i d h) ∙ pool_more before (cell_shown bytes n));
      pool_rest = rest ∙ sym (drop-drop (length part) at pool)
          ∙ ap (drop (length part)) so_far.pool_rest ∙ drop-drop (length part) at old_pool;
    }

-- when all are put, they stand in front
pub records_stand : (bytes : List ℕ) (ns : List Node) (old new : List Record)
    (old_pool pool : List ℕ) (at i : ℕ) → ArePut bytes ns old new old_pool pool at i →
    i ≡ length ns → StandsIn (records_from 0 (cells_shown bytes ns)) old new
records_stand bytes ns old new old_pool pool at i put e =
    let all : take i ns ≡ ns = take_all i ns (omega (arith, e)) in
    let long : i ≡ length (records_from 0 (cells_shown bytes ns)) =
    e ∙ sym (records_length 0 (cells_shown bytes ns) ∙ length-map ns (cell_shown bytes)) in
    sym (take-append-drop i new)
    ∙ ap (λ (rs : List Record). rs ++ drop i new)
    (put.records ∙ ap (λ (ms : List Node). records_from 0 (cells_shown bytes ms)) all)
    ∙ ap (λ (rs : List Record). records_from 0 (cells_shown bytes ns) ++ rs) put.records_rest
    ∙ ap (λ (k : ℕ). records_from 0 (cells_shown bytes ns) ++ drop k old) long

-- when all are put, their bytes stand in front of the pool
pub pool_stands : (bytes : List ℕ) (ns : List Node) (old new : List Record)
    (old_pool pool : List ℕ) (at i : ℕ) → ArePut bytes ns old new old_pool pool at i →
    i ≡ length ns → StandsIn (pool_of (cells_shown bytes ns)) old_pool pool
pool_stands bytes ns old new old_pool pool at i put e =
    let all : take i ns ≡ ns = take_all i ns (omega (arith, e)) in
    let own : pool_of (cells_shown bytes (take i ns)) ≡ pool_of (cells_shown bytes ns) =
    ap (λ (ms : List Node). pool_of (cells_shown bytes ms)) all in
    sym (take-append-drop at pool)
    ∙ ap (λ (xs : List ℕ). xs ++ drop at pool) (put.pool_is ∙ own)
    ∙ ap (λ (xs : List ℕ). pool_of (cells_shown bytes ns) ++ xs) put.pool_rest
    ∙ ap (λ (k : ℕ). pool_of (cells_shown bytes ns) ++ drop k old_pool)
    (put.at_is ∙ ap length own)

-- ---- how many bytes there are at most

-- a range is no longer than it says
range_le : (bytes : List ℕ) (start len : ℕ) →
    length (slice_range bytes start (start + len)) ≤ len
range_le bytes start len = omega (arith, length-take (start + len - start) (drop start bytes))

-- a node has no more bytes than it keeps
kept_le : (bytes : List ℕ) (c : Content) → length (kept_in bytes c) ≤ kept_bytes c
kept_le bytes (is.Text len start) = range_le bytes start len
kept_le bytes (is.Bytes len start) = range_le bytes start len
kept_le bytes (is.Wide start) = range_le bytes start 32
kept_le bytes (is.Bits unused len start) = range_le bytes start len
kept_le bytes _ = omega arith

-- nodes have no more bytes than they keep
pub all_le : (bytes : List ℕ) (ns : List Node) →
    length (pool_of (cells_shown bytes ns)) ≤ all_kept ns
all_le bytes [] = omega arith
all_le bytes (n ∷ ns) =
    let own = head_pool_bytes (head_shown bytes n.children n.content) in
    omega (
      arith,
      kept_le bytes n.content,
      ap length (kept_is bytes n.children n.content),
      all_le bytes ns,
      length-append own (pool_of (cells_shown bytes ns)),
    )
