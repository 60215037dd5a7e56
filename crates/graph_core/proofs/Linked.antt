-- Lists of the references to each type, as references are read.
use Rattle.std.proofs.Common.{◌≡◌, ◌≢◌, ℕ, ◌+◌, ◌<◌, ◌≤◌, ◌^◌, List, [], ◌∷◌, ◌++◌, length, map}
use Rattle.std.proofs.Common.{get_or, set, Some, refl, sym, ap, ◌∙◌, arith, inl, inr}
use Rattle.std.proofs.lemmas.Bool.{cases_lt, cases_eq}
use Rattle.std.proofs.lemmas.List.{append_assoc, append-nil, map-append, length-map, length-set}
use Rattle.std.proofs.lemmas.List.{length_push, get_or_append_left, get_or_push}
use Rattle.std.proofs.lemmas.List.{get_or-set_same, get_or-set_other, length-append}
use Rattle.graph_core.specs.declared.graph.Graph.{Graph}
use Rattle.graph_core.specs.declared.graph.Link.{Link}
use Rattle.graph_core.specs.References.{AreKnown}
use Rattle.graph_core.specs.Cursors.{left, parts_left, arms_left}
use Rattle.graph_core.specs.Graphs.{refs, numbers, befores, IsLast, IsLinked, ReadsReferences}
use Rattle.graph_core.specs.Graphs.{ReadsOn, ReadsNext, IsReadNext, KeepsLists, BeginsArm}

-- ---- the last reference to a type

-- a reference that was just appended is the last one to its type
last_same : (xs : List ℕ) (u : ℕ) → IsLast (xs ++ u ∷ []) (length xs + 1) u (length xs + 1)
last_same xs u = record {
  within = omega arith;
  last = λ e lt is. lt;
  found = λ b is. get_or_push xs u 0 b (omega arith);
}

-- a reference to another type leaves the last one to a type as it was
last_other : (xs : List ℕ) (v u a : ℕ) → v ≢ u → IsLast xs (length xs) u a →
    IsLast (xs ++ v ∷ []) (length xs + 1) u a
last_other xs v u a ne h = record {
  within = omega (arith, h.within);
  last = λ e lt is. elim (cases_lt e (length xs)) [
    | inl below ↦ h.last e below (sym (get_or_append_left xs (v ∷ []) 0 e below) ∙ is)
    | inr ge ↦ absurd (ne (sym (get_or_push xs v 0 e (omega arith)) ∙ is))
  ];
  found = λ b is. let below : b < length xs = omega (arith, h.within, is) in
      get_or_append_left xs (v ∷ []) 0 b below ∙ h.found b is;
}

-- an appended reference leaves the last one among those before it as it was
last_kept : (xs : List ℕ) (v k u a : ℕ) → k ≤ length xs → IsLast xs k u a →
    IsLast (xs ++ v ∷ []) k u a
last_kept xs v k u a le h = record {
  within = h.within;
  last = λ e lt is. let below : e < length xs = omega arith in
      h.last e lt (sym (get_or_append_left xs (v ∷ []) 0 e below) ∙ is);
  found = λ b is. let below : b < length xs = omega (arith, h.within, is) in
      get_or_append_left xs (v ∷ []) 0 b below ∙ h.found b is;
}

-- references that are positions still are where one that is a position is appended
known_more : (n : ℕ) (xs : List ℕ) (v : ℕ) → AreKnown n xs → v < n → AreKnown n (xs ++ v ∷ [])
known_more n [] v h lt = (lt, tt)
known_more n (x ∷ xs) v h lt = (h.0, known_more n xs v h.1 lt)

-- ---- one more reference

abbrev link : Graph → ℕ → ℕ → Link
link a v c = record { counter = c; before = get_or a.newest.items v 0 }

-- the lists are right again after one more reference was put at the front of its own
pub linked_more : (a b : Graph) (v c : ℕ) → IsLinked a → v < length a.registry →
    length a.links.items + 1 < 2 ^ 32 → b.registry ≡ a.registry → refs b ≡ refs a ++ v ∷ [] →
    b.links.items ≡ a.links.items ++ link a v c ∷ [] → b.members.items ≡ a.members.items ++ v ∷ [] →
    b.newest.items ≡ set a.newest.items v (length a.links.items + 1) → IsLinked b
linked_more a b v c h lt small types is links members newest =
    let len : length (refs b) ≡ length (refs a) + 1 = ap length is ∙ length_push (refs a) v in
    let n : length b.registry ≡ length a.registry = ap length types in
    record {
      heads = ap length newest ∙ length-set a.newest.items v (length a.links.items + 1) ∙ h.heads
          ∙ sym n;
      links = ap length links ∙ length_push a.links.items (link a v c)
          ∙ omega (arith, h.links, len);
      small = omega (arith, h.links, len, small);
      members = members ∙ ap (λ (xs : List ℕ). xs ++ v ∷ []) h.members ∙ sym is;
      known = rw (n, is) (known_more (length a.registry) (refs a) v h.known lt);
      newest = λ u within. rw (len, is, newest) (heads u (omega (arith, within, n)));
      before = λ e within. rw is (before e (omega (arith, within, len)));
    } where
      heads : (u : ℕ) → u < length a.registry →
          IsLast (refs a ++ v ∷ []) (length (refs a) + 1) u
          (get_or (set a.newest.items v (length a.links.items + 1)) u 0)
      heads u within = elim (cases_eq u v) [
        | inl same ↦ rw (
          same,
          get_or-set_same a.newest.items v (length a.links.items + 1) 0
              (omega (arith, h.heads, lt)),
          h.links,
        ) (last_same (refs a) v)
        | inr other ↦ rw (get_or-set_other a.newest.items v u (length a.links.items + 1) 0 other)
            (last_other (refs a) v u (get_or a.newest.items u 0) (λ is. other (sym is))
            (h.newest u within))
      ]

      before : (e : ℕ) → e < length (refs a) + 1 →
          IsLast (refs a ++ v ∷ []) e (get_or (refs a ++ v ∷ []) e 0) (get_or (befores b) e 0)
      before e within =
          let all : befores b ≡ befores a ++ get_or a.newest.items v 0 ∷ [] =
          ap (λ (ls : List Link). map (λ l. l.before) ls) links
          ∙ map-append (λ (l : Link). l.before) a.links.items (link a v c ∷ []) in
          let count : length (befores a) ≡ length (refs a) =
          length-map a.links.items (λ (l : Link). l.before) ∙ h.links in
          elim (cases_lt e (length (refs a))) [
            | inl below ↦ let below' : e < length (befores a) = omega (arith, count, below) in
                rw (
                  all,
                  get_or_append_left (befores a) (get_or a.newest.items v 0 ∷ []) 0 e below',
                  get_or_append_left (refs a) (v ∷ []) 0 e below,
                )
                (last_kept (refs a) v e (get_or (refs a) e 0) (get_or (befores a) e 0)
                (omega (arith, below)) (h.before e below))
            | inr ge ↦ let last : e ≡ length (refs a) = omega arith in
                rw (
                  all,
                  get_or_push (befores a) (get_or a.newest.items v 0) 0 e
                      (omega (arith, count, last)),
                  get_or_push (refs a) v 0 e (omega (arith, last)),
                  last,
                ) (last_kept (refs a) v (length (refs a)) v (get_or a.newest.items v 0)
                (omega arith) (h.newest v lt))
          ]

-- ---- what is left

-- what is left depends on the registry and on where the reading stands alone
pub same_left : (a b : Graph) → b.registry ≡ a.registry → b.cursor ≡ a.cursor →
    (left b ≡ left a) × (parts_left b ≡ parts_left a) × (arms_left b ≡ arms_left a)
same_left a b types cursor = (
  rw (types, cursor) refl,
  rw (types, cursor) refl,
  rw (types, cursor) refl,
)

-- ---- reading on

-- from a graph to itself no reference was read
pub on_none : (a : Graph) → ReadsOn a a []
on_none a = record {
  types = refl;
  place = refl;
  left = refl;
  read = sym (append-nil (refs a));
  opened = refl;
  listed = refl;
}

-- references that were read after others were read with them
pub on_more : (a b c : Graph) (xs ys : List ℕ) → ReadsOn a b xs → ReadsOn b c ys →
    ReadsOn a c (xs ++ ys)
on_more a b c xs ys h k = record {
  types = k.types ∙ h.types;
  place = k.place ∙ h.place;
  left = h.left ∙ ap (λ (zs : List ℕ). xs ++ zs) k.left ∙ sym (append_assoc xs ys (left c));
  read = k.read ∙ ap (λ (zs : List ℕ). zs ++ ys) h.read ∙ append_assoc (refs a) xs ys;
  opened = k.opened ∙ h.opened;
  listed = k.listed ∙ h.listed;
}

-- what was read was read where only lists differ
pub on_kept : (a m b : Graph) (us : List ℕ) → ReadsOn a m us → b.registry ≡ m.registry →
    b.cursor ≡ m.cursor → b.looks.read.entries ≡ m.looks.read.entries →
    b.looks.opened.entries ≡ m.looks.opened.entries →
    b.looks.listed.entries ≡ m.looks.listed.entries → ReadsOn a b us
on_kept a m b us h types cursor read opened listed = record {
  types = types ∙ h.types;
  place = rw cursor h.place;
  left = h.left ∙ ap (λ (zs : List ℕ). us ++ zs) (sym (same_left m b types cursor).0);
  read = rw read h.read;
  opened = opened ∙ h.opened;
  listed = listed ∙ h.listed;
}

-- the lists stay right where they, what was read and the registry are the same
pub linked_kept : (a b : Graph) → IsLinked a → b.registry ≡ a.registry → refs b ≡ refs a →
    KeepsLists a b → IsLinked b
linked_kept a b h types read lists = record {
  heads = rw (lists.newest, types) h.heads;
  links = rw (lists.links, read) h.links;
  small = rw read h.small;
  known = rw (types, read) h.known;
  newest = λ u lt. rw (read, lists.newest) (h.newest u (omega (arith, lt, ap length types)));
  members = lists.members ∙ h.members ∙ sym read;
  before = λ e lt. rw (read, lists.links) (h.before e (rw read at lt));
}

-- a reference that was read and put at the front of its list is one that was read for its counter
pub next_one : (a m b : Graph) (u c : ℕ) → IsLinked a → IsReadNext a m (Some u) →
    u < length a.registry → length a.links.items + 1 < 2 ^ 32 → b.registry ≡ m.registry →
    b.cursor ≡ m.cursor → b.looks.read.entries ≡ m.looks.read.entries →
    b.looks.opened.entries ≡ m.looks.opened.entries →
    b.looks.listed.entries ≡ m.looks.listed.entries →
    b.links.items ≡ a.links.items ++ link a u c ∷ [] → b.members.items ≡ a.members.items ++ u ∷ [] →
    b.newest.items ≡ set a.newest.items u (length a.links.items + 1) → ReadsNext a b u c
next_one a m b u c h k lt small types cursor read opened listed links members newest =
    let on = on_kept a m b (u ∷ []) k.on types cursor read opened listed in
    let same = same_left m b types cursor in
    record {
      reads = record {
        linked = linked_more a b u c h lt small on.types on.read links members newest;
        on = on;
        counted = ap (λ (ls : List Link). map (λ l. l.counter) ls) links
            ∙ map-append (λ (l : Link). l.counter) a.links.items (link a u c ∷ []);
      };
      parts = k.parts ∙ ap (λ (zs : List ℕ). u ∷ zs) (sym same.1);
      arms = same.2 ∙ k.arms;
    }

-- from a graph to itself no reference was read for a counter
pub reads_none : (a : Graph) → IsLinked a → ReadsReferences a a [] []
reads_none a h = record { linked = h; on = on_none a; counted = sym (append-nil (numbers a)) }

-- references that were read after others were read with them
pub reads_on : (a b c : Graph) (xs ys ks ls : List ℕ) → ReadsReferences a b xs ks →
    ReadsReferences b c ys ls → ReadsReferences a c (xs ++ ys) (ks ++ ls)
reads_on a b c xs ys ks ls h k = record {
  linked = k.linked;
  on = on_more a b c xs ys h.on k.on;
  counted = k.counted ∙ ap (λ (zs : List ℕ). zs ++ ls) h.counted ∙ append_assoc (numbers a) ks ls;
}

-- i of the references that were open were read for counter s
pub record ReadsParts (a b : Graph) (s i : ℕ) : Type 0 where
  pub front : List ℕ
  pub count : length front ≡ i
  pub reads : ReadsReferences a b front (map (λ _. s) front)
  pub parts : parts_left a ≡ front ++ parts_left b
  pub arms : arms_left b ≡ arms_left a

-- before the first reference is read none was
pub parts_none : (a : Graph) (s : ℕ) → IsLinked a → ReadsParts a a s 0
parts_none a s h =
    record { front = []; count = refl; reads = reads_none a h; parts = refl; arms = refl }

-- where the next reference is read for the counter, one more was read
pub parts_more : (a b c : Graph) (s i u : ℕ) → ReadsParts a b s i → ReadsNext b c u s →
    ReadsParts a c s (i + 1)
parts_more a b c s i u h k =
    let counted : map (λ _. s) (h.front ++ u ∷ []) ≡ map (λ _. s) h.front ++ s ∷ [] =
    map-append (λ (q : ℕ). s) h.front (u ∷ []) in
    record {
      front = h.front ++ u ∷ [];
      count = length_push h.front u ∙ ap (λ (n : ℕ). n + 1) h.count;
      reads = rw counted (reads_on a b c h.front (u ∷ []) (map (λ _. s) h.front) (s ∷ []) h.reads
          k.reads);
      parts = h.parts ∙ ap (λ (zs : List ℕ). h.front ++ zs) k.parts
          ∙ sym (append_assoc h.front (u ∷ []) (parts_left c));
      arms = k.arms ∙ h.arms;
    }

-- there is a reference to read as long as fewer were read than were open
pub parts_some : (a b : Graph) (s i : ℕ) → ReadsParts a b s i → i < length (parts_left a) →
    0 < length (parts_left b)
parts_some a b s i h lt = omega (
  arith,
  lt,
  h.count,
  ap length h.parts,
  length-append h.front (parts_left b),
)

-- a list without elements is empty
pub no_elements : {X : Type 0} (xs : List X) → length xs ≡ 0 → xs ≡ []
no_elements [] e = refl
no_elements (x ∷ xs) e = absurd (omega (arith, e))

-- what was read of what was open, with nothing left
pub record ReadsAll (a b : Graph) (s : ℕ) : Type 0 where
  pub reads : ReadsReferences a b (parts_left a) (map (λ _. s) (parts_left a))
  pub ended : parts_left b ≡ []
  pub arms : arms_left b ≡ arms_left a

-- where as many references were read as were open, these are all of them
pub parts_all : (a b : Graph) (s i : ℕ) → ReadsParts a b s i → i ≡ length (parts_left a) →
    ReadsAll a b s
parts_all a b s i h e =
    let ended : parts_left b ≡ [] =
    no_elements (parts_left b) (omega (
      arith,
      e,
      h.count,
      ap length h.parts,
      length-append h.front (parts_left b),
    )) in
    let all : parts_left a ≡ h.front = h.parts ∙ ap (λ (zs : List ℕ). h.front ++ zs) ended
    ∙ append-nil h.front in
    record { reads = rw all h.reads; ended = ended; arms = h.arms }

-- ---- arms

-- where an arm was begun, no reference was read
pub reads_begun : (a b : Graph) (index count : ℕ) → IsLinked a → BeginsArm a b index count →
    ReadsReferences a b [] []
reads_begun a b index count h k = record {
  linked = linked_kept a b h k.on.types (k.on.read ∙ append-nil (refs a)) k.lists;
  on = k.on;
  counted = rw k.lists.links (sym (append-nil (numbers a)));
}
