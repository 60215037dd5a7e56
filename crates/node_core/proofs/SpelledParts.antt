-- The bytes of a value go out in parts.
use Rattle.std.proofs.Common.{◌≡◌, ℕ, zero, suc, ◌+◌, ◌*◌, ◌^◌, ◌<◌, ◌≤◌, flat_map, List, [], ◌∷◌}
use Rattle.std.proofs.Common.{◌++◌, length, take, drop, get_or, Option, Some, None, refl}
use Rattle.std.proofs.Common.{append_assoc, sym, subst, ◌∙◌, ap, arith, length-append}
use Rattle.std.proofs.Math.Seq.{take-add}
use Rattle.std.proofs.lemmas.List.{length-take}
use Rattle.std.proofs.lemmas.List.Folds.{flat_map-map}
use Rattle.scale_core.specs.Number.{AreBytes}
use Rattle.types_core.specs.declared.type_info.TypeInfo.{TypeInfo}
use Rattle.grammar_core.specs.Spelled.{cell_bytes}
use Rattle.grammar_core.specs.Grammar.{Val}
use Rattle.grammar_core.proofs.Spelled.{encoded_is_value}
use Rattle.node_core.specs.Shown.{Seen, seen, cell_shown, kept_bytes, all_kept, IsValue, IsWhole}
use Rattle.node_core.specs.Encoding.{encoding, IsEncoding, node_bytes}
use Rattle.node_core.specs.declared.node.Node.{Node}
use Rattle.std.specs.Io.KnownBytes.{Appends}

-- one append after another is an append of both
pub appends_both : (a b c : Option (List ℕ)) (xs ys : List ℕ) → Appends a b xs → Appends b c ys →
    Appends a c (xs ++ ys)
appends_both None b c xs ys p q = tt
appends_both (Some a) None c xs ys p q = absurd p
appends_both (Some a) (Some b) None xs ys p q = absurd q
appends_both (Some a) (Some b) (Some c) xs ys p q = q ∙ ap (λ v. v ++ ys) p ∙ append_assoc a xs ys

-- ---- a part in front and a part after it

-- as many first bytes as a list has, or fewer, are the same of the list with more after it
take-front : (xs ys : List ℕ) (w : ℕ) → w ≤ length xs → take w xs ≡ take w (xs ++ ys)
take-front [] ys zero h = refl
take-front [] ys (suc w) h = absurd (omega arith)
take-front (x ∷ xs) ys zero h = refl
take-front (x ∷ xs) ys (suc w) h = ap (λ (zs : List ℕ). x ∷ zs) (take-front xs ys w (omega arith))

-- a list and then a front of another are a front of both joined
take-past : (xs ys : List ℕ) (w : ℕ) → xs ++ take w ys ≡ take (length xs + w) (xs ++ ys)
take-past [] ys w = let same : w ≡ 0 + w = omega arith in ap (λ (n : ℕ). take n ys) same
take-past (x ∷ xs) ys w = ap (λ (zs : List ℕ). x ∷ zs) (take-past xs ys w)
    ∙ (let more : suc (length xs + w) ≡ suc (length xs) + w = omega arith in
    ap (λ (n : ℕ). take n (x ∷ xs ++ ys)) more)

-- where the first bytes of the front went out, they are the first bytes of the whole
pub sent_front : (a b : Option (List ℕ)) (front back whole : List ℕ) (w : ℕ) →
    front ++ back ≡ whole → w ≤ length front → Appends a b (take w front) →
    Appends a b (take w whole)
sent_front a b front back whole w e h p =
    subst (Appends a b) (take-front front back w h ∙ ap (take w) e) p

-- where the front went out and then first bytes of the rest, so many of the whole did
pub sent_more : (a b c : Option (List ℕ)) (front back whole : List ℕ) (len w : ℕ) →
    length front ≡ len → front ++ back ≡ whole → Appends a b front → Appends b c (take w back) →
    Appends a c (take (len + w) whole)
sent_more a b c front back whole len w long e p q =
    subst (Appends a c) (take-past front back w ∙ ap (λ (n : ℕ). take (n + w) (front ++ back)) long
    ∙ ap (take (len + w)) e) (appends_both a b c front (take w back) p q)

-- where the front went out and then the rest, the whole did
pub sent_all : (a b c : Option (List ℕ)) (front back whole : List ℕ) → front ++ back ≡ whole →
    Appends a b front → Appends b c back → Appends a c whole
sent_all a b c front back whole e p q = subst (Appends a c) e (appends_both a b c front back p q)

-- the whole is as long as its front and its rest together
pub long_whole : (front back whole : List ℕ) → front ++ back ≡ whole →
    length whole ≡ length front + length back
long_whole front back whole e = ap length (sym e) ∙ length-append front back

-- a count within the front is within the whole
pub sent_part : (front back whole : List ℕ) (w : ℕ) → front ++ back ≡ whole → w ≤ length front →
    w ≤ length whole
sent_part front back whole w e h = omega (arith, h, long_whole front back whole e)

-- so many bytes at the front of a buffer, and the rest, which stands elsewhere, are the whole
pub record IsSplit (front back whole : List ℕ) (len : ℕ) : Type 0 where
  pub long : length front ≡ len
  pub is : front ++ back ≡ whole

-- the same by what fills the buffer
pub split_of : {back pooled whole : List ℕ} {room : ℕ} (buffer : List ℕ) (len : ℕ) →
    length buffer ≡ room → len ≤ room → pooled ≡ back → take len buffer ++ back ≡ whole →
    IsSplit (take len buffer) pooled whole len
split_of buffer len room fits same is =
    record {
      long = omega (arith, length-take len buffer, room, fits);
      is = ap (λ (xs : List ℕ). take len buffer ++ xs) same ∙ is;
    }

-- ---- all nodes

-- what a value is in bytes by the grammar
pub is_encoding : (s : Seen) → IsValue s → IsEncoding s (encoding s)
is_encoding s h =
    let same : h.0 ≡ encoding s = sym (encoded_is_value s.types s.ty s.tree h.0 h.1 h.2) in
    (subst AreBytes same h.1, subst (Val s.types s.ty s.tree) same h.2)

-- the nodes of a value spell it
pub nodes_spell : (r : List TypeInfo) (pool : List ℕ) (ns : List Node) (s : Seen) →
    IsWhole r pool ns → seen r pool ns ≡ s → flat_map (node_bytes r pool) ns ≡ encoding s
nodes_spell r pool ns s h e = sym (flat_map-map (cell_bytes r) (cell_shown pool) ns)
    ∙ ap (flat_map (cell_bytes r)) h.nodes ∙ ap encoding e

-- the bytes of the nodes before one of them, and its own, begin the bytes of all
within : {X : Type 0} (f : X → List ℕ) (ns : List X) (i : ℕ) (d : X) → i < length ns →
    (back : List ℕ) × (flat_map f ns ≡ flat_map f (take i ns) ++ (f (get_or ns i d) ++ back))
within f [] i d h = absurd (omega arith)
within f (m ∷ ns) zero d h = (flat_map f ns, refl)
within f (m ∷ ns) (suc i) d h =
    let s = within f ns i d (omega arith) in (
      s.0,
      ap (λ (xs : List ℕ). f m ++ xs) s.1
          ∙ sym (append_assoc (f m) (flat_map f (take i ns)) (f (get_or ns i d) ++ s.0)),
    )

-- what a front of one node makes of the bytes of the nodes before it, which went out
pub record Stops (a c : Option (List ℕ)) (whole : List ℕ) (reported : ℕ) : Type 0 where
  pub part : reported ≤ length whole
  pub sent : Appends a c (take reported whole)

-- where the nodes before one went out and then a part of its bytes, a front of the whole did
pub stops : (a b c : Option (List ℕ)) (r s : List TypeInfo) (pool : List ℕ) (ns : List Node) (i : ℕ)
    (d : Node) (whole : List ℕ) (w before : ℕ) →
    s ≡ r → i < length ns → flat_map (node_bytes r pool) ns ≡ whole →
    Appends a b (flat_map (node_bytes r pool) (take i ns)) →
    before ≡ length (flat_map (node_bytes r pool) (take i ns)) →
    w ≤ length (node_bytes s pool (get_or ns i d)) →
    Appends b c (take w (node_bytes s pool (get_or ns i d))) → Stops a c whole (before + w)
stops a b c r s pool ns i d whole w before same h all sent counted le more =
    let f = node_bytes r pool in
    let done = flat_map f (take i ns) in
    let own = f (get_or ns i d) in
    let le' : w ≤ length own = rw (← same) le in
    let more' : Appends b c (take w own) = rw (← same) more in
    let x = within f ns i d h in
    let e : done ++ (own ++ x.0) ≡ whole = sym x.1 ∙ all in
    let long : length whole ≡ length done + length (own ++ x.0) =
    long_whole done (own ++ x.0) whole e in
    record {
      part = omega (arith, long, le', counted, length-append own x.0);
      sent = sent_more a b c done (own ++ x.0) whole before w (sym counted) e sent
          (subst (Appends b c) (take-front own x.0 w le') more');
    }

-- what the nodes up to one of them have in the pool
kept_up_to : (ns : List Node) (i : ℕ) (d : Node) → i < length ns →
    (all_kept (take (suc i) ns) ≡ all_kept (take i ns) + kept_bytes (get_or ns i d).content)
    × (all_kept (take (suc i) ns) ≤ all_kept ns)
kept_up_to [] i d h = absurd (omega arith)
kept_up_to (m ∷ ns) zero d h = (omega arith, omega arith)
kept_up_to (m ∷ ns) (suc i) d h = let t = kept_up_to ns i d (omega arith) in
    (omega (arith, t.0), omega (arith, t.1))

-- the bytes of the nodes up to one of them are as few as what they have in the pool and 17 more
-- each
pub record IsFew (ns : List Node) (i count : ℕ) : Type 0 where
  pub few : count ≤ 17 * (i + 1) + all_kept (take (i + 1) ns)
  pub fits : count < 2 ^ 64

-- the bytes sent up to a node are few: 17 for each at most, and what they have in the pool
pub is_few : (ns : List Node) (i : ℕ) (d : Node) (before w own pool : ℕ) → all_kept ns ≤ pool →
    pool < 2 ^ 63 → length ns * 24 < 2 ^ 63 → i < length ns →
    before ≤ 17 * i + all_kept (take i ns) → w ≤ own →
    own ≤ 17 + kept_bytes (get_or ns i d).content → IsFew ns i (before + w)
is_few ns i d before w own pool fits small few h le part bound =
    let next : suc i ≡ i + 1 = omega arith in
    let t = kept_up_to ns i d h in
    let up : before + w ≤ 17 * suc i + all_kept (take (suc i) ns) =
    omega (arith, le, part, bound, t.0) in
    record { few = rw (← next) up; fits = omega (arith, up, t.1, fits, small, few, h) }

-- each node of a value without bytes has none
pub no_own : (r s : List TypeInfo) (pool : List ℕ) (ns : List Node) (i : ℕ) (d : Node)
    (whole : List ℕ) → s ≡ r → i < length ns → flat_map (node_bytes r pool) ns ≡ whole →
    whole ≡ [] → length (node_bytes s pool (get_or ns i d)) ≡ 0
no_own r s pool ns i d whole same h all nil =
    let f = node_bytes r pool in
    let x = within f ns i d h in
    let done = flat_map f (take i ns) in
    let own = f (get_or ns i d) in
    let short : length own ≡ 0 =
    omega (
      arith,
      ap length (sym x.1 ∙ all ∙ nil),
      length-append done (own ++ x.0),
      length-append own x.0,
    ) in
    rw same short
