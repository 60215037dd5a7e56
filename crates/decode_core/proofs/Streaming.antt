-- What a decoder's answers to the parts of an input say of the whole input.
use Rattle.std.proofs.Common.{◌≡◌, ℕ, suc, ◌+◌, ◌<◌, ◌≤◌, Bool, true, false, List, [], ◌++◌}
use Rattle.std.proofs.Common.{length}
use Rattle.std.proofs.Common.{Option, Some, None, Ok, Err, refl, sym, ap, subst, ◌∙◌, append-nil}
use Rattle.std.proofs.Common.{arith, take, inl, inr, length-append}
use Rattle.std.specs.Prelude.{IfSome, ◌⊎◌, Result}
use Rattle.std.specs.Io.KnownBytes.{Consumes, IsAtEnd, Keeps}
use Rattle.std.proofs.KnownBytes.{Consumes-kept}
use Rattle.std.proofs.lemmas.List.{length-take, nil_from_length}
use Rattle.grammar_core.specs.Tree.{Tree}
use Rattle.decode_core.specs.Decoding.{AnswersPiece, Decoding, FinishesDecoder, IsEnded, Led}
use Rattle.decode_core.specs.Decoding.{OpensDecoder}
use Rattle.outcome_core.specs.Outcome.{Query, done, more, IsOutcome}
use Rattle.decode_core.specs.Streaming.{EndsAt, FeedsAll, IsUnderWay, LeavesOpen, Looks}
use Rattle.decode_core.specs.Streaming.{ReadsGive, ReadOf, StopsOpen, Trails}
use Rattle.decode_core.specs.declared.decoder.Progress.{Progress}
use Rattle.decode_core.specs.declared.decoder.Progress.TheVariants as progress
use Rattle.decode_core.specs.declared.fault.DecodeFault.{DecodeFault}
use Rattle.decode_core.specs.declared.fault.OpenFault.{OpenFault}
use Rattle.decode_core.specs.declared.stream.StreamFault.{StreamFault}
use Rattle.decode_core.specs.declared.stream.StreamFault.TheVariants as stream
use Rattle.decode_core.proofs.calls.Feeding.{ended_stays}
use Rattle.outcome_core.proofs.Kept.{outcome_is_kept}
use Rattle.outcome_core.proofs.Outcomes.{one_outcome}

-- ---- a decoder is made, or not

-- a decoder that is opened has taken nothing, and nothing forbids it
pub opened : (o : Option OpenFault) (first d : Decoding) → OpensDecoder o first (Ok d) → (o ≡ None)
    × (d ≡ first)
opened None first d h = (refl, h)
opened (Some f) first d h = absurd h

-- ---- where a value ends

-- a value has no more bytes than are there
pub done_fits : (j : Query) (b : List ℕ) (v : Tree) (n : ℕ) → IsOutcome j b (done v) n →
    n ≤ length b
done_fits j b v n h = omega (
  arith,
  h.5,
  ap length h.2,
  length-append h.0 h.1,
  length-take j.bytes b,
)

-- where a value ends after so many bytes, none ends after another number
pub done_ends : (j : Query) (b : List ℕ) (v : Tree) (n : ℕ) → IsOutcome j b (done v) n →
    EndsAt j b n
done_ends j b v n h w m k = (one_outcome j b (done w) (done v) m n k h).1

-- that a value is done is not that more is wanted, so anything follows
pub no_value : {X : Type 0} (v : Tree) → done v ≡ more → X
no_value v e = absurd cc

-- where more is wanted or no byte came, no value ends before the end of the bytes
more_ends : (j : Query) (b : List ℕ) → (length b ≡ 0) ⊎ IsOutcome j b more (length b) →
    EndsAt j b (length b)
more_ends j b (inl z) v n h = omega (arith, done_fits j b v n h, z)
more_ends j b (inr m) v n h = no_value v (one_outcome j b (done v) more n (length b) h m).0

-- on the bytes of a decoder under way no value ends before their end
pub under_way_ends : (d : Decoding) (b : List ℕ) → IsUnderWay d b → EndsAt d.query b (length b)
under_way_ends d b h = more_ends d.query b h.goes_on

-- ---- the value goes on

-- a decoder that answers that more is wanted is under way with the piece appended
pub under_way_next : (old new : Decoding) (b piece : List ℕ) →
    AnswersPiece old new (b ++ piece) (Ok progress.More) → Led new (b ++ piece) →
    IsUnderWay new (b ++ piece)
under_way_next old new b piece h led = record {
  led = led;
  count = h.2;
  fits = h.1;
  goes_on = inr (h.0, h.1, refl);
}

-- the same for an answer that is known to be this one
pub under_way_by : (old new : Decoding) (b piece : List ℕ) (p : Progress) → p ≡ progress.More →
    AnswersPiece old new (b ++ piece) (Ok p) × Led new (b ++ piece) → IsUnderWay new (b ++ piece)
under_way_by old new b piece p is h =
    under_way_next old new b piece
    (subst (λ (q : Progress). AnswersPiece old new (b ++ piece) (Ok q)) is h.0) h.1

-- an answer that is not that the value is done is that more is wanted
pub more_by : (p : Progress) → ((used : ℕ) → p ≡ progress.Done used → ⊥) → p ≡ progress.More
more_by progress.More h = refl
more_by (progress.Done used) h = absurd (h used refl)

-- ---- the value is whole

-- its nodes, and how many of the bytes are its own
pub record Whole (old new : Decoding) (b : List ℕ) (used : ℕ) : Type 0 where
  pub tree : Tree
  pub outcome : IsOutcome new.query b (done tree) new.taken
  pub count : new.taken ≡ old.taken + used

-- an answer that the value is done reports of its tree and how many of the bytes are its own
pub whole_by : (old new : Decoding) (b : List ℕ) (p : Progress) (used : ℕ) →
    p ≡ progress.Done used → AnswersPiece old new b (Ok p) → Whole old new b used
whole_by old new b p used is h =
    let a = subst (λ (q : Progress). AnswersPiece old new b (Ok q)) is h in
    record { tree = _; outcome = a.2; count = a.3 }

-- ---- the rest of the input

-- a value on the front of bytes is the outcome whatever follows them
pub done_stays : (j : Query) (b rest : List ℕ) (v : Tree) (n : ℕ) → IsOutcome j b (done v) n →
    IsOutcome j (b ++ rest) (done v) n
done_stays j b rest v n h = outcome_is_kept j b rest (done v) n (λ e. no_value v e) h

-- what all known bytes are, where some were taken and these are left
pub ended_known : (known left : Option (List ℕ)) (j : Query) (b : List ℕ) (f : DecodeFault)
    (n : ℕ) → Consumes known left b → IsEnded j b f n →
    IfSome known (λ bytes. FinishesDecoder j bytes (Err f))
ended_known None left j b f n c h = tt
ended_known (Some xs) None j b f n c h = absurd c
ended_known (Some xs) (Some ys) j b f n c h =
    inr (n, subst (λ (l : List ℕ). IsEnded j l f n) (sym c) (ended_stays j b ys f n h))

-- a value that ends before the last of the bytes has some of them after it
trails_after : (j : Query) (xs b rest : List ℕ) (v : Tree) (n : ℕ) → xs ≡ b ++ rest →
    IsOutcome j b (done v) n → n < length b + length rest → Trails j n xs
trails_after j xs b rest v n is h less = (
  v,
  subst (λ (l : List ℕ). IsOutcome j l (done v) n) (sym is) (done_stays j b rest v n h),
  omega (arith, ap length is, length-append b rest, less),
)

-- a value that ends before the last of the bytes read has bytes of the reader after it
pub trails_within : (known left : Option (List ℕ)) (j : Query) (b : List ℕ) (v : Tree) (n : ℕ) →
    Consumes known left b → IsOutcome j b (done v) n → n < length b → IfSome known (Trails j n)
trails_within None left j b v n c h less = tt
trails_within (Some xs) None j b v n c h less = absurd c
trails_within (Some xs) (Some ys) j b v n c h less =
    trails_after j xs b ys v n c h (omega (arith, less))

-- where the reader has bytes left, some follow the value that was read
pub trails_left : (known left : Option (List ℕ)) (j : Query) (b : List ℕ) (v : Tree) (n : ℕ) →
    Consumes known left b → IsOutcome j b (done v) n → IfSome left (λ rest. 0 < length rest) →
    IfSome known (Trails j n)
trails_left None left j b v n c h some = tt
trails_left (Some xs) None j b v n c h some = absurd c
trails_left (Some xs) (Some ys) j b v n c h some =
    trails_after j xs b ys v n c h (omega (arith, some, done_fits j b v n h))

-- the last read gave nothing
pub end_known : (known mid left : Option (List ℕ)) (b part : List ℕ) (n : ℕ) → n ≡ 0 →
    Consumes known mid b → Consumes mid left (take n part) → IsAtEnd left →
    IfSome known (λ bytes. bytes ≡ b)
end_known None mid left b part n none c d end = tt
end_known (Some xs) None left b part n none c d end = absurd c
end_known (Some xs) (Some ys) None b part n none c d end = absurd d
end_known (Some xs) (Some ys) (Some zs) b part n none c d end =
    let nothing : ys ≡ [] = nil_from_length ys
    (omega (
      arith,
      none,
      ap length d,
      ap length end,
      length-append (take n part) zs,
      length-take n part,
    )) in
    c ∙ ap (λ (l : List ℕ). b ++ l) nothing ∙ append-nil b

-- bytes that were read up to the reader's end are all that it had
pub all_known : (known left : Option (List ℕ)) (b : List ℕ) → Consumes known left b → IsAtEnd left →
    IfSome known (λ bytes. bytes ≡ b)
all_known None left b c end = tt
all_known (Some xs) None b c end = absurd c
all_known (Some xs) (Some ys) b c end = c ∙ ap (λ (l : List ℕ). b ++ l) end ∙ append-nil b

-- ---- a read failed

-- one read more gave its bytes after those before
pub gives_next : {R : Type 0} (reads : ReadOf R) (old : R) (k : ℕ) (b : List ℕ) (mid : R)
    (before : List ℕ) (n : ℕ) (part : List ℕ) (new : R) → ReadsGive reads old k b mid →
    reads mid before (Some n) part new → ReadsGive reads old (suc k) (b ++ take n part) new
gives_next reads old k b mid before n part new g r = (b, mid, g, before, n, part, r, refl)

-- a read that failed consumed nothing
pub stops_open : (fails : List ℕ → Type 0) (known mid left : Option (List ℕ)) (j : Query)
    (b : List ℕ) → fails b → Consumes known mid b → Keeps mid left → LeavesOpen j b →
    StopsOpen j fails known left
stops_open fails known mid left j b f c k h = (b, f, Consumes-kept known mid left b c k, h)

-- nothing was read, or more is wanted
pub under_way_open : (d : Decoding) (b : List ℕ) → IsUnderWay d b → LeavesOpen d.query b
under_way_open d b h = elim h.goes_on [ inl none ↦ inl none | inr out ↦ inr (inl out) ]

-- the value has all these bytes
done_open : (j : Query) (b : List ℕ) (v : Tree) (n : ℕ) → IsOutcome j b (done v) n → length b ≤ n →
    LeavesOpen j b
done_open j b v n h long = let all : n ≡ length b = omega (arith, long, done_fits j b v n h) in
    inr (inr (v, subst (IsOutcome j b (done v)) all h))

-- what a look after a whole value says
pub look_feeds : (looks : Type 0) (fails : List ℕ → Type 0) (known left end : Option (List ℕ))
    (d : Decoding) (b : List ℕ) (v : Tree) (r : Result Bool StreamFault) → (looks → fails b) →
    Consumes known left b → IsOutcome d.query b (done v) d.taken → Led d b → length b ≤ d.taken →
    Looks looks left end r → FeedsAll d fails known end r
look_feeds looks fails known left end d b v (Ok true) f c out led long look =
    trails_left known left d.query b v d.taken c out look
look_feeds looks fails known left end d b v (Ok false) f c out led long look =
    let all : d.taken ≡ length b = omega (arith, long, done_fits d.query b v d.taken out) in (
      b,
      led,
      subst (EndsAt d.query b) all (done_ends d.query b v d.taken out),
      all_known known left b c look,
    )
look_feeds looks fails known left end d b v (Err stream.Device) f c out led long look =
    stops_open fails known left end d.query b (f look.1) c look.0
    (done_open d.query b v d.taken out long)
look_feeds looks fails known left end d b v (Err (stream.Open e)) f c out led long look =
    absurd look
look_feeds looks fails known left end d b v (Err (stream.Decode e)) f c out led long look =
    absurd look
look_feeds looks fails known left end d b v (Err (stream.TrailingBytes at)) f c out led long look =
    absurd look
