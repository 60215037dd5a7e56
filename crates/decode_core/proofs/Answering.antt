-- The answer to a reader, by what was fed.
use Rattle.std.proofs.Common.{◌≡◌, ℕ, List, length}
use Rattle.std.proofs.Common.{Option, Some, None, Ok, Err, sym, subst}
use Rattle.std.proofs.Common.{Bool, false}
use Rattle.std.specs.Prelude.{IfSome, Result}
use Rattle.node_core.specs.Shown.{Seen}
use Rattle.decode_core.specs.Decoding.{Decoding, FinishesDecoder}
use Rattle.outcome_core.specs.Outcome.{Query, done, IsOutcome}
use Rattle.decode_core.specs.Streaming.{EndsAt, FeedsAll, StopsOpen}
use Rattle.decode_core.specs.Streaming.{Streams}
use Rattle.decode_core.specs.declared.fault.DecodeFault.{DecodeFault}
use Rattle.decode_core.specs.declared.fault.OpenFault.{OpenFault}
use Rattle.decode_core.specs.declared.stream.StreamFault.{StreamFault}
use Rattle.decode_core.specs.declared.stream.StreamFault.TheVariants as stream

-- a value that ends where a reader's bytes do is the answer to the reader
value_at_end : (fails : List ℕ → Type 0) (left : Option (List ℕ)) (o : Option OpenFault) (j : Query)
    (b bytes : List ℕ) (v : Seen) → o ≡ None → EndsAt j b (length b) → bytes ≡ b →
    FinishesDecoder j b (Ok v) → Streams o j fails bytes left (Ok v)
value_at_end fails left o j b bytes v none ends is f =
    let out = subst (λ (n : ℕ). IsOutcome j b (done v.tree) n) (ends v.tree f.0 f.3) f.3 in
    subst (λ (l : List ℕ). Streams o j fails l left (Ok v)) (sym is) (none, (f.1, f.2), out)

-- the same where the reader's bytes may not be known
pub value_streams : (fails : List ℕ → Type 0) (known left : Option (List ℕ))
    (o : Option OpenFault) (j : Query) (d : Decoding) (b : List ℕ) (v : Seen) → o ≡ None →
    d.query ≡ j → EndsAt d.query b (length b) → IfSome known (λ bytes. bytes ≡ b) →
    FinishesDecoder d.query b (Ok v) → IfSome known (λ bytes. Streams o j fails bytes left (Ok v))
value_streams fails None left o j d b v none same ends is f = tt
value_streams fails (Some xs) left o j d b v none same ends is f =
    subst (λ (i : Query). Streams o i fails xs left (Ok v)) same
    (value_at_end fails left o d.query b xs v none ends is f)

-- a fault at the end of a reader's bytes is the answer to it, where these are known
pub end_streams : (fails : List ℕ → Type 0) (known left : Option (List ℕ)) (o : Option OpenFault)
    (j : Query) (d : Decoding) (b : List ℕ) (f : DecodeFault) → o ≡ None → d.query ≡ j →
    IfSome known (λ bytes. bytes ≡ b) → FinishesDecoder d.query b (Err f) →
    IfSome known (λ bytes. Streams o j fails bytes left (Err (stream.Decode f)))
end_streams fails None left o j d b f none same is h = tt
end_streams fails (Some xs) left o j d b f none same is h = (
  none,
  subst (λ (i : Query). FinishesDecoder i xs (Err f)) same
      (subst (λ (l : List ℕ). FinishesDecoder d.query l (Err f)) (sym is) h),
)

-- a decoder's fault on a reader's bytes is the answer to it, where these are known
refused_streams : (fails : List ℕ → Type 0) (known left : Option (List ℕ)) (o : Option OpenFault)
    (j : Query) (d : Decoding) (f : DecodeFault) → o ≡ None → d.query ≡ j →
    IfSome known (λ bytes. FinishesDecoder d.query bytes (Err f)) →
    IfSome known (λ bytes. Streams o j fails bytes left (Err (stream.Decode f)))
refused_streams fails None left o j d f none same h = tt
refused_streams fails (Some xs) left o j d f none same h =
    (none, subst (λ (i : Query). FinishesDecoder i xs (Err f)) same h)

-- a read that fails while the answer is open is the answer to a reader
device_streams : (fails : List ℕ → Type 0) (known left : Option (List ℕ)) (o : Option OpenFault)
    (j : Query) → o ≡ None → StopsOpen j fails known left →
    IfSome known (λ bytes. Streams o j fails bytes left (Err stream.Device))
device_streams fails None left o j none h = tt
device_streams fails (Some xs) left o j none h = (none, h)

-- any fault in feeding a reader is the answer to it, where its bytes are known
pub fault_streams : (fails : List ℕ → Type 0) (known left : Option (List ℕ))
    (o : Option OpenFault) (j : Query) (d : Decoding) (e : StreamFault) → o ≡ None → d.query ≡ j →
    FeedsAll d fails known left (Err e) →
    IfSome known (λ bytes. Streams o j fails bytes left (Err e))
fault_streams fails known left o j d (stream.Open e) none same h = absurd h
fault_streams fails known left o j d (stream.Decode f) none same h =
    refused_streams fails known left o j d f none same h
fault_streams fails known left o j d (stream.TrailingBytes at) none same h = absurd h
fault_streams fails known left o j d stream.Device none same h =
    device_streams fails known left o j none
    (subst (λ (i : Query). StopsOpen i fails known left) same h)

-- what is fed where no byte follows
pub fed_false : (fails : List ℕ → Type 0) (known left : Option (List ℕ)) (d : Decoding) (b : Bool) →
    b ≡ false → FeedsAll d fails known left (Ok b) → FeedsAll d fails known left (Ok false)
fed_false fails known left d b is h =
    subst (λ (x : Bool). FeedsAll d fails known left (Ok x)) is h

-- a read failed that was not to decide
pub stopped_open : {V : Type 0} (fails : List ℕ → Type 0) (known left : Option (List ℕ)) (j : Query)
    (d : Decoding) (e : StreamFault) → d.query ≡ j →
    ◌≡◌ {A = Result V StreamFault} (Err e) (Err stream.Device) →
    FeedsAll d fails known left (Err e) → StopsOpen j fails known left
stopped_open fails known left j d e same both h = let is : e ≡ stream.Device = cc in
    subst (λ (i : Query). StopsOpen i fails known left) same
    (subst (λ (x : StreamFault). FeedsAll d fails known left (Err x)) is h)
