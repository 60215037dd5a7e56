-- The results for all bytes of a reader.
use Rattle.std.specs.Prelude.{◌≡◌, ℕ, zero, suc, ◌<◌, ◌≤◌, ◌⊎◌, Bool, true, false}
use Rattle.std.specs.Prelude.{List, [], ◌++◌, length, take}
use Rattle.std.specs.Prelude.{Result, Ok, Err, Option, Some, None, IfSome}
use Rattle.std.specs.Io.KnownBytes.{Consumes, IsAtEnd, Keeps}
use Rattle.growth_core.specs.Evidence.{evidence}
use Rattle.types_core.specs.declared.type_info.TypeInfo.{TypeInfo}
use Rattle.grammar_core.specs.Tree.{Tree}
use Rattle.node_core.specs.Shown.{Seen}
use Rattle.limits_core.specs.declared.limits.Limits.{Limits}
use Rattle.outcome_core.specs.Outcome.{Query, done, more, IsOutcome}
use Rattle.decode_core.specs.Decoding.{Decoding, FinishesDecoder, Led, first_of_all}
use Rattle.decode_core.specs.declared.fault.OpenFault.{OpenFault}
use Rattle.decode_core.specs.declared.fault.OpenFault.TheVariants as opening
use Rattle.decode_core.specs.declared.stream.StreamFault.{StreamFault}
use Rattle.decode_core.specs.declared.stream.StreamFault.TheVariants as stream

-- what is decoded: a type of a registry, within these limits
abbrev pub query_of : List TypeInfo → ℕ → Limits → Query
query_of types root limits = (first_of_all types root limits).query

-- the fault that prevents opening a decoder; or there is none, and an allocation failed
abbrev pub Forbids : Option OpenFault → OpenFault → Type 0
Forbids forbidden e = (forbidden ≡ Some e)
    ⊎ ((e ≡ opening.OutOfMemory evidence) × (forbidden ≡ None))

-- a value of the query's type and registry
abbrev pub IsOfQuery : Query → Seen → Type 0
IsOfQuery j v = (v.types ≡ j.registry) × (v.ty ≡ j.ty)

-- a value takes the first n of these bytes, and more bytes follow
abbrev pub Trails : Query → ℕ → List ℕ → Type 0
Trails j n b = (v : Tree) × IsOutcome j b (done v) n × (n < length b)

-- these bytes leave the result open: there are none, and a read comes before any result; or more
-- are needed; or they are exactly one value, and a byte may follow
abbrev pub LeavesOpen : Query → List ℕ → Type 0
LeavesOpen j b = (length b ≡ 0)
    ⊎ (IsOutcome j b more (length b) ⊎ ((v : Tree) × IsOutcome j b (done v) (length b)))

-- what a read does: the reader and the buffer before it; the number of bytes that it returned, or
-- `None` if it failed; and the buffer and the reader after it
abbrev pub ReadOf : Type 0 → Type 1
ReadOf R = R → List ℕ → Option ℕ → List ℕ → R → Type 0

-- so many reads, none of which failed, returned these bytes and led from one state of the reader to
-- the other
abbrev pub ReadsGive : {R : Type 0} → ReadOf R → R → ℕ → List ℕ → R → Type 0
ReadsGive reads old zero b new = (b ≡ []) × (new ≡ old)
ReadsGive {R} reads old (suc k) b new = (front : List ℕ) × (mid : R)
    × ReadsGive reads old k front mid
    × (before : List ℕ) × (n : ℕ) × (part : List ℕ) × reads mid before (Some n) part new
    × (b ≡ front ++ take n part)

-- a read that failed led to this state of the reader
abbrev pub FailsAt : {R : Type 0} → ReadOf R → R → R → Type 0
FailsAt reads old new = (before : List ℕ) × (part : List ℕ) × reads old before None part new

-- these bytes were read, and the next read failed
abbrev pub FailsAfter : {R : Type 0} → ReadOf R → R → R → List ℕ → Type 0
FailsAfter {R} reads old new b = (mid : R) × (k : ℕ) × ReadsGive reads old k b mid
    × FailsAt reads mid new

-- the bytes read before a failed read are those that the reader no longer has, and they leave the
-- result open
abbrev pub StopsOpen : Query → (List ℕ → Type 0) → Option (List ℕ) → Option (List ℕ) → Type 0
StopsOpen j fails known left = (b : List ℕ) × fails b × Consumes known left b × LeavesOpen j b

-- the result for all bytes of a reader: the one value that these bytes encode exactly; the fault
-- that prevents opening a decoder; too few bytes, or the fault of these bytes; or a value that ends
-- before they do. If a read failed, the bytes read before it leave the result open, and no others
-- were taken
abbrev pub Streams : Option OpenFault → Query → (List ℕ → Type 0) → List ℕ → Option (List ℕ) →
    Result Seen StreamFault → Type 0
Streams forbidden j fails b left (Ok v) = (forbidden ≡ None) × IsOfQuery j v
    × IsOutcome j b (done v.tree) (length b)
Streams forbidden j fails b left (Err (stream.Open e)) = Forbids forbidden e
Streams forbidden j fails b left (Err (stream.Decode f)) = (forbidden ≡ None)
    × FinishesDecoder j b (Err f)
Streams forbidden j fails b left (Err (stream.TrailingBytes at)) = (forbidden ≡ None)
    × Trails j at b
Streams forbidden j fails b left (Err stream.Device) = (forbidden ≡ None)
    × StopsOpen j fails (Some b) left

-- ---- on the way

-- these bytes have led to the decoder, and either there are none or the value is incomplete
pub record IsUnderWay (d : Decoding) (b : List ℕ) : Type 0 where
  pub led : Led d b
  pub count : d.taken ≡ length b
  pub fits : length b ≤ d.query.bytes
  pub goes_on : (length b ≡ 0) ⊎ IsOutcome d.query b more (length b)

-- a value at the front of these bytes takes n of them
abbrev pub EndsAt : Query → List ℕ → ℕ → Type 0
EndsAt j b n = (v : Tree) (m : ℕ) → IsOutcome j b (done v) m → m ≡ n

-- whether a byte follows; if the read failed, no byte was read
abbrev pub Looks : Type 0 → Option (List ℕ) → Option (List ℕ) → Result Bool StreamFault → Type 0
Looks fails known left (Ok true) = IfSome known (λ b. 0 < length b)
Looks fails known left (Ok false) = IsAtEnd known
Looks fails known left (Err stream.Device) = Keeps known left × fails
Looks fails known left (Err _) = ⊥

-- all bytes of a reader have led to the decoder, and its value leaves none; or more follow the
-- value; or they are rejected; or a read failed, and the bytes read before it leave the result open
abbrev pub FeedsAll : Decoding → (List ℕ → Type 0) → Option (List ℕ) → Option (List ℕ) →
    Result Bool StreamFault → Type 0
FeedsAll d fails known left (Ok false) = (b : List ℕ) × Led d b × EndsAt d.query b (length b)
    × IfSome known (λ bytes. bytes ≡ b)
FeedsAll d fails known left (Ok true) = IfSome known (Trails d.query d.taken)
FeedsAll d fails known left (Err (stream.Decode f)) =
    IfSome known (λ bytes. FinishesDecoder d.query bytes (Err f))
FeedsAll d fails known left (Err stream.Device) = StopsOpen d.query fails known left
FeedsAll d fails known left (Err _) = ⊥
