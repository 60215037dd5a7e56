-- What the decoder's answer says of the value that a file holds.
use Rattle.std.proofs.Common.{◌≡◌, ℕ, List, length, drop, Bool, true, false}
use Rattle.std.proofs.Common.{Option, Some, None, Result, Ok, Err}
use Rattle.std.proofs.Common.{refl, sym, ap, ◌∙◌, arith, subst}
use Rattle.std.specs.Prelude.{IfSome, ⊤, ◌||◌}
use Rattle.growth_core.specs.Evidence.{evidence}
use Rattle.node_core.specs.Shown.{Seen}
use Rattle.outcome_core.specs.Outcome.{Query}
use Rattle.decode_core.specs.Streaming.{Streams}
use Rattle.decode_core.specs.declared.fault.OpenFault.{OpenFault}
use Rattle.decode_core.specs.declared.stream.StreamFault.{StreamFault}
use Rattle.decode_core.specs.declared.stream.StreamFault.TheVariants as stream
use Rattle.scale_calls.specs.Refused.{opening_refusal, value_refusal}
use Rattle.scale_calls.specs.Values.{RefusesValue, value_in}
use Rattle.scale_calls.specs.declared.refusal.ValueRefusal.{ValueRefusal}
use Rattle.scale_calls.specs.declared.refusal.ValueRefusal.TheVariants as call
use Rattle.scale_calls.proofs.Decoded.{by_opening, not_all, refused_by, spelled}
use Rattle.scale_calls.specs.Opaque.{opaque_start}
use Rattle.scale_tool.specs.Opaque.{placed_after}
use Rattle.scale_tool.specs.Refused.{IsRejected, refusal_of_stream, refusal_of_value}
use Rattle.scale_tool.specs.Values.{ReadsBytes, ReportsAfter, ReportsFile}
use Rattle.scale_tool.specs.Values.{ReportsPlain, ReportsSpelled}
use Rattle.scale_tool.specs.Values.{file_value, is_gathered, value_after}
use Rattle.scale_tool.specs.declared.form.Form.{Form}

-- a fact about bytes that may be known gives another
pub where_known : (known : Option (List ℕ)) (P Q : List ℕ → Type 0) → ((b : List ℕ) → P b → Q b) →
    IfSome known P → IfSome known Q
where_known None P Q f h = tt
where_known (Some b) P Q f h = f b h

-- ---- all bytes of a value

-- the refusal is reported of them
plain_reports : (forbidden : Option OpenFault) (j : Query) (b : List ℕ) (e : ValueRefusal) →
    RefusesValue forbidden j b e → ReportsPlain j b e
plain_reports forbidden j b (call.Fault f) h = h.2
plain_reports forbidden j b (call.TrailingBytes at) h = h.2
plain_reports forbidden j b _ h = tt

-- with status 1 they have no value
plain_none : (forbidden : Option OpenFault) (j : Query) (b : List ℕ) (e : ValueRefusal) →
    RefusesValue forbidden j b e → IsRejected (refusal_of_value e) → value_in j b ≡ None
plain_none forbidden j b (call.Fault f) h one = h.1
plain_none forbidden j b (call.TrailingBytes at) h one = h.1
plain_none forbidden j b _ h one = absurd cc

-- ---- opaque values

-- a refusal with its place from the first byte of all rejects the input only if it did
placed_rejects : (start : ℕ) (e : ValueRefusal) →
    IsRejected (refusal_of_value (placed_after start e)) → IsRejected (refusal_of_value e)
placed_rejects start (call.Fault f) one = one
placed_rejects start (call.TrailingBytes at) one = one
placed_rejects start _ one = absurd cc

-- the bytes after it are rejected
pub rejects_opaque : (forbidden : Option OpenFault) (j : Query) (b inner : List ℕ) (start : ℕ)
    (e : ValueRefusal) → opaque_start b ≡ Ok start → inner ≡ drop start b →
    RefusesValue forbidden j inner e → ReadsBytes true j b (Err (placed_after start e))
rejects_opaque forbidden j b inner start e is own h =
    let all = subst (λ (x : List ℕ). RefusesValue forbidden j x e) own h in (
      subst (λ (s : Result ℕ ValueRefusal). ReportsAfter j b s (placed_after start e)) (sym is)
          (e, refl, plain_reports forbidden j (drop start b) e all),
      λ one. ap (value_after j b) is
          ∙ plain_none forbidden j (drop start b) e all (placed_rejects start e one),
    )

-- ---- a file that is read to its end

-- what is reported of bytes that may be known is reported of their file
file_reports : (form : Form) (j : Query) (e : ValueRefusal) (known : Option (List ℕ)) →
    IfSome known (ReportsSpelled form j e) → ReportsFile form j known (refusal_of_value e)
file_reports form j (call.Fault f) known h = h
file_reports form j (call.TrailingBytes at) known h = h
file_reports form j _ known h = tt

-- ---- a reader's bytes

-- neither of two tests is true
neither : (a b : Bool) → (a || b) ≡ false → (a ≡ false) × (b ≡ false)
neither true b is = absurd cc
neither false b is = (refl, is)

-- the value of a file that is read in pieces is that of its bytes
raw_value : (form : Form) (j : Query) (b : List ℕ) → is_gathered form ≡ false →
    file_value form j b ≡ value_in j b
raw_value form j b raw = let p = neither form.hex form.opaque raw in rw (p.0, p.1) refl

-- what is reported of its bytes is reported of it
raw_reports : (form : Form) (j : Query) (e : ValueRefusal) (b : List ℕ) →
    is_gathered form ≡ false → ReportsPlain j b e → ReportsSpelled form j e b
raw_reports form j e b raw h =
    let p = neither form.hex form.opaque raw in (b, rw p.0 refl, rw p.1 h)

-- why they are rejected, if no read failed
abbrev read_refusal : StreamFault → ValueRefusal
read_refusal (stream.Open f) = opening_refusal f
read_refusal (stream.Decode f) = value_refusal f
read_refusal (stream.TrailingBytes at) = call.TrailingBytes at
read_refusal stream.Device = call.Memory evidence

-- so they are rejected
stream_refuses : (fails : List ℕ → Type 0) (left : Option (List ℕ)) (j : Query)
    (forbidden : Option OpenFault) (f : StreamFault) (b : List ℕ) →
    Streams forbidden j fails b left (Err f) → RefusesValue forbidden j b (read_refusal f)
stream_refuses fails left j forbidden (stream.Open f) b h = by_opening forbidden j b f h
stream_refuses fails left j forbidden (stream.Decode f) b h = refused_by forbidden j b f h.0 h.1
stream_refuses fails left j forbidden (stream.TrailingBytes at) b h = (
  h.0,
  not_all j b h.1.0 at (λ same. absurd (omega (arith, same, h.1.2))) h.1.1,
  h.1,
)
stream_refuses fails left j forbidden stream.Device b h = tt

-- with status 1 they have no value
pub stream_none : (fails : List ℕ → Type 0) (left : Option (List ℕ)) (form : Form) (j : Query)
    (forbidden : Option OpenFault) (f : StreamFault) (known : Option (List ℕ)) →
    is_gathered form ≡ false → IfSome known (λ b. Streams forbidden j fails b left (Err f)) →
    IfSome known (λ b. IsRejected (refusal_of_stream f) → file_value form j b ≡ None)
stream_none fails left form j forbidden stream.Device known raw h =
    where_known known _ _ (λ b x one. absurd cc) h
stream_none fails left form j forbidden f known raw h =
    where_known known _ _ (λ b x one. raw_value form j b raw
    ∙ plain_none forbidden j b (read_refusal f) (stream_refuses fails left j forbidden f b x) one) h

-- the refusal is reported of them
pub stream_reports : (fails : List ℕ → Type 0) (left : Option (List ℕ)) (form : Form) (j : Query)
    (forbidden : Option OpenFault) (f : StreamFault) (known : Option (List ℕ)) →
    is_gathered form ≡ false → IfSome known (λ b. Streams forbidden j fails b left (Err f)) →
    ReportsFile form j known (refusal_of_stream f)
stream_reports fails left form j forbidden stream.Device known raw h = tt
stream_reports fails left form j forbidden f known raw h =
    file_reports form j (read_refusal f) known
    (where_known known _ _ (λ b x. raw_reports form j (read_refusal f) b raw
    (plain_reports forbidden j b (read_refusal f)
    (stream_refuses fails left j forbidden f b x))) h)

-- a value that a reader gives is the one that its bytes spell
pub stream_value : (form : Form) (j : Query) (forbidden : Option OpenFault) (v : Seen)
    (known : Option (List ℕ)) → is_gathered form ≡ false →
    IfSome known (λ b. Streams forbidden j (λ x. ⊤) b None (Ok v)) →
    IfSome known (λ b. file_value form j b ≡ Some v)
stream_value form j forbidden v known raw h = where_known known _ _
    (λ b x. raw_value form j b raw ∙ spelled j b v (length b) refl x.1 x.2) h
