-- What a record adds, by its kind.
use Rattle.std.proofs.Common.{◌≡◌, ℕ, ◌+◌, ◌≤◌, ◌<◌, Bool, true, false, List, length, refl, sym}
use Rattle.std.proofs.Common.{subst, ap, ◌∙◌}
use Rattle.std.proofs.Common.{arith}
use Rattle.std.specs.Prelude.{Result, Err, ℤ, ◌^◌, nat_lt}
use Rattle.std.specs.Int.{w128, cast_signed, cast_unsigned}
use Rattle.std.proofs.Math.Facts.{sfits_to_z}
use Rattle.std.proofs.lemmas.Int.{of_z-to_z}
use Rattle.node_core.proofs.Words.{signed_back, word_back}
use Rattle.std.specs.Str.{IsUtf8, is_utf8}
use Rattle.std.specs.Str.Lossy.{utf8_valid_len}
use Rattle.std.proofs.lemmas.Str.{IsUtf8-from_is_utf8, is_utf8-from_IsUtf8}
use Rattle.std.proofs.lemmas.Bool.{le-ltb}
use Rattle.grammar_core.specs.Preorder as head
use Rattle.grammar_core.specs.Tree as tree
use Rattle.node_core.specs.Shown.{signed_from}
use Rattle.value_core.specs.Built.{Built, with_leaf}
use Rattle.value_core.specs.Refusals.{Adds, judged, suits_signed, suits_text}
use Rattle.value_core.specs.declared.build_fault.BuildFault.{BuildFault}
use Rattle.value_core.specs.declared.build_fault.BuildFault.TheVariants as fault
use Rattle.record_core.specs.Records.{number_of, pooled_head, range_of, scalar_head}
use Rattle.record_core.specs.Replayed.{earlier_fault, judged_node, pooled_fault, scalar_fault}
use Rattle.record_core.specs.Replayed.{with_node}
use Rattle.record_core.specs.declared.record.Record.{Record}

-- a range that ends within the pool is not beyond it
inside : (pool : List ℕ) (r : Record) → r.low + r.high ≤ length pool →
    nat_lt (length pool) (r.low + r.high) ≡ false
inside pool r h = le-ltb (length pool) (r.low + r.high) (omega (arith, h))

-- what a builder adds of a text is what its record adds
pub text_adds : (pool s : List ℕ) (r : Record) (b new : Built) (x : Result (Unit {0}) BuildFault) →
    r.kind ≡ 7 → r.low + r.high ≤ length pool → s ≡ range_of pool r → IsUtf8 s →
    Adds (judged (suits_text s) b) (with_leaf b (head.leaf (tree.text s))) b new x →
    Adds (earlier_fault (pooled_fault pool r)
    (judged_node (pooled_head r.kind (range_of pool r)) b))
    (with_node (pooled_head r.kind (range_of pool r)) b) b new x
text_adds pool s r b new x kind fits is valid h =
    let good : is_utf8 (range_of pool r) ≡ true = is_utf8-from_IsUtf8 (range_of pool r)
    (rw (← is) valid) in
    rw (kind, inside pool r fits, good) (rw (← is) h)

-- bytes that are not UTF-8 fail the test for it
not_utf8 : (s : List ℕ) → (IsUtf8 s → ⊥) → is_utf8 s ≡ false
not_utf8 s h = by (is_utf8 s) refl where
  by : (b : Bool) → is_utf8 s ≡ b → is_utf8 s ≡ false
  by true e = absurd (h (IsUtf8-from_is_utf8 s e))
  by false e = e

-- a text that is not UTF-8 is rejected, with the length of its longest valid front
pub bad_text_rejected : (pool s : List ℕ) (r : Record) (b : Built) (n : ℕ) → r.kind ≡ 7 →
    r.low + r.high ≤ length pool → s ≡ range_of pool r → (IsUtf8 s → ⊥) → n ≡ utf8_valid_len s →
    Adds (earlier_fault (pooled_fault pool r)
    (judged_node (pooled_head r.kind (range_of pool r)) b))
    (with_node (pooled_head r.kind (range_of pool r)) b) b b (Err (fault.BadText n))
bad_text_rejected pool s r b n kind fits is invalid valid =
    let bad : is_utf8 (range_of pool r) ≡ false = not_utf8 (range_of pool r)
    (subst (λ (x : List ℕ). IsUtf8 x → ⊥) is invalid) in
    rw (kind, inside pool r fits, bad)
    (ap fault.BadText (valid ∙ ap utf8_valid_len is), refl)

-- a number of 128 bits with a sign is the one that its bits spell
pub signed_is : (n : ℕ) → n < 2 ^ 128 → cast_signed w128 n ≡ signed_from n
signed_is n h = sym (ap signed_from (sym (word_back n h))
    ∙ signed_back (cast_signed w128 n) n _ (sfits_to_z (record { fits = h }))
    (sym (of_z-to_z w128 n h)) refl)

-- what a builder adds of a signed integer is what its record adds
pub signed_adds : (r : Record) (b new : Built) (x : Result (Unit {0}) BuildFault) (n : ℕ)
    (y z : ℤ) →
    r.kind ≡ 4 → n ≡ number_of r → n < 2 ^ 128 → y ≡ cast_signed w128 n →
    z ≡ cast_signed w128 (cast_unsigned w128 y) →
    Adds (judged (suits_signed z) b) (with_leaf b (head.leaf (tree.signed z))) b new x →
    Adds (earlier_fault (scalar_fault r) (judged_node (scalar_head r) b))
    (with_node (scalar_head r) b) b new x
signed_adds r b new x n y z kind is small cast back h =
    let same : z ≡ signed_from (number_of r) =
    back ∙ ap (λ (w : ℤ). cast_signed w128 (cast_unsigned w128 w)) cast
    ∙ ap (cast_signed w128) (of_z-to_z w128 n small) ∙ signed_is n small ∙ ap signed_from is in
    rw kind (rw same at h)
