-- The shortest front that decides a compact.
use Rattle.std.proofs.Common.{◌≡◌, ℕ, zero, suc, ◌+◌, ◌-◌, ◌/◌, ◌%◌, ◌^◌, ◌<◌, ◌≤◌, ◌⊎◌, Bool, true}
use Rattle.std.proofs.Common.{false, cond, List, [], ◌∷◌, length, take, drop}
use Rattle.std.proofs.Common.{Ok, Err, refl, sym, ap, ◌∙◌, arith, inl, inr}
use Rattle.std.specs.Prelude.{◌≢◌, ◌==◌, nat_lt, not}
use Rattle.std.specs.Str.{bytes_eq}
use Rattle.std.proofs.lemmas.Bool.{cases_lt, le-ltb, lt-ltb}
use Rattle.std.proofs.lemmas.List.{append-nil, length-take-le}
use Rattle.scale_core.specs.Compact.{compact, target_bytes}
use Rattle.scale_core.specs.Read.{bytes_at, compact_at, integer_at, checked_mode}
use Rattle.scale_core.specs.Read.{mode_from, mode_number, is_too_long, mode_len}
use Rattle.scale_core.specs.declared.compact.Target.{Target}
use Rattle.scale_core.specs.declared.compact.Target.TheVariants as target
use Rattle.scale_core.specs.declared.fault.Reason.{Reason}
use Rattle.scale_core.specs.declared.fault.Reason.TheVariants as reasons
use Rattle.scale_core.proofs.Again.{bytes_again, compact_again}
use Rattle.scale_core.proofs.Results.{compact_takes, compact_extends, mapped}
use Rattle.outcome_core.specs.Taken.{compact_taken}
use Rattle.outcome_core.proofs.DecidingFronts.{DecidedBy, IsStable}

-- a reason is either that bytes are missing or another one
pub reason_reports : (e : Reason) → (e ≡ reasons.Truncated) ⊎ (e ≢ reasons.Truncated)
reason_reports reasons.Truncated = inl refl
reason_reports _ = inr (λ e. absurd cc)

-- a compact is read, or refused for good, whatever follows it
pub compact_steady : (m : Target) → IsStable reasons.Truncated (compact_at m)
compact_steady m = record {
  reports = reason_reports;
  extends = compact_extends m;
  exact = λ b. mapped _ _ b (compact_at m b) (compact_takes m b)
      (λ x c is more. compact_again m x c more is);
}

-- a compact has a byte at least
mode_len-pos : (first : ℕ) → 1 ≤ mode_len first
mode_len-pos first = go (first % 4 == 0) (first % 4 == 1) (first % 4 == 2) where
  go : (a b c : Bool) → 1 ≤ cond a 1 (cond b 2 (cond c 4 (first / 4 + 5)))
  go true b c = omega arith
  go false true c = omega arith
  go false false true = omega arith
  go false false false = omega arith

-- where fewer bytes are there than are wanted, they are cut at their end
pub short_bytes : (k : ℕ) (b : List ℕ) → length b < k → bytes_at k b ≡ Err (reasons.Truncated, [])
short_bytes k b lt = rw (lt-ltb (length b) k lt) refl

-- where just as many bytes are there as are wanted, all are read
pub whole_bytes : (k : ℕ) (b : List ℕ) → length b ≡ k → bytes_at k b ≡ Ok (b, [])
whole_bytes k b len = ap (bytes_at k) (sym (append-nil b)) ∙ bytes_again k b [] len

-- as many bytes as are wanted are read of just these
pub taken_bytes : (k : ℕ) (b : List ℕ) → k ≤ length b → bytes_at k (take k b) ≡ Ok (take k b, [])
taken_bytes k b le = whole_bytes k (take k b) (length-take-le k b le)

-- a compact that has fewer bytes than its first one says is cut
short_mode : (m : Target) (first : ℕ) (tail : List ℕ) → is_too_long m first ≡ false →
    length (first ∷ tail) < mode_len first →
    integer_at m (first ∷ tail) ≡ Err (reasons.Truncated, [])
short_mode m first tail e lt = rw (e, short_bytes (mode_len first) (first ∷ tail) lt) refl

-- a compact that has as many bytes as its first one says is judged by them, and none is left
whole_form : (m : Target) (first : ℕ) (tail : List ℕ) → is_too_long m first ≡ false →
    length (first ∷ tail) ≡ mode_len first →
    integer_at m (first ∷ tail) ≡ checked_mode m (first ∷ tail) (mode_number (first ∷ tail))
    (first ∷ tail) []
whole_form m first tail e len = rw (e, whole_bytes (mode_len first) (first ∷ tail) len) refl

-- some first bytes of a list, one at least, begin with its first byte
take_cons : (k first : ℕ) (tail : List ℕ) → 1 ≤ k →
    take k (first ∷ tail) ≡ first ∷ take (k - 1) tail
take_cons zero first tail h = absurd (omega arith)
take_cons (suc k) first tail h = ap (λ (i : ℕ). first ∷ take i tail) (omega arith)

-- a compact whose bytes are all there is decided by them and by no fewer
form_decided : (m : Target) (first : ℕ) (tail : List ℕ) → is_too_long m first ≡ false →
    mode_len first ≤ length (first ∷ tail) →
    DecidedBy reasons.Truncated (integer_at m) (first ∷ tail) (mode_len first)
    (checked_mode m (first ∷ tail) (mode_number (take (mode_len first) (first ∷ tail)))
    (take (mode_len first) (first ∷ tail)) (drop (mode_len first) (first ∷ tail)))
form_decided m first tail e le =
    go (not (bytes_eq (compact (mode_number form)) form))
    (nat_lt (mode_number form) (256 ^ target_bytes m)) refl refl where
      form : List ℕ
      form = take (mode_len first) (first ∷ tail)

      split : form ≡ first ∷ take (mode_len first - 1) tail
      split = take_cons (mode_len first) first tail (mode_len-pos first)

      whole : integer_at m form ≡ checked_mode m form (mode_number form) form []
      whole =
          let len : length (first ∷ take (mode_len first - 1) tail) ≡ mode_len first =
          sym (ap length split) ∙ length-take-le (mode_len first) (first ∷ tail) le in
          ap (integer_at m) split ∙ whole_form m first (take (mode_len first - 1) tail) e len
          ∙ ap (λ (z : List ℕ). checked_mode m z (mode_number z) z []) (sym split)

      early : (j : ℕ) → j < mode_len first → (left : List ℕ)
          × (integer_at m (take j (first ∷ tail)) ≡ Err (reasons.Truncated, left))
      early zero lt = ([], refl)
      early (suc j) lt = (
        [],
        short_mode m first (take j tail) e
            (omega (arith, length-take-le (suc j) (first ∷ tail) (omega arith))),
      )

      go : (a b : Bool) → not (bytes_eq (compact (mode_number form)) form) ≡ a →
          nat_lt (mode_number form) (256 ^ target_bytes m) ≡ b →
          DecidedBy reasons.Truncated (integer_at m) (first ∷ tail) (mode_len first)
          (cond a (Err (reasons.CompactNotShortest, first ∷ tail))
          (cond b (Ok (mode_number form, drop (mode_len first) (first ∷ tail)))
          (Err (reasons.CompactTooLarge, first ∷ tail))))
      go true b p q = λ ne. record { there = le; front = (form, whole ∙ rw p refl); early = early }
      go false true p q = tt
      go false false p q = λ ne. record {
        there = le;
        front = (form, whole ∙ rw (p, q) refl);
        early =
            early;
      }

-- a compact integer that is refused for good is decided by what is said to be taken
integer_decided : (m : Target) (b : List ℕ) →
    DecidedBy reasons.Truncated (integer_at m) b (compact_taken m b) (integer_at m b)
integer_decided m [] = λ ne. absurd (ne refl)
integer_decided m (first ∷ tail) = go (is_too_long m first) refl where
  one : is_too_long m first ≡ true → (j : ℕ) → j < 1 → (left : List ℕ)
      × (integer_at m (take j (first ∷ tail)) ≡ Err (reasons.Truncated, left))
  one e zero lt = ([], refl)
  one e (suc j) lt = absurd (omega arith)

  go : (t : Bool) → is_too_long m first ≡ t →
      DecidedBy reasons.Truncated (integer_at m) (first ∷ tail) (cond t 1 (mode_len first))
      (cond t (Err (reasons.CompactTooLarge, first ∷ tail))
      (mode_from m (first ∷ tail) (bytes_at (mode_len first) (first ∷ tail))))
  go true e = λ ne. record { there = omega arith; front = (first ∷ [], rw e refl); early = one e }
  go false e = elim (cases_lt (length (first ∷ tail)) (mode_len first)) [
    | inl lt ↦ rw (short_bytes (mode_len first) (first ∷ tail) lt) (λ ne. absurd (ne refl))
    | inr le ↦ rw (le-ltb (length (first ∷ tail)) (mode_len first) le)
        (form_decided m first tail e le)
  ]

-- the same for a compact of any target
pub compact_decided : (m : Target) (b : List ℕ) →
    DecidedBy reasons.Truncated (compact_at m) b (compact_taken m b) (compact_at m b)
unfolding compact_at
compact_decided target.Unit b = tt
compact_decided m b = integer_decided m b
