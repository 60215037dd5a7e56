-- Bytes that were written into a buffer from a place on.
use Rattle.std.proofs.Common.{◌≡◌, ℕ, ◌+◌, ◌<◌, ◌≤◌, List, [], ◌∷◌, ◌++◌, length, take, drop, refl}
use Rattle.std.proofs.Common.{◌-◌}
use Rattle.std.proofs.Common.{ap, ap₂, ◌∙◌, append_assoc, drop-cons, slice_index_or, slice_set}
use Rattle.std.proofs.Common.{subst, arith, length-append, length-take-le, length-drop, take-add}
use Rattle.std.proofs.Common.{take_at, take-append-drop, sym, append-nil}
use Rattle.std.proofs.lemmas.List.{drop-drop, drop-set, take-set}
use Rattle.std.proofs.lemmas.Slice.{drop-put_mid, take-put_mid}
use borrow.Rule.Slice.PartMut.{put_mid, same_len_mid}
use Rattle.json.specs.Filled.{Placed}
use Rattle.json.proofs.Printed.Places.{Placed-then}
use Rattle.token_core.specs.Places.{OnlyPlaced}
use Rattle.token_core.proofs.Decimal.{drop_first}

-- digits that were written up to an end
pub digits_placed : (old new ds : List ℕ) (at start end : ℕ) → start + length ds ≡ end →
    end ≡ at + length ds → end ≤ length old → drop start new ≡ ds ++ drop end old →
    take start new ≡ take start old → Placed old new at ds end
digits_placed old new ds at start end ends moved within written before =
    let same : start ≡ at = omega (arith, ends, moved) in
    let front : take at new ≡ take at old = subst (λ i. take i new ≡ take i old) same before in
    let back : drop at new ≡ ds ++ drop end old =
    subst (λ i. drop i new ≡ ds ++ drop end old) same written in
    let short : at ≤ length old = omega (arith, moved, within) in
    record {
      bytes = ap (λ i. take i new) moved ∙ take-add at (length ds) new
          ∙ ap₂ (λ a b. a ++ take (length ds) b) front back
          ∙ ap (λ l. take at old ++ l) (take_at ds (drop end old) (length ds) refl);
      moved = moved;
      len = omega (
        arith,
        ap length (take-append-drop at new),
        length-append (take at new) (drop at new),
        ap length front,
        ap length back,
        length-append ds (drop end old),
        length-drop end old,
        length-take-le at old short,
      );
    }

-- a part of the buffer that was written has what was written
pub part_placed : (old ys xs : List ℕ) (at end : ℕ) → at ≤ end → end ≤ length old →
    length ys ≡ end - at → ys ≡ xs → OnlyPlaced old (put_mid at (end - at) old ys) at xs end
part_placed old ys xs at end ordered within long is =
    let count = end - at in
    let start : at ≤ length old = omega (arith, ordered, within) in
    let moved : end ≡ at + length ys = omega (arith, ordered, long) in
    let after : at + count ≤ end = omega (arith, ordered) in
    let part = length-take-le count (drop at old)
    (omega (arith, ordered, within, length-drop at old)) in
    subst (λ l. OnlyPlaced old (put_mid at count old ys) at l end) is (record {
      placed = record {
        bytes = take-put_mid at count old ys end moved start;
        moved = moved;
        len = same_len_mid at count old ys (omega (arith, long, part));
      };
      rest = drop-put_mid at count old ys end after start long;
    })

-- where nothing is written, no bytes are placed
pub nothing_placed : (old : List ℕ) (at : ℕ) → OnlyPlaced old old at [] at
nothing_placed old at = record {
  placed = record { bytes = sym (append-nil (take at old)); moved = omega arith; len = refl };
  rest = refl;
}

-- a second write begins where the first ended
pub OnlyPlaced-then : {a b c xs ys : List ℕ} {i j k : ℕ} → OnlyPlaced a b i xs j →
    OnlyPlaced b c j ys k → OnlyPlaced a c i (xs ++ ys) k
OnlyPlaced-then {a} {b} {c} {xs} {ys} {i} {j} {k} p q = record {
  placed = Placed-then p.placed q.placed;
  rest = q.rest ∙ ap (λ n. drop n b) q.placed.moved ∙ sym (drop-drop (length ys) j b)
      ∙ ap (drop (length ys)) p.rest ∙ drop-drop (length ys) j a
      ∙ ap (λ n. drop n a) (sym q.placed.moved);
}

-- after the first of some digits went over the last byte before a place, and this was put back, the
-- others stand at the place
pub last_placed : (old mid ds : List ℕ) (at n : ℕ) → at < length old → length ds ≡ n + 1 →
    at + 1 + n ≤ length old → drop at mid ≡ ds ++ drop (at + 1 + n) old →
    take at mid ≡ take at old →
    Placed old (slice_set mid at (slice_index_or old at 0)) (at + 1) (drop 1 ds) (at + 1 + n)
last_placed old mid ds at n inside long room written before =
    let x = slice_index_or old at 0 in
    let new = slice_set mid at x in
    let rest = drop (at + 1 + n) old in
    let fits : at < length mid =
    omega (
      arith,
      ap length (take-append-drop at mid),
      length-append (take at mid) (drop at mid),
      ap length before,
      length-take-le at old (omega (arith, inside)),
      ap length written,
      length-append ds rest,
      long,
    ) in
    let others : drop (at + 1) mid ≡ drop 1 ds ++ rest =
    sym (drop-drop 1 at mid) ∙ ap (drop 1) written
    ∙ drop_first ds rest (omega (arith, long)) in
    let front : take at new ≡ take at old = take-set mid at x ∙ before in
    let back : drop at new ≡ x ∷ (drop 1 ds ++ rest) =
    drop-set mid at x fits ∙ ap (λ (l : List ℕ). x ∷ l) others in
    let count : length (drop 1 ds) ≡ n = omega (arith, length-drop 1 ds, long) in
    let own : take (1 + n) (x ∷ (drop 1 ds ++ rest)) ≡ x ∷ drop 1 ds =
    take_at (x ∷ drop 1 ds) rest (1 + n) (omega (arith, count)) in
    let kept : take (at + 1) old ≡ take at old ++ x ∷ [] =
    take-add at 1 old ∙ ap (λ (l : List ℕ). take at old ++ take 1 l) (drop-cons old at 0 inside) in
    let many : at + 1 + n ≡ at + (1 + n) = omega arith in
    record {
      bytes = ap (λ i. take i new) many ∙ take-add at (1 + n) new
          ∙ ap₂ (λ a b. a ++ take (1 + n) b) front back ∙ ap (λ l. take at old ++ l) own
          ∙ sym (append_assoc (take at old) (x ∷ []) (drop 1 ds))
          ∙ ap (λ l. l ++ drop 1 ds) (sym kept);
      moved = omega (arith, count);
      len = omega (
        arith,
        ap length (take-append-drop at new),
        length-append (take at new) (drop at new),
        ap length front,
        length-take-le at old (omega (arith, inside)),
        ap length back,
        length-append (drop 1 ds) rest,
        count,
        length-drop (at + 1 + n) old,
        room,
      );
    }
