-- Runs that stand whole on the front of a piece, and pieces on whose front none does.
use Rattle.std.proofs.Common.{◌≡◌, ℕ, ◌<◌, ◌≤◌, ◌*◌, ◌^◌, List, length, take, drop, Option, Some}
use Rattle.std.proofs.Common.{None, Ok, Err, ◌+◌}
use Rattle.std.proofs.Common.{◌++◌, ◌⊎◌, Bor, false, inl, inr, refl, sym, ap, subst, ◌∙◌, arith}
use Rattle.std.proofs.Common.{length-append}
use Rattle.std.specs.Prelude.{IsErr, IsUtf8}
use Rattle.std.specs.Str.{is_utf8}
use Rattle.std.proofs.lemmas.Bool.{false_from_ne_true, lt-ltb}
use Rattle.std.proofs.lemmas.List.{drop-drop, length-drop, length-take}
use Rattle.std.proofs.lemmas.List.{take-append-drop, take_at}
use Rattle.std.proofs.lemmas.Str.{IsUtf8-from_is_utf8}
use Rattle.scale_core.specs.Read.{Read, ◌>>=◌, bytes_at}
use Rattle.scale_core.specs.declared.fault.Reason.{Reason}
use Rattle.scale_core.proofs.Again.{bytes_again}
use Rattle.scale_core.proofs.Results.{Takes, bytes_takes}
use Rattle.widths_core.specs.declared.run_kind.RunKind.{RunKind}
use Rattle.widths_core.specs.declared.run_kind.RunKind.TheVariants as kind
use Rattle.grammar_core.specs.Preorder as head
use Rattle.widths_core.specs.RunBytes.{run_bytes}
use Rattle.types_core.specs.Bits.{bits_bytes, first_unused}
use Rattle.types_core.specs.declared.bits.BitForm.{BitForm}
use Rattle.types_core.proofs.BitWords.{bits_cover}
use Rattle.grammar_core.specs.Runs.{IsRun, SpellsRun, body_at, run_at, run_judged, run_leaf}
use Rattle.grammar_core.specs.Runs.{run_length_at, words_at}
use Rattle.grammar_core.proofs.Runs.{body_again, run_takes}
use Rattle.node_core.specs.Leaves.{leaf_head, FitsLeaf}
use Rattle.node_core.specs.declared.leaf.Leaf.{Leaf}
use Rattle.node_core.specs.declared.leaf.Leaf.TheVariants as leaf
use Rattle.form_core.specs.WholeRuns.{IsAtFront, IsLengthAtFront, ReadsRun, run_bytes_at}

-- what is read, with so many bytes, stood on the front in its one spelling
pub spelled_by : {X : Type 0} (P : X → List ℕ → Type 0) (piece : List ℕ) (x : X) (count : ℕ)
    (read : Read Reason X) → count ≤ length piece → Takes P piece read →
    read ≡ Ok (x, drop count piece) → P x (take count piece)
spelled_by P piece x count (Err e) within h is = absurd cc
spelled_by P piece x count (Ok y) within h is =
    let rest : y.1 ≡ drop count piece = cc in
    let same : y.0 ≡ x = cc in
    let long : length h.0 ≡ count =
    omega (
      arith,
      within,
      ap length h.1,
      length-append h.0 y.1,
      ap length rest,
      length-drop count piece,
    ) in
    let front : take count piece ≡ h.0 = ap (take count) h.1 ∙ take_at h.0 y.1 count long in
    subst (λ z. P z (take count piece)) same (subst (P y.0) (sym front) h.2)

-- so did a run that a piece has whole
pub run_spelled : (k : RunKind) (piece : List ℕ) (l : Leaf) (count : ℕ)
    (h : ReadsRun k piece l count) → SpellsRun k h.run.0 h.run.1 (take count piece)
run_spelled k piece l count h =
    spelled_by (λ x c. SpellsRun k x.0 x.1 c) piece h.run count (run_at k piece) h.within
    (run_takes k piece) h.read

-- the bytes of a run with its length
abbrev pub bind_done : ℕ → List ℕ × List ℕ → Read Reason (ℕ × List ℕ)
bind_done n s = Ok ((n, s.0), s.1)

-- where a length is read, and its bytes stand after it, they are those of the run
pub bytes_read : (k : RunKind) (piece s : List ℕ) (n start : ℕ) →
    IsLengthAtFront k piece n start → run_bytes k n < 2 ^ 32 →
    run_bytes k n ≤ length (drop start piece) → s ≡ take (run_bytes k n) (drop start piece) →
    IsAtFront k piece (n, s) (start + run_bytes k n)
unfolding run_bytes_at
bytes_read k piece s n start h few enough is =
    let rest = drop start piece in
    let size = run_bytes k n in
    let parts : run_length_at k piece ≡ Ok (n, take size rest ++ drop size rest) = h.read
    ∙ ap (λ (l : List ℕ). Ok (n, l)) (sym (take-append-drop size rest)) in
    let long : length (take size rest) ≡ size = omega (arith, length-take size rest, enough) in
    let read : run_bytes_at k piece ≡ Ok ((n, take size rest), drop size rest) =
    rw (parts, bytes_again size (take size rest) (drop size rest) long) refl in
    record {
      few = h.few;
      short = omega (arith, few, long, ap length is);
      whole = ap length is ∙ long;
      within = omega (arith, h.within, enough, length-drop start piece);
      read = read ∙ ap (λ (l : List ℕ). Ok ((n, take size rest), l)) (drop-drop size start piece)
          ∙ ap (λ (l : List ℕ). Ok ((n, l), drop (start + size) piece)) (sym is);
    }

-- what was read of a run's bytes: its length, and what stands after that
pub record IsParted (k : RunKind) (piece : List ℕ) (run : ℕ × List ℕ) (rest : List ℕ) : Type 0 where
  pub long : run_length_at k piece ≡ Ok (run.0, run.1 ++ rest)

-- a run that was read is parted so
pub parted : (k : RunKind) (piece : List ℕ) (run : ℕ × List ℕ) (rest : List ℕ) →
    run_bytes_at k piece ≡ Ok (run, rest) → IsParted k piece run rest
unfolding run_bytes_at
parted k piece run rest h = by (run_length_at k piece) refl h where
  after : (x : ℕ × List ℕ) (s : Read Reason (List ℕ)) →
      Takes (λ y c. (c ≡ y) × (length c ≡ run_bytes k x.0)) x.1 s →
      (s >>= λ y. bind_done x.0 y) ≡ Ok (run, rest) → x ≡ (run.0, run.1 ++ rest)
  after x (Err e) t h = absurd cc
  after x (Ok y) t h =
      let pair : ((x.0, y.0), y.1) ≡ (run, rest) = cc in
      let same : x.0 ≡ run.0 = ap (λ (p : (ℕ × List ℕ) × List ℕ). p.0.0) pair in
      let parts : y.0 ++ y.1 ≡ run.1 ++ rest =
      ap (λ (p : (ℕ × List ℕ) × List ℕ). p.0.1 ++ p.1) pair in
      rw (← same, ← parts, ← t.2.0, ← t.1) refl

  by : (n : Read Reason ℕ) → run_length_at k piece ≡ n →
      (n >>= (λ x. bytes_at (run_bytes k x.0) x.1 >>= λ y. bind_done x.0 y)) ≡ Ok (run, rest) →
      IsParted k piece run rest
  by (Err e) is h = absurd cc
  by (Ok x) is h = record {
    long = is ∙ ap (λ (z : ℕ × List ℕ). Ok z)
        (after x (bytes_at (run_bytes k x.0) x.1) (bytes_takes (run_bytes k x.0) x.1) h);
  }

-- the leaf of these bytes stands whole on the front
pub run_is : (k : RunKind) (piece : List ℕ) (run : ℕ × List ℕ) (l : Leaf) (count : ℕ) →
    IsAtFront k piece run count → IsRun k run.0 run.1 → leaf_head l ≡ head.leaf (run_leaf k run) →
    FitsLeaf l → ReadsRun k piece l count
unfolding run_at
run_is k piece run l count h valid same fits =
    let parts = parted k piece run (drop count piece) h.read in
    record {
      run = run;
      few = h.few;
      head = same;
      fits = fits;
      within = h.within;
      read = rw (
        parts.long,
        body_again k run.0 run.1 (drop count piece) h.whole valid,
      ) refl;
    }

-- a run of bytes may be any bytes
pub bytes_are : (k : RunKind) (piece : List ℕ) (n : ℕ) (b : Bor (List ℕ)) (count : ℕ) →
    (k ≡ kind.Bytes) ⊎ ((m : ℕ) × (k ≡ kind.ByteArray m)) → IsAtFront k piece (n, b.now) count →
    ReadsRun k piece (leaf.Bytes b) count
bytes_are kind.Text piece n b count (inl e) h = absurd cc
bytes_are kind.Text piece n b count (inr e) h = let no = e.1 in absurd cc
bytes_are (kind.Bits f) piece n b count (inl e) h = absurd cc
bytes_are (kind.Bits f) piece n b count (inr e) h = let no = e.1 in absurd cc
bytes_are kind.Bytes piece n b count is h =
    run_is kind.Bytes piece (n, b.now) (leaf.Bytes b) count h tt refl h.short
bytes_are (kind.ByteArray m) piece n b count is h =
    run_is (kind.ByteArray m) piece (n, b.now) (leaf.Bytes b) count h tt refl h.short

-- words without unused bits of 1 are a bit sequence
pub bits_are : (f : BitForm) (piece : List ℕ) (n : ℕ) (b : Bor (List ℕ)) (count : ℕ) →
    IsAtFront (kind.Bits f) piece (n, b.now) count → first_unused f n 0 b.now ≡ None →
    ReadsRun (kind.Bits f) piece (leaf.Bits n b) count
bits_are f piece n b count h clean = let cover = bits_cover f n in
    run_is (kind.Bits f) piece (n, b.now) (leaf.Bits n b) count h clean refl
    (h.few, omega (arith, h.whole, cover.0), omega (arith, h.whole, cover.1))

-- ---- where none does

-- bytes that are not UTF-8 are no text
pub no_text : (piece : List ℕ) (run : ℕ × List ℕ) (count : ℕ) →
    IsAtFront kind.Text piece run count → (IsUtf8 run.1 → ⊥) → IsErr (run_at kind.Text piece)
unfolding run_at body_at
no_text piece run count h bad =
    let parts = parted kind.Text piece run (drop count piece) h.read in
    let not : is_utf8 run.1 ≡ false =
    false_from_ne_true _ (λ e. bad (IsUtf8-from_is_utf8 run.1 e)) in
    rw (parts.long, bytes_again run.0 run.1 (drop count piece) h.whole, not) refl

-- words with an unused bit of 1 are no bit sequence
pub no_bits : (f : BitForm) (piece : List ℕ) (run : ℕ × List ℕ) (count i : ℕ) →
    IsAtFront (kind.Bits f) piece run count → first_unused f run.0 0 run.1 ≡ Some i →
    IsErr (run_at (kind.Bits f) piece)
unfolding run_at body_at
no_bits f piece run count i h bad =
    let parts = parted (kind.Bits f) piece run (drop count piece) h.read in
    rw (parts.long, take_at run.1 (drop count piece) (bits_bytes f run.0) h.whole, bad) refl

-- a run whose length is rejected has no bytes
pub no_length : (k : RunKind) (piece : List ℕ) → IsErr (run_length_at k piece) →
    IsErr (run_bytes_at k piece)
unfolding run_bytes_at
no_length k piece h = by (run_length_at k piece) h where
  by : (n : Read Reason ℕ) → IsErr n →
      IsErr (n >>= (λ x. bytes_at (run_bytes k x.0) x.1 >>= λ s. bind_done x.0 s))
  by (Err e) h = refl
  by (Ok x) h = absurd cc

-- nor one that lacks some
pub too_few_bytes : (k : RunKind) (piece : List ℕ) (n : ℕ) (rest : List ℕ) →
    run_length_at k piece ≡ Ok (n, rest) → length rest < run_bytes k n →
    IsErr (run_bytes_at k piece)
unfolding run_bytes_at
too_few_bytes k piece n rest h few = rw (h, lt-ltb (length rest) (run_bytes k n) few) refl

-- a length is added to what was read alone
undone : (n : ℕ) (s : Read Reason (List ℕ)) → IsErr (s >>= λ x. bind_done n x) → IsErr s
undone n (Err e) h = refl
undone n (Ok x) h = absurd cc

-- a length that is refused refuses the run
still : (n : ℕ) (s : Read Reason (List ℕ)) → IsErr s → IsErr (s >>= λ x. bind_done n x)
still n (Err e) h = refl
still n (Ok x) h = absurd cc

-- bytes that are not there are not those of a run
no_body : (k : RunKind) (n : ℕ) (b : List ℕ) → IsErr (bytes_at (run_bytes k n) b) →
    IsErr (body_at k n b)
unfolding body_at
no_body k n b h = go k h where
  part : (k : RunKind) (x : Read Reason (List ℕ)) → IsErr x → IsErr (x >>= run_judged k b)
  part k (Err e) h = refl
  part k (Ok x) h = absurd cc

  words : (f : BitForm) (o : Option ℕ) → IsErr (bytes_at (bits_bytes f n) b) →
      IsErr (words_at o (bits_bytes f n) b)
  words f (Some i) h = refl
  words f None h = h

  go : (k : RunKind) → IsErr (bytes_at (run_bytes k n) b) → IsErr (body_at k n b)
  go kind.Text h = part kind.Text (bytes_at n b) h
  go kind.Bytes h = part kind.Bytes (bytes_at n b) h
  go (kind.ByteArray m) h = part (kind.ByteArray m) (bytes_at n b) h
  go (kind.Bits f) h = words f (first_unused f n 0 (take (bits_bytes f n) b)) h

-- where no bytes are read no run is
pub no_run : (k : RunKind) (piece : List ℕ) → IsErr (run_bytes_at k piece) →
    IsErr (run_at k piece)
unfolding run_at run_bytes_at
no_run k piece h = by (run_length_at k piece) h where
  part : (x : ℕ × List ℕ) → IsErr (bytes_at (run_bytes k x.0) x.1 >>= λ s. bind_done x.0 s) →
      IsErr (body_at k x.0 x.1 >>= λ s. bind_done x.0 s)
  part x h = still x.0 (body_at k x.0 x.1)
      (no_body k x.0 x.1 (undone x.0 (bytes_at (run_bytes k x.0) x.1) h))

  by : (n : Read Reason ℕ) →
      IsErr (n >>= (λ x. bytes_at (run_bytes k x.0) x.1 >>= λ s. bind_done x.0 s)) →
      IsErr (n >>= (λ x. body_at k x.0 x.1 >>= λ s. bind_done x.0 s))
  by (Err e) h = refl
  by (Ok x) h = part x h
