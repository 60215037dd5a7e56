-- What reading a whole registry answers, from what reading it as a part gave.
use Rattle.std.proofs.Common.{◌≡◌, ℕ, ◌-◌, ◌≤◌, List, ◌++◌, length, take}
use Rattle.std.proofs.Common.{drop, Ok, refl, sym, ap, ap₂, ◌∙◌, arith, inl, inr, length-append}
use Rattle.std.proofs.lemmas.List.{take_at}
use Rattle.scale_core.specs.Number.{AreBytes}
use Rattle.scale_core.proofs.Results.{done, done_is}
use Rattle.registry_core.specs.declared.fault.RegistryReason.{RegistryReason}
use Rattle.registry_core.specs.declared.reading.read_stop.ReadStop.{ReadStop}
use Rattle.registry_core.specs.declared.reading.read_stop.ReadStop.TheVariants.{Memory, Fault}
use Rattle.registry_core.specs.Answers.{FaultAnswers, out_of_memory}
use Rattle.registry_core.specs.Gives.{StopsReading, IsWithin, fault_of}
use Rattle.registry_core.specs.Reading.{Reader}
use Rattle.registry_core.specs.Laws.{ReadIsSpelled}
use Rattle.registry_core.proofs.Parts.{IsPart}
use Rattle.registry_core.proofs.Places.{after-length, drop-place}

module _ {X : Type 0} {Fits : X → Type 0} {spell : X → List ℕ} {at : Reader X}
    (part : IsPart Fits spell at) where
  -- ---- where it was read

  -- what was read fits, and its spelling and what is left are the bytes
  pub read_is_spelled : ReadIsSpelled Fits spell at
  read_is_spelled b x rest bytes e =
      let h = rw e at (part.takes b bytes) in (h.2.0, rw (← h.2.1) h.1)

  -- what is left where the part was read is no longer than the bytes
  pub ok_within : (b : List ℕ) (x : X) (rest : List ℕ) → at b ≡ Ok (x, rest) →
      length rest ≤ length b
  ok_within b x rest e = let h = part.inside b in after-length b rest (rw e at h)

  -- what is left stands after the bytes that were taken, counted as a difference of lengths
  pub ok_exact : (b : List ℕ) (x : X) (rest : List ℕ) → at b ≡ Ok (x, rest) →
      (length b - length rest ≤ length b) × (at b ≡ Ok (x, drop (length b - length rest) b))
  ok_exact b x rest e =
      let h = part.inside b in (omega arith, rw (e, drop-place b rest (rw e at h)) refl)

  -- what was read fits, and the bytes that it took are its spelling
  pub ok_found : (b : List ℕ) (x : X) (rest : List ℕ) → AreBytes b → at b ≡ Ok (x, rest) →
      Fits x × (take (length b - length rest) b ≡ spell x)
  ok_found b x rest bytes e =
      let s = read_is_spelled b x rest bytes e in
      let len : length (spell x ++ rest) - length rest ≡ length (spell x) =
      omega (arith, length-append (spell x) rest) in
      (s.0, rw (s.1, len) (take_at (spell x) rest (length (spell x)) refl))

  -- by what the answer shows of what was read and of how many bytes it took
  pub ok_only : {Y : Type 0} (shown : X → ℕ → Y) (b : List ℕ) (x : X) (rest : List ℕ) →
      at b ≡ Ok (x, rest) → (other : X) (more : List ℕ) → Fits other → b ≡ spell other ++ more →
      shown x (length b - length rest) ≡ shown other (length (spell other))
  ok_only shown b x rest e other more fits is =
      let one : done {E = RegistryReason} (x, rest) ≡ done (other, more) = sym e
      ∙ (ap at is ∙ part.again other more fits) in
      let same = done_is {E = RegistryReason} (x, rest) (other, more) one in
      let len : length b - length rest ≡ length (spell other) =
      omega (
        arith,
        ap (λ (x : List ℕ). length x) is,
        length-append (spell other) more,
        ap (λ (p : X × List ℕ). length p.1) same,
      ) in
      ap₂ shown (ap (λ (p : X × List ℕ). p.0) same) len

  -- ---- where it stopped

  -- where the reading stops, it stops within the bytes
  pub err_within : (b : List ℕ) (stop : ReadStop) → StopsReading stop (at b) → IsWithin b stop
  err_within b (Memory _) h = tt
  err_within b (Fault reason left) h =
      let i = part.inside b in after-length b left.now (rw h at i).0

  -- where the reading stops, the fault is the reading's, at its place
  pub err_exact : (b : List ℕ) (stop : ReadStop) → StopsReading stop (at b) →
      FaultAnswers b (fault_of (length b) stop) (at b)
  err_exact b (Memory _) h = inl refl
  err_exact b (Fault reason left) h =
      let i = part.inside b in inr (left.now, h, refl, (rw h at i).1.0)

  -- a reading that is done stops at an allocation failure only
  stopped : (stop : ReadStop) (b : List ℕ) (x : X × List ℕ) →
      StopsReading stop (done {E = RegistryReason} x) → fault_of (length b) stop ≡ out_of_memory
  stopped (Memory _) b x h = refl
  stopped (Fault reason left) b x h = absurd cc

  -- where bytes begin with a spelling, the reading stops at an allocation failure only
  pub err_only : (b : List ℕ) (stop : ReadStop) → StopsReading stop (at b) → (other : X)
      (more : List ℕ) → Fits other → b ≡ spell other ++ more →
      fault_of (length b) stop ≡ out_of_memory
  err_only b stop h other more fits is =
      let read : at b ≡ Ok (other, more) = ap at is ∙ part.again other more fits in
      stopped stop b (other, more) (rw read at h)
