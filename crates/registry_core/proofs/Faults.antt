-- The laws of faults: where they stand, that they stay, and that a front of a spelling is cut.
use Rattle.std.proofs.Common.{◌≡◌, ℕ, List, [], ◌∷◌, ◌++◌, Ok, Err, refl, sym, ap, ◌∙◌, inl, inr}
use Rattle.std.proofs.lemmas.List.{append-nil}
use Rattle.std.specs.Prelude.{◌≢◌, ◌⊎◌}
use Rattle.scale_core.specs.Read.{Read}
use Rattle.scale_core.proofs.Results.{Extends, done_is}
use Rattle.registry_core.specs.declared.fault.RegistryReason.{RegistryReason}
use Rattle.registry_core.specs.declared.fault.RegistryReason.TheVariants as reasons
use Rattle.registry_core.specs.Reading.{Reader}
use Rattle.registry_core.specs.Laws.{FaultIsWithin, FaultIsKept, FrontIsCut}
use Rattle.registry_core.proofs.Inside.{Inside}
use Rattle.registry_core.proofs.Parts.{IsReported, IsPart}

-- where two lists are none when joined, the second is none
nil_after : (a b : List ℕ) → a ++ b ≡ [] → b ≡ []
nil_after [] b e = e
nil_after (x ∷ a) b e = absurd cc

-- a reason is that the bytes end too soon, or it is another
is_cut : (reason : RegistryReason) → (reason ≡ reasons.Truncated) ⊎ (reason ≢ reasons.Truncated)
is_cut reasons.Truncated = inl refl
is_cut _ = inr (λ e. absurd cc)

abbrev fault : {X : Type 0} → RegistryReason → List ℕ → Read RegistryReason X
fault reason left = Err (reason, left)

-- faults of one reason that leave the same bytes are the same
same_fault : {X : Type 0} (x y : RegistryReason) (a b : List ℕ) → x ≡ y → a ≡ b →
    fault {X = X} x a ≡ fault y b
same_fault x y a b e k = cc

-- a front of what is read whole is read whole or is cut
cut_of : {X : Type 0} (r : X) (front more : List ℕ) (read longer : Read RegistryReason X) →
    Inside IsReported front read → Extends reasons.Truncated more read longer →
    longer ≡ Ok (r, []) → more ≢ [] → read ≡ Err (reasons.Truncated, [])
cut_of {X = X} r front more (Ok x) longer inside extends whole ne =
    let same = done_is {E = RegistryReason} (x.0, x.1 ++ more) (r, []) (sym extends ∙ whole) in
    absurd (ne (nil_after x.1 more (ap (λ (p : X × List ℕ). p.1) same)))
cut_of r front more (Err e) longer inside extends whole ne = elim (is_cut e.0) [
  | inl same ↦ same_fault e.0 reasons.Truncated e.1 [] same (inside.1.1 same)
  | inr other ↦ let both = sym whole ∙ extends other in absurd cc
]

module _ {X : Type 0} {Fits : X → Type 0} {spell : X → List ℕ} {at : Reader X}
    (part : IsPart Fits spell at) where
  -- a fault stands within the bytes
  pub fault_is_within : FaultIsWithin at
  fault_is_within b reason left e =
      let h = part.inside b in let t = rw e at h in (t.0, t.1.0, t.1.1)

  -- a fault stays the same however the bytes go on, where they were not cut
  pub fault_is_kept : FaultIsKept at
  fault_is_kept b more reason left e ne = let h = part.extends b more in (rw e at h) ne

  -- a shorter front of a spelling is rejected as cut
  pub front_is_cut : FrontIsCut Fits spell at
  front_is_cut r front more fits split ne =
      let whole : at (front ++ more) ≡ Ok (r, []) =
      rw (← split) (rw append-nil at (part.again r [] fits)) in
      cut_of r front more (at front) (at (front ++ more)) (part.inside front)
      (part.extends front more) whole ne
