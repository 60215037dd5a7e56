-- Registries, and registries in metadata.
use Rattle.std.proofs.Common.{◌≡◌, ℕ, zero, suc, ◌+◌, ◌<◌, ◌≤◌, ◌^◌, Bool, true, false, cond}
use Rattle.std.proofs.Common.{List, [], ◌∷◌, ◌++◌, length, Some, None, Ok, Err, refl, ap, ◌∙◌}
use Rattle.std.proofs.Common.{append_assoc, arith}
use Rattle.std.specs.Prelude.{◌==◌}
use Rattle.std.specs.List.{AllByRecursion}
use Rattle.std.proofs.lemmas.Bool.{eqb-true, eq-eqb}
use Rattle.scale_core.specs.Compact.{compact}
use Rattle.scale_core.specs.Read.{Read, ◌>>=◌}
use Rattle.scale_core.proofs.Results.{Takes, cond_takes, bind_extends, cond_extends}
use Rattle.registry_core.specs.AsRead.{ReadType, ReadRegistry}
use Rattle.registry_core.specs.declared.fault.RegistryReason.{RegistryReason}
use Rattle.registry_core.specs.declared.fault.RegistryReason.TheVariants as registry
use Rattle.registry_core.specs.declared.version.Version.{Version}
use Rattle.registry_core.specs.declared.version.Version.TheVariants.{V14, V15}
use Rattle.registry_core.specs.Bytes.{magic, version_byte, version_of}
use Rattle.registry_core.specs.Spelling.{types_from, spelling}
use Rattle.registry_core.specs.Reading.{length_at, id_at, types_at, registry_at, letter_at}
use Rattle.registry_core.specs.Reading.{letters_at, version_at, prefix_at, metadata_at}
use Rattle.registry_core.specs.Laws.{FitsMetadata, metadata_of}
use Rattle.registry_core.proofs.Inside.{Inside, at_front, inside_cond}
use Rattle.registry_core.proofs.Parts.{IsReported, Spelled, IsPart, last, tail, then, made}
use Rattle.registry_core.proofs.Atoms.{length_is, IsBehind, taken, refused, tagged_is, named_is}
use Rattle.registry_core.proofs.Definitions.{type_is}

-- ---- types

-- what was read, if it passes a test; else it is rejected at the bytes b
abbrev pub tested : {X : Type 0} → RegistryReason → List ℕ → Bool → X × List ℕ →
    Read RegistryReason X
tested reason b t x = cond t (Ok x) (Err (reason, b))

-- an id that has to be i
pub position_is : (i : ℕ) → IsPart (λ j. (j ≡ i) × (j < 2 ^ 32)) compact (id_at i)
position_is i = record {
  takes = λ b bytes. takes_of b (length_at b) (length_is.takes b bytes);
  again = λ j rest fits. rw (length_is.again j rest fits.1, eq-eqb j i fits.0) refl;
  inside = λ b. inside_of b (length_at b) (length_is.inside b);
  extends = λ b more. bind_extends registry.Truncated more (length_at b) (length_at (b ++ more))
      (checked b) (checked (b ++ more)) (length_is.extends b more) (λ id.
      cond_extends registry.Truncated more (id.0 == i) _ _ _ _ refl (λ ne. refl));
} where
  checked : List ℕ → ℕ × List ℕ → Read RegistryReason ℕ
  checked b id = tested registry.IdOutOfPlace b (id.0 == i) id

  takes_of : (b : List ℕ) (r : Read RegistryReason ℕ) →
      Takes (Spelled (λ n. n < 2 ^ 32) compact) b r →
      Takes (Spelled (λ j. (j ≡ i) × (j < 2 ^ 32)) compact) b (r >>= checked b)
  takes_of b (Ok id) h = cond_takes (Spelled (λ j. (j ≡ i) × (j < 2 ^ 32)) compact) b
      (id.0 == i) (Ok id) (Err (registry.IdOutOfPlace, b))
      (λ e. (h.0, h.1, ((eqb-true id.0 i e, h.2.0), h.2.1))) (λ e. tt)
  takes_of b (Err e) h = tt

  inside_of : (b : List ℕ) (r : Read RegistryReason ℕ) → Inside IsReported b r →
      Inside IsReported b (r >>= checked b)
  inside_of b (Ok id) h =
      inside_cond IsReported b (id.0 == i) (Ok id) (Err (registry.IdOutOfPlace, b)) h
      (at_front b, (λ e. absurd cc, λ e. absurd cc))
  inside_of b (Err e) h = h

-- n more positions after i end at 2 ^ 32 at most, if i is below it and those from i + 1 on do
end_of : (i n : ℕ) → i < 2 ^ 32 → (0 < n → (i + 1) + n ≤ 2 ^ 32) → i + suc n ≤ 2 ^ 32
end_of i zero small h = omega arith
end_of i (suc n) small h = omega (arith, h (omega arith))

-- n types, from position i on, each after its position
types_is : (n i : ℕ) →
    IsPart (λ r. (length r ≡ n) × AllByRecursion ReadType r × (0 < n → i + n ≤ 2 ^ 32))
    (types_from i) (types_at n i)
types_is zero i = record {
  takes = λ b bytes. ([], refl, ((refl, tt, λ h. absurd (omega (arith, h))), refl));
  again = elim [ [] ↦ λ rest fits. refl | t ∷ ts ↦ λ rest fits. absurd (omega (arith, fits.0)) ];
  inside = at_front;
  extends = λ b more. refl;
}
types_is (suc n) i =
    made (then (position_is i) (λ _. then type_is (λ t. last (types_is n (i + 1)) (λ ts. t ∷ ts))))
    (λ x h. (
      (
        ap (λ (k : ℕ). suc k) h.1.1.0,
        (h.1.0, h.1.1.1),
        λ some. end_of i n (omega (arith, h.0)) h.1.1.2,
      ),
      rw h.0.0 (simp append_assoc),
    ))
    (elim [
      | [] ↦ λ h. absurd (omega (arith, h.0))
      | t ∷ ts ↦ λ h. let small : i + suc n ≤ 2 ^ 32 = h.2 (omega arith) in (
        (i, (t, ts)),
        (
          (refl, omega (arith, small)),
          (h.1.0, (omega (arith, h.0), h.1.1, λ some. omega (arith, small))),
        ),
        refl,
      )
    ])

-- a registry
pub registry_is : IsPart ReadRegistry spelling registry_at
unfolding registry_at spelling
registry_is = made (then length_is (λ n. tail (types_is n 0)))
    (λ x h. ((omega (arith, h.0, h.1.0), h.1.1), rw h.1.0 refl))
    (λ r h. ((length r, r), (h.0, (refl, h.1, λ some. omega (arith, h.0))), refl))

-- ---- metadata

-- a letter
pub letter_is : (letter : ℕ) → IsPart (λ _. Unit {0}) (λ _. letter ∷ []) (letter_at letter)
letter_is letter = tagged_is refl (λ x. by x (x == letter) (eqb-true x letter))
    (λ x rest fits. rw (eq-eqb letter letter refl) refl) where
      by : (x : ℕ) (t : Bool) → (t ≡ true → x ≡ letter) →
          IsBehind (λ _. Unit {0}) (λ _. letter ∷ []) x
          (λ b. cond t (Ok (tt {0}, b)) (Err (registry.NotMetadata, x ∷ b)))
      by x true is = taken x tt (λ small. (tt, ap (λ (n : ℕ). n ∷ []) (is refl)))
      by x false is = refused x registry.NotMetadata (λ e. absurd cc) (λ e. absurd cc)

-- letters in their order
pub letters_is : (letters : List ℕ) → IsPart (λ _. Unit {0}) (λ _. letters) (letters_at letters)
letters_is [] = record {
  takes = λ b bytes. ([], refl, (tt, refl));
  again = λ x rest fits. refl;
  inside = at_front;
  extends = λ b more. refl;
}
letters_is (letter ∷ letters) = made (then (letter_is letter) (λ _. tail (letters_is letters)))
    (λ x h. (tt, refl)) (λ x h. ((tt, tt), (tt, tt), refl))

-- a byte that reports a version is that version's
reported_by : (fourteen fifteen : Bool) (x : ℕ) (v : Version) → (fourteen ≡ true → x ≡ 14) →
    (fifteen ≡ true → x ≡ 15) → cond fourteen (Some V14) (cond fifteen (Some V15) None) ≡ Some v →
    x ≡ version_byte v
reported_by true fifteen x v first second e =
    let same : V14 ≡ v = cc in first refl ∙ ap version_byte same
reported_by false true x v first second e =
    let same : V15 ≡ v = cc in second refl ∙ ap version_byte same
reported_by false false x v first second e = absurd cc

-- a byte that names a version is its byte
pub byte_of_version : (x : ℕ) (v : Version) → version_of x ≡ Some v → x ≡ version_byte v
byte_of_version x v = reported_by (x == 14) (x == 15) x v (eqb-true x 14) (eqb-true x 15)

-- the byte of a version names it
pub version_of_byte : (v : Version) → version_of (version_byte v) ≡ Some v
version_of_byte V14 = refl
version_of_byte V15 = refl

-- a version
pub version_is : IsPart (λ _. Unit {0}) (λ v. version_byte v ∷ []) version_at
version_is = named_is registry.WrongVersion version_of version_byte (λ e. absurd cc)
    (λ e. absurd cc) byte_of_version version_of_byte

-- the prefix of metadata
prefix_is : IsPart (λ _. Unit {0}) (λ v. magic ++ version_byte v ∷ []) prefix_at
unfolding prefix_at
prefix_is = made (then (letters_is magic) (λ _. tail version_is)) (λ x h. (tt, refl))
    (λ v h. ((tt, v), (tt, tt), refl))

-- metadata
pub metadata_is : IsPart FitsMetadata metadata_of metadata_at
unfolding metadata_at
metadata_is = made (then prefix_is (λ v. last registry_is (λ types. (types, v))))
    (λ x h. (h.1, refl)) (λ m h. ((m.1, m.0), (tt, h), refl))
