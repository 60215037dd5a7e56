-- The laws of a part of a registry, and of parts that are read one after the other.
use Rattle.std.proofs.Common.{◌≡◌, ℕ, List, [], ◌++◌, Ok, Err, refl, sym, ap, ◌∙◌}
use Rattle.std.proofs.Common.{append_assoc, inl, inr}
use Rattle.std.specs.Prelude.{◌≢◌, ◌⊎◌}
use Rattle.std.proofs.lemmas.List.{append-nil}
use Rattle.growth_core.specs.Evidence.{evidence}
use Rattle.scale_core.specs.Number.{AreBytes}
use Rattle.scale_core.specs.Read.{Read, ◌>>=◌}
use Rattle.scale_core.proofs.Numbers.{rest_bytes}
use Rattle.scale_core.proofs.Results.{Takes, Extends, bind_extends, mapped, then_takes}
use Rattle.registry_core.specs.declared.fault.RegistryReason.{RegistryReason}
use Rattle.registry_core.specs.declared.fault.RegistryReason.TheVariants as registry
use Rattle.registry_core.specs.Laws.{SpelledIsRead}
use Rattle.registry_core.specs.Reading.{Reader}
use Rattle.registry_core.specs.Splits.{Refusals, Fails, Then, AreFaults}
use Rattle.registry_core.proofs.Inside.{Inside, at_front, inside_then}

-- a fault of a registry is no allocation failure, and a cut leaves nothing
abbrev pub IsReported : RegistryReason → List ℕ → Type 0
IsReported reason left = (reason ≢ registry.OutOfMemory evidence)
    × (reason ≡ registry.Truncated → left ≡ [])

-- what is read fits, and is spelled so
abbrev pub Spelled : {X : Type 0} → (X → Type 0) → (X → List ℕ) → X → List ℕ → Type 0
Spelled Fits spell x c = Fits x × (c ≡ spell x)

-- the laws of a part: what has a spelling, the spelling, and the reader
pub record IsPart {X : Type 0} (Fits : X → Type 0) (spell : X → List ℕ) (at : Reader X) :
    Type 0 where
  -- the bytes that a reading takes are the spelling of what it reads
  pub takes : (b : List ℕ) → AreBytes b → Takes (Spelled Fits spell) b (at b)
  -- a spelling is read as what it spells
  pub again : SpelledIsRead Fits spell at
  -- a fault lies within the bytes
  pub inside : (b : List ℕ) → Inside IsReported b (at b)
  -- more bytes at the end change nothing but a cut
  pub extends : (b more : List ℕ) → Extends registry.Truncated more (at b) (at (b ++ more))

-- ---- how parts are rejected

-- a reading that is rejected, whatever it was to read
abbrev failed : {X : Type 0} → RegistryReason × List ℕ → Read RegistryReason X
failed e = Err e

-- readers of other values are rejected alike
refused_as : {X Y : Type 0} (e : RegistryReason × List ℕ) (why : RegistryReason)
    (left : List ℕ) → failed {X = X} e ≡ Err (why, left) → failed {X = Y} e ≡ Err (why, left)
refused_as e why left h = let same : e ≡ (why, left) = cc in ap failed same

-- two readings that are rejected alike have one reason, and leave the same bytes
pub refused_is : {X : Type 0} {x y : RegistryReason} {a b : List ℕ} →
    failed {X = X} (x, a) ≡ Err (y, b) → (y ≡ x) × (b ≡ a)
refused_is {x = x} {y = y} {a = a} {b = b} e = let same : (x, a) ≡ (y, b) = cc in (
  sym (ap (λ (p : RegistryReason × List ℕ). p.0) same),
  sym (ap (λ (p : RegistryReason × List ℕ). p.1) same),
)

-- a reader that is rejected in the ways R is so in the ways S, if these are the same
pub told : {X : Type 0} (at : Reader X) (R S : Refusals) → AreFaults at R →
    ((b : List ℕ) (why : RegistryReason) (left : List ℕ) → R b why left → S b why left) →
    ((b : List ℕ) (why : RegistryReason) (left : List ℕ) → S b why left → R b why left) →
    AreFaults at S
told at R S h to from b why left all = let both = h b why left all in
    (λ e. to b why left (both.0 e), λ s. both.1 (from b why left s))

-- a reader that makes a value of what another reads is rejected as that one
pub mapped_faults : {X Z : Type 0} (at : Reader X) (make : X → Z) (R : Refusals) →
    AreFaults at R → AreFaults (λ b. at b >>= λ x. Ok (make x.0, x.1)) R
mapped_faults {X = X} at make R h b why left all = let both = h b why left all in
    (λ e. both.0 (go (at b) e), λ s. rw (both.1 s) refl) where
      go : (read : Read RegistryReason X) →
          (read >>= λ x. Ok (make x.0, x.1)) ≡ Err (why, left) → read ≡ Err (why, left)
      go (Err e) k = refused_as e why left k
      go (Ok x) k = absurd cc

-- a reader is rejected exactly if it fails
pub fails : {X : Type 0} (at : Reader X) → AreFaults at (Fails at)
fails at b why left all = (λ e. e, λ e. e)

-- a part and what follows it are rejected in the ways that After makes of those of what follows
pub record StopsBy {X : Type 0} (Fits : X → Type 0) (at : Reader X)
    (After : (X → Refusals) → Refusals) : Type 1 where
  pub faults : {Z : Type 0} (rest : X → Reader Z) (S : X → Refusals) →
      ((x : X) → Fits x → AreFaults (rest x) (S x)) →
      AreFaults (λ b. at b >>= λ x. rest x.0 x.1) (After S)

-- the part is rejected in the ways R, or it is there and what follows it is rejected
abbrev pub OrAfter : {X : Type 0} → (X → Type 0) → (X → List ℕ) → Refusals → (X → Refusals) →
    Refusals
OrAfter {X = X} Fits spell R S b why left = R b why left
    ⊎ ((x : X) × (c : List ℕ) × Fits x × (b ≡ spell x ++ c) × S x c why left)

-- a part and what follows it are rejected if the part is, or if it is there and the rest is
pub stops : {X : Type 0} {Fits : X → Type 0} {spell : X → List ℕ} {at : Reader X} →
    IsPart Fits spell at → (R : Refusals) → AreFaults at R →
    StopsBy Fits at (OrAfter Fits spell R)
stops {X = X} {Fits = Fits} {spell = spell} {at = at} part R h = record { faults = faults } where
  faults : {Z : Type 0} (rest : X → Reader Z) (S : X → Refusals) →
      ((x : X) → Fits x → AreFaults (rest x) (S x)) →
      AreFaults (λ b. at b >>= λ x. rest x.0 x.1) (OrAfter Fits spell R S)
  faults rest S k b why left all = (go (at b) refl (part.takes b all), back) where
    behind : (x : X) (c : List ℕ) → b ≡ spell x ++ c → AreBytes c
    behind x c split = let both : AreBytes (spell x ++ c) = rw (← split) all in
        rest_bytes (spell x) c both

    go : (r : Read RegistryReason X) → at b ≡ r → Takes (Spelled Fits spell) b r →
        (r >>= λ x. rest x.0 x.1) ≡ Err (why, left) → OrAfter Fits spell R S b why left
    go (Err e) is t eq = inl ((h b why left all).0 (is ∙ refused_as e why left eq))
    go (Ok x) is t eq = let split : b ≡ spell x.0 ++ x.1 = rw (← t.2.1) t.1 in
        inr (x.0, x.1, t.2.0, split, (k x.0 t.2.0 x.1 why left (behind x.0 x.1 split)).0 eq)

    back : OrAfter Fits spell R S b why left → (at b >>= λ x. rest x.0 x.1) ≡ Err (why, left)
    back s = elim s [
      | inl e ↦ rw ((h b why left all).1 e) refl
      | inr s ↦ rw (s.3, part.again s.0 s.1 s.2)
          ((k s.0 s.2 s.1 why left (behind s.0 s.1 s.3)).1 s.4)
    ]

-- the same, if nothing more is said of how the part is rejected
pub then_stops : {X : Type 0} {Fits : X → Type 0} {spell : X → List ℕ} {at : Reader X} →
    IsPart Fits spell at → StopsBy Fits at (Then Fits spell at)
then_stops {at = at} part = stops part (Fails at) (fails at)

-- ---- parts one after the other

-- parts that are read one after the other, and make a value: a part and those after it, a last part
-- that completes the value, or a last part that is the value
pub data Parts (Z : Type 0) : Type 1 where
  next : {X : Type 0} {Fits : X → Type 0} {spell : X → List ℕ} {at : Reader X}
      {After : (X → Refusals) → Refusals} → IsPart Fits spell at → StopsBy Fits at After →
      (X → Parts Z) → Parts Z
  last : {X : Type 0} {Fits : X → Type 0} {spell : X → List ℕ} {at : Reader X} →
      IsPart Fits spell at → (X → Z) → Parts Z
  tail : {Fits : Z → Type 0} {spell : Z → List ℕ} {at : Reader Z} → IsPart Fits spell at → Parts Z

-- a part and those after it, by `then_stops`
abbrev pub then : {X Z : Type 0} {Fits : X → Type 0} {spell : X → List ℕ} {at : Reader X} →
    IsPart Fits spell at → (X → Parts Z) → Parts Z
then part rest = next part (then_stops part) rest

-- the reader of parts
abbrev pub read : {Z : Type 0} → Parts Z → Reader Z
read (next {at = at} part by rest) bytes = at bytes >>= λ x. read (rest x.0) x.1
read (last {at = at} part make) bytes = at bytes >>= λ x. Ok (make x.0, x.1)
read (tail {at = at} part) bytes = at bytes

-- how parts are rejected
abbrev pub Refused : {Z : Type 0} → Parts Z → Refusals
Refused (next {After = After} part by rest) = After (λ x. Refused (rest x))
Refused (last {at = at} part make) = Fails at
Refused (tail {at = at} part) = Fails at

-- the values of parts
abbrev pub Values : {Z : Type 0} → Parts Z → Type 0
Values (next {X = X} part by rest) = (x : X) × Values (rest x)
Values (last {X = X} part make) = X
Values {Z = Z} (tail part) = Z

-- the value that they make
abbrev pub value : {Z : Type 0} (parts : Parts Z) → Values parts → Z
value (next part by rest) x = value (rest x.0) x.1
value (last part make) x = make x
value (tail part) x = x

-- their spellings, one after the other
abbrev pub bytes : {Z : Type 0} (parts : Parts Z) → Values parts → List ℕ
bytes (next {spell = spell} part by rest) x = spell x.0 ++ bytes (rest x.0) x.1
bytes (last {spell = spell} part make) x = spell x
bytes (tail {spell = spell} part) x = spell x

-- each of them has a spelling
abbrev pub Fit : {Z : Type 0} (parts : Parts Z) → Values parts → Type 0
Fit (next {Fits = Fits} part by rest) x = Fits x.0 × Fit (rest x.0) x.1
Fit (last {Fits = Fits} part make) x = Fits x
Fit (tail {Fits = Fits} part) x = Fits x

-- the bytes c spell parts that make z
abbrev pub AreSpelled : {Z : Type 0} → Parts Z → Z → List ℕ → Type 0
AreSpelled parts z c =
    (x : Values parts) × Fit parts x × (z ≡ value parts x) × (c ≡ bytes parts x)

-- two readings, one after the other, take bytes with Q, if the first takes bytes with P
bind_in : {X Y : Type 0} (P : X → List ℕ → Type 0) (Q : Y → List ℕ → Type 0) (b : List ℕ)
    (r : Read RegistryReason X) (f : X × List ℕ → Read RegistryReason Y) →
    AreBytes b → Takes P b r →
    ((x : X × List ℕ) (c : List ℕ) → AreBytes x.1 → P x.0 c →
    Takes (λ y d. Q y (c ++ d)) x.1 (f x)) → Takes Q b (r >>= f)
bind_in P Q b (Err e) f bytes h g = tt
bind_in P Q b (Ok x) f bytes h g = let both : AreBytes (h.0 ++ x.1) = rw (← h.1) bytes in
    then_takes Q b h.0 x.1 (f x) h.1 (g x h.0 (rest_bytes h.0 x.1 both) h.2)

-- the bytes that parts take are their spellings
pub takes : {Z : Type 0} (parts : Parts Z) (b : List ℕ) → AreBytes b →
    Takes (AreSpelled parts) b (read parts b)
takes (next {Fits = Fits} {spell = spell} {at = at} part by rest) b all =
    bind_in (Spelled Fits spell) (AreSpelled (next part by rest)) b (at b) _ all (part.takes b all)
    (λ x c more k.
    mapped (AreSpelled (rest x.0)) (λ z d. AreSpelled (next part by rest) z (c ++ d)) x.1
    (read (rest x.0) x.1) (takes (rest x.0) x.1 more)
    (λ z d m. ((x.0, m.0), (k.0, m.1), m.2, rw (k.1, m.3) refl)))
takes (last {Fits = Fits} {spell = spell} {at = at} part make) b all =
    bind_in (Spelled Fits spell) (AreSpelled (last part make)) b (at b) _ all (part.takes b all)
    (λ x c more k. ([], refl, (x.0, k.0, refl, rw append-nil k.1)))
takes (tail {Fits = Fits} {spell = spell} {at = at} part) b all =
    mapped (Spelled Fits spell) (AreSpelled (tail part)) b (at b) (part.takes b all)
    (λ z c k. (z, k.0, refl, k.1))

-- the spellings of parts are read
pub again : {Z : Type 0} (parts : Parts Z) (x : Values parts) (rest : List ℕ) → Fit parts x →
    read parts (bytes parts x ++ rest) ≡ Ok (value parts x, rest)
again (next part by then) x rest fits =
    rw (append_assoc, part.again x.0 (bytes (then x.0) x.1 ++ rest) fits.0)
    (again (then x.0) x.1 rest fits.1)
again (last part make) x rest fits = rw (part.again x rest fits) refl
again (tail part) x rest fits = part.again x rest fits

-- a fault lies within the bytes
pub inside : {Z : Type 0} (parts : Parts Z) (b : List ℕ) → Inside IsReported b (read parts b)
inside (next {at = at} part by rest) b =
    inside_then IsReported b (at b) (λ x. read (rest x.0) x.1) (part.inside b)
    (λ x. inside (rest x.0) x.1)
inside (last {at = at} part make) b =
    inside_then IsReported b (at b) (λ x. Ok (make x.0, x.1)) (part.inside b) (λ x. at_front x.1)
inside (tail part) b = part.inside b

-- more bytes at the end change nothing but a cut
pub extends : {Z : Type 0} (parts : Parts Z) (b more : List ℕ) →
    Extends registry.Truncated more (read parts b) (read parts (b ++ more))
extends (next {at = at} part by rest) b more =
    bind_extends registry.Truncated more (at b) (at (b ++ more)) (λ x. read (rest x.0) x.1)
    (λ x. read (rest x.0) x.1) (part.extends b more) (λ x. extends (rest x.0) x.1 more)
extends (last {at = at} part make) b more =
    bind_extends registry.Truncated more (at b) (at (b ++ more)) (λ x. Ok (make x.0, x.1))
    (λ x. Ok (make x.0, x.1)) (part.extends b more) (λ x. refl)
extends (tail part) b more = part.extends b more

-- parts are rejected if one is, and those before it are there
pub faults : {Z : Type 0} (parts : Parts Z) → AreFaults (read parts) (Refused parts)
faults (next part by rest) =
    by.faults (λ x. read (rest x)) (λ x. Refused (rest x)) (λ x fits. faults (rest x))
faults (last {at = at} part make) = mapped_faults at make (Fails at) (fails at)
faults (tail {at = at} part) = fails at

-- parts that make a value are a part, if their spellings are the value's
pub made : {Z : Type 0} {Fits : Z → Type 0} {spell : Z → List ℕ} (parts : Parts Z) →
    ((x : Values parts) → Fit parts x → Spelled Fits spell (value parts x) (bytes parts x)) →
    ((z : Z) → Fits z → (x : Values parts) × Fit parts x × (value parts x ≡ z)) →
    IsPart Fits spell (read parts)
made {Fits = Fits} {spell = spell} parts to from = record {
  takes = λ b all. mapped (AreSpelled parts) (Spelled Fits spell) b (read parts b)
      (takes parts b all) (λ z c s. rw (s.2, s.3) (to s.0 s.1));
  again = λ z rest fits. let s = from z fits in
      rw (← s.2, ← (to s.0 s.1).1) (again parts s.0 rest s.1);
  inside = inside parts;
  extends = extends parts;
}
