-- Readers whose refusals are decided by a front of the input.
use Rattle.std.proofs.Common.{◌≡◌, ℕ, zero, suc, ◌+◌, ◌-◌, ◌<◌, ◌≤◌, ◌⊎◌, List, [], ◌∷◌, ◌++◌}
use Rattle.std.proofs.Common.{length, take, drop, Ok, Err, refl, sym, ap, ◌∙◌, arith, inl, inr}
use Rattle.std.specs.Prelude.{◌≢◌}
use Rattle.std.proofs.lemmas.Bool.{cases_lt}
use Rattle.std.proofs.lemmas.List.{append-nil, take-append-drop, take-append-le, length-append}
use Rattle.std.proofs.lemmas.List.{length-take-le}
use Rattle.std.proofs.Math.Seq.{take-append-add}
use Rattle.scale_core.specs.Read.{Read, ◌>>=◌, place}
use Rattle.scale_core.proofs.Results.{Takes, Extends, done_is}
use Rattle.outcome_core.specs.Taken.{taken_after}

-- the first k bytes of b are refused for this reason, and fewer bytes are too few
pub record Decides {E X : Type 0} (cut : E) (g : List ℕ → Read E X) (b : List ℕ) (k : ℕ)
    (reason : E) : Type 0 where
  pub there : k ≤ length b
  pub front : (left : List ℕ) × (g (take k b) ≡ Err (reason, left))
  pub early : (j : ℕ) → j < k → (left : List ℕ) × (g (take j b) ≡ Err (cut, left))

-- if b is refused for good, k of its bytes decide it
abbrev pub DecidedBy : {E X : Type 0} → E → (List ℕ → Read E X) → List ℕ → ℕ → Read E X → Type 0
DecidedBy cut g b k (Ok x) = Unit {0}
DecidedBy cut g b k (Err e) = e.0 ≢ cut → Decides cut g b k e.0

-- what it reads it reads whatever follows, and what it refuses for good it refuses whatever follows
pub record IsStable {E X : Type 0} (cut : E) (g : List ℕ → Read E X) : Type 0 where
  pub reports : (e : E) → (e ≡ cut) ⊎ (e ≢ cut)
  pub extends : (b more : List ℕ) → Extends cut more (g b) (g (b ++ more))
  pub exact : (b : List ℕ) → Takes (λ x c. (more : List ℕ) → g (c ++ more) ≡ Ok (x, more)) b (g b)

abbrev failed : {E X : Type 0} → E × List ℕ → Read E X
failed e = Err e

-- a proper front of what is read is too short
early_cut : {E X : Type 0} (cut : E) (g : List ℕ → Read E X) → IsStable cut g →
    (d e : List ℕ) (x : X) → ((more : List ℕ) → g ((d ++ e) ++ more) ≡ Ok (x, more)) →
    1 ≤ length e → (left : List ℕ) × (g d ≡ Err (cut, left))
early_cut {E = E} {X = X} cut g s d e x full some = go (g d) refl (s.extends d e) where
  all : g (d ++ e) ≡ Ok (x, [])
  all = ap g (sym (append-nil (d ++ e))) ∙ full []

  reported : (f : E × List ℕ) → g d ≡ failed f → Extends {X = X} cut e (failed f) (g (d ++ e)) →
      (f.0 ≡ cut) ⊎ (f.0 ≢ cut) → (left : List ℕ) × (g d ≡ Err (cut, left))
  reported f is ext (inl same) = (f.1, is ∙ ap (λ (c : E). failed (c, f.1)) same)
  reported f is ext (inr ne) = let both = sym all ∙ ext ne in absurd cc

  go : (read : Read E X) → g d ≡ read → Extends cut e read (g (d ++ e)) → (left : List ℕ)
      × (g d ≡ Err (cut, left))
  go (Ok y) is ext =
      let same = ap (λ (p : X × List ℕ). length p.1)
      (done_is {E = E} (x, []) (y.0, y.1 ++ e) (sym all ∙ ext)) in
      absurd (omega (arith, same, length-append y.1 e, some))
  go (Err f) is ext = reported f is ext (s.reports f.0)

-- one part after the other, of a reader whose refusals m carries over
abbrev pub chain : {E F X Y : Type 0} → (E → F) → (X → List ℕ → Read F Y) → Read E X → Read F Y
chain m h (Ok x) = h x.0 x.1
chain m h (Err e) = Err (m e.0, e.1)

abbrev pub finish : {E F X Y : Type 0} → (E → F) → (X → Y) → Read E X → Read F Y
finish m make (Ok x) = Ok (make x.0, x.1)
finish m make (Err e) = Err (m e.0, e.1)

-- reading one part after the other with refusals as they are is the plain bind
pub bind_chain : {E X Y : Type 0} (h : X → List ℕ → Read E Y) (r : Read E X) →
    (r >>= λ x. h x.0 x.1) ≡ chain (λ e. e) h r
bind_chain h (Ok x) = refl
bind_chain h (Err e) = refl

-- a front decides a refusal also where the result is only made into something else
pub finish_decided : {E F X Y : Type 0} (cut : E) (m : E → F) (make : X → Y) (G : List ℕ → Read F Y)
    (g : List ℕ → Read E X) → ((b : List ℕ) → G b ≡ finish m make (g b)) →
    (b : List ℕ) (k : ℕ) → DecidedBy cut g b k (g b) → DecidedBy (m cut) G b k (G b)
finish_decided {E = E} {F = F} {X = X} {Y = Y} cut m make G g is b k h =
    rw (is b) (go (g b) h) where
      go : (read : Read E X) → DecidedBy cut g b k read →
          DecidedBy (m cut) G b k (finish m make read)
      go (Ok x) h = tt
      go (Err e) h = λ ne. let d = h (λ eq. ne (ap m eq)) in
          record {
            there = d.there;
            front = (d.front.0, is (take k b) ∙ ap (finish m make) d.front.1);
            early = λ j lt. let f = d.early j lt in (f.0, is (take j b) ∙ ap (finish m make) f.1);
          }

-- of two parts, the first of them steady, a front decides the refusal of whichever is refused
pub chain_decided : {E F X Y : Type 0} (cut : E) (m : E → F) (G : List ℕ → Read F Y)
    (g : List ℕ → Read E X) (h : X → List ℕ → Read F Y) (next : X × List ℕ → ℕ) →
    ((b : List ℕ) → G b ≡ chain m h (g b)) → IsStable cut g →
    (b : List ℕ) (own : ℕ) → DecidedBy cut g b own (g b) →
    ((x : X × List ℕ) → DecidedBy (m cut) (h x.0) x.1 (next x) (h x.0 x.1)) →
    DecidedBy (m cut) G b (taken_after b (g b) own next) (G b)
chain_decided {E = E} {F = F} {X = X} {Y = Y} cut m G g h next is steady b own first rest =
    rw (is b) (go (g b) first (steady.exact b)) where
      then : (x : X × List ℕ) (c : List ℕ) → b ≡ c ++ x.1 →
          ((more : List ℕ) → g (c ++ more) ≡ Ok (x.0, more)) → (read : Read F Y) →
          DecidedBy (m cut) (h x.0) x.1 (next x) read →
          DecidedBy (m cut) G b (place b x.1 + next x) read
      then x c eq full (Ok y) d = tt
      then x c eq full (Err e) d = λ ne. made (d ne) where
        len : place b x.1 ≡ length c
        len = omega (arith, ap length eq, length-append c x.1)

        early : Decides (m cut) (h x.0) x.1 (next x) e.0 → (j : ℕ) → j < length c + next x →
            (left : List ℕ) × (G (take j (c ++ x.1)) ≡ Err (m cut, left))
        early k j lt = elim (cases_lt j (length c)) [
          | inl less ↦
              let split : take j c ++ drop j c ≡ c = take-append-drop j c in
              let long : 1 ≤ length (drop j c) =
              omega (
                arith,
                ap length split,
                length-append (take j c) (drop j c),
                length-take-le j c (omega arith),
              ) in
              let short = early_cut cut g steady (take j c) (drop j c) x.0 (rw split full) long in (
                short.0,
                is (take j (c ++ x.1))
                    ∙ ap (λ (z : List ℕ). chain m h (g z)) (take-append-le j c x.1 (omega arith))
                    ∙ ap (chain m h) short.1,
              )
          | inr ge ↦
              let f = k.early (j - length c) (omega arith) in
              let at : take j (c ++ x.1) ≡ c ++ take (j - length c) x.1 =
              ap (λ (i : ℕ). take i (c ++ x.1)) (omega arith)
              ∙ take-append-add c x.1 (j - length c) in (
                f.0,
                is (take j (c ++ x.1)) ∙ ap (λ (z : List ℕ). chain m h (g z)) at
                    ∙ ap (chain m h) (full (take (j - length c) x.1)) ∙ f.1,
              )
        ]

        made : Decides (m cut) (h x.0) x.1 (next x) e.0 →
            Decides (m cut) G b (place b x.1 + next x) e.0
        made k = rw (len, eq) (record {
          there = omega (arith, k.there, length-append c x.1);
          front = (
            k.front.0,
            is (take (length c + next x) (c ++ x.1))
                ∙ ap (λ (z : List ℕ). chain m h (g z)) (take-append-add c x.1 (next x))
                ∙ ap (chain m h) (full (take (next x) x.1)) ∙ k.front.1,
          );
          early = early k;
        })

      go : (read : Read E X) → DecidedBy cut g b own read →
          Takes (λ x c. (more : List ℕ) → g (c ++ more) ≡ Ok (x, more)) b read →
          DecidedBy (m cut) G b (taken_after b read own next) (chain m h read)
      go (Ok x) d k = then x k.0 k.1 k.2 (h x.0 x.1) (rest x)
      go (Err e) d k = λ ne. let f = d (λ eq. ne (ap m eq)) in
          record {
            there = f.there;
            front = (f.front.0, is (take own b) ∙ ap (chain m h) f.front.1);
            early = λ j lt. let s = f.early j lt in (s.0, is (take j b) ∙ ap (chain m h) s.1);
          }

-- after one byte
pub cons_decided : {E Y : Type 0} (cut : E) (G g : List ℕ → Read E Y) (i : ℕ) →
    ((b : List ℕ) → G (i ∷ b) ≡ g b) → (left : List ℕ) → G [] ≡ Err (cut, left) →
    (b : List ℕ) (k : ℕ) → DecidedBy cut g b k (g b) → DecidedBy cut G (i ∷ b) (suc k) (G (i ∷ b))
cons_decided {E = E} {Y = Y} cut G g i is left nil b k h = rw (is b) (go (g b) h) where
  early : (reason : E) → Decides cut g b k reason → (j : ℕ) → j < suc k → (left : List ℕ)
      × (G (take j (i ∷ b)) ≡ Err (cut, left))
  early reason d zero lt = (left, nil)
  early reason d (suc j) lt = let f = d.early j (omega arith) in (f.0, is (take j b) ∙ f.1)

  go : (read : Read E Y) → DecidedBy cut g b k read → DecidedBy cut G (i ∷ b) (suc k) read
  go (Ok x) h = tt
  go (Err e) h = λ ne. let d = h ne in
      record {
        there = omega (arith, d.there);
        front = (d.front.0, is (take k b) ∙ d.front.1);
        early = early e.0 d;
      }
