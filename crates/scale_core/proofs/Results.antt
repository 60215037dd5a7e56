-- What was read stood on the front, and what is read of a longer input.
use Rattle.std.proofs.Common.{◌≡◌, ℕ, ◌^◌, ◌<◌, ◌≤◌, Bool, true, false, cond, ltb, List, [], ◌∷◌}
use Rattle.std.proofs.Common.{◌++◌, length, take, drop, Ok, Err, refl, sym, ◌∙◌, append_assoc}
use Rattle.std.proofs.Common.{arith, inl, inr}
use Rattle.std.specs.Prelude.{◌≢◌, nat_lt, not}
use Rattle.std.specs.Str.{bytes_eq, is_utf8}
use Rattle.std.specs.Str.Lossy.{utf8_valid_len}
use Rattle.std.proofs.lemmas.Bool.{not-false, cases_lt, ltb-false, ltb-true, le-ltb, lt-ltb}
use Rattle.std.proofs.lemmas.Slice.Eq.{bytes_eq-Decides}
use Rattle.std.proofs.lemmas.List.{take-append-drop, length-append, length-take, take-append-le}
use Rattle.std.proofs.lemmas.List.{drop-append-le, append-nil}
use Rattle.std.proofs.lemmas.Str.{utf8_valid_len_le}
use Rattle.scale_core.specs.Compact.{compact, target_bytes, IsCompact}
use Rattle.scale_core.specs.Text.{IsText}
use Rattle.scale_core.specs.Read.{Read, ◌>>=◌, bytes_at, mode_len, mode_number, mode_from}
use Rattle.scale_core.specs.Read.{is_too_long, integer_at, compact_at, text_at}
use Rattle.scale_core.specs.declared.compact.Target.{Target}
use Rattle.scale_core.specs.declared.compact.Target.TheVariants.{Unit as TUnit, U32}
use Rattle.scale_core.specs.declared.fault.Reason.{Reason}
use Rattle.scale_core.specs.declared.fault.Reason.TheVariants.{Truncated, BadUtf8}
use Rattle.scale_core.specs.declared.fault.Reason.TheVariants.{CompactNotShortest, CompactTooLarge}

-- what was read stood on the front of b
abbrev pub Takes : {E X : Type 0} → (X → List ℕ → Type 0) → List ℕ → Read E X → Type 0
Takes P b (Ok x) = (c : List ℕ) × (b ≡ c ++ x.1) × P x.0 c
Takes P b (Err e) = Unit {0}

-- what a choice reads stood on the front, where this holds of both answers
pub cond_takes : {E X : Type 0} (P : X → List ℕ → Type 0) (b : List ℕ) (t : Bool) (x y : Read E X) →
    (t ≡ true → Takes P b x) → (t ≡ false → Takes P b y) → Takes P b (cond t x y)
cond_takes P b true x y f g = f refl
cond_takes P b false x y f g = g refl

-- a run of bytes that is read stood on the front, and has the length that was asked for
pub bytes_takes : (k : ℕ) (b : List ℕ) → Takes (λ x c. (c ≡ x) × (length c ≡ k)) b (bytes_at k b)
bytes_takes k b = cond_takes (λ x c. (c ≡ x) × (length c ≡ k)) b (ltb (length b) k)
    (Err (Truncated, [])) (Ok (take k b, drop k b)) (λ e. tt)
    (λ e. let long : k ≤ length b = ltb-false _ _ e in
    (take k b, sym (take-append-drop k b), (refl, omega (arith, length-take k b))))

abbrev pub FitsTarget : Target → ℕ → List ℕ → Type 0
FitsTarget m x c = (x < 256 ^ target_bytes m) × (c ≡ compact x)

-- where the bytes of a mode stood on the front, so did the number that is made of them
form_takes : (m : Target) (b : List ℕ) (k : ℕ) (r : Read Reason (List ℕ)) →
    Takes (λ x c. (c ≡ x) × (length c ≡ k)) b r → Takes (FitsTarget m) b (mode_from m b r)
form_takes m b k (Err e) h = tt
form_takes m b k (Ok x) h = let n = mode_number x.0 in
    cond_takes (FitsTarget m) b (not (bytes_eq (compact n) x.0)) (Err (CompactNotShortest, b))
    (cond (nat_lt n (256 ^ target_bytes m)) (Ok (n, x.1)) (Err (CompactTooLarge, b))) (λ e. tt)
    (λ e.
    cond_takes (FitsTarget m) b (nat_lt n (256 ^ target_bytes m)) (Ok (
      n,
      x.1,
    )) (Err (CompactTooLarge, b))
    (λ small. (
      h.0,
      h.1,
      (
        ltb-true _ _ small,
        h.2.0
            ∙ sym ((bytes_eq-Decides (compact n) x.0).0 (not-false _ e)),
      ),
    )) (λ e. tt))

-- an integer that is read stood on the front in a mode that fits the target
integer_takes : (m : Target) (b : List ℕ) → Takes (FitsTarget m) b (integer_at m b)
integer_takes m [] = tt
integer_takes m (first ∷ rest) =
    cond_takes (FitsTarget m) (first ∷ rest) (is_too_long m first)
    (Err (CompactTooLarge, first ∷ rest))
    (mode_from m (first ∷ rest) (bytes_at (mode_len first) (first ∷ rest))) (λ e. tt)
    (λ e. form_takes m (first ∷ rest) (mode_len first) (bytes_at (mode_len first) (first ∷ rest))
    (bytes_takes (mode_len first) (first ∷ rest)))

-- a compact integer that is read stood on the front in its spelling
pub compact_takes : (m : Target) (b : List ℕ) → Takes (IsCompact m) b (compact_at m b)
unfolding compact_at
compact_takes TUnit b = ([], refl, (refl, refl))
compact_takes m b = integer_takes m b

-- what was taken meets another property, where the one that is known gives it
pub mapped : {E X : Type 0} (P Q : X → List ℕ → Type 0) (b : List ℕ) (r : Read E X) → Takes P b r →
    ((x : X) (c : List ℕ) → P x c → Q x c) → Takes Q b r
mapped P Q b (Ok x) h f = (h.0, h.1, f x.0 h.0 h.2)
mapped P Q b (Err e) h f = tt

-- what is read after c
pub then_takes : {E Y : Type 0} (Q : Y → List ℕ → Type 0) (b c rest : List ℕ) (r : Read E Y) →
    b ≡ c ++ rest → Takes (λ y d. Q y (c ++ d)) rest r → Takes Q b r
then_takes Q b c rest (Err e) eq h = tt
then_takes Q b c rest (Ok y) eq h = (c ++ h.0, rw (eq, h.1) (sym (append_assoc c h.0 y.1)), h.2)

-- one part after the other
pub bind_takes : {E X Y : Type 0} (P : X → List ℕ → Type 0) (Q : Y → List ℕ → Type 0) (b : List ℕ)
    (r : Read E X) (f : X × List ℕ → Read E Y) →
    Takes P b r → ((x : X × List ℕ) (c : List ℕ) → P x.0 c →
    Takes (λ y d. Q y (c ++ d)) x.1 (f x)) → Takes Q b (r >>= f)
bind_takes P Q b (Err e) f h g = tt
bind_takes P Q b (Ok x) f h g = then_takes Q b h.0 x.1 (f x) h.1 (g x h.0 h.2)

abbrev pub done : {E X : Type 0} → X × List ℕ → Read E X
done x = Ok x

-- what two equal answers gave
pub done_is : {E X : Type 0} (x y : X × List ℕ) → done {E = E} x ≡ done y → x ≡ y
done_is x y e = cc

-- what is read of a longer input
abbrev pub Extends : {E X : Type 0} → E → List ℕ → Read E X → Read E X → Type 0
Extends cut more (Ok x) new = new ≡ Ok (x.0, x.1 ++ more)
Extends cut more (Err e) new = e.0 ≢ cut → new ≡ Err (e.0, e.1 ++ more)

-- a run of bytes is read alike from a longer input, where it was not cut
pub bytes_extends : (k : ℕ) (b more : List ℕ) →
    Extends Truncated more (bytes_at k b) (bytes_at k (b ++ more))
bytes_extends k b more = elim (cases_lt (length b) k) [
  | inl lt ↦ rw (lt-ltb (length b) k lt) (λ ne. absurd (ne refl))
  | inr le ↦ rw (
    le-ltb (length b) k le,
    le-ltb (length (b ++ more)) k (omega (arith, length-append b more)),
    take-append-le k b more le,
    drop-append-le k b more le,
  ) refl
]

-- two readings after each other are alike from a longer input, where each is
pub bind_extends : {E X Y : Type 0} (cut : E) (more : List ℕ) (r s : Read E X)
    (f g : X × List ℕ → Read E Y) →
    Extends cut more r s → ((x : X × List ℕ) → Extends cut more (f x) (g (x.0, x.1 ++ more))) →
    Extends cut more (r >>= f) (s >>= g)
bind_extends cut more (Ok x) s f g h k = rw h (k x)
bind_extends cut more (Err e) s f g h k = λ ne. rw (h ne) refl

-- a choice reads alike from a longer input, where both answers do
pub cond_extends : {E X : Type 0} (cut : E) (more : List ℕ) (t : Bool) (x y x' y' : Read E X) →
    Extends cut more x x' → Extends cut more y y' → Extends cut more (cond t x y) (cond t x' y')
cond_extends cut more true x y x' y' f g = f
cond_extends cut more false x y x' y' f g = g

-- a mode is judged alike in a longer input, where its bytes are read alike
form_extends : (m : Target) (b more : List ℕ) (r s : Read Reason (List ℕ)) →
    Extends Truncated more r s →
    Extends Truncated more (mode_from m b r) (mode_from m (b ++ more) s)
form_extends m b more (Err e) s h = λ ne. rw (h ne) refl
form_extends m b more (Ok x) s h = rw h (let n = mode_number x.0 in
    cond_extends Truncated more (not (bytes_eq (compact n) x.0)) _ _ _ _ (λ ne. refl)
    (cond_extends Truncated more (nat_lt n (256 ^ target_bytes m)) _ _ _ _ refl (λ ne. refl)))

-- an integer is read alike from a longer input, where it was not cut
integer_extends : (m : Target) (b more : List ℕ) →
    Extends Truncated more (integer_at m b) (integer_at m (b ++ more))
integer_extends m [] more = λ ne. absurd (ne refl)
integer_extends m (first ∷ rest) more =
    cond_extends Truncated more (is_too_long m first) _ _ _ _ (λ ne. refl)
    (form_extends m (first ∷ rest) more (bytes_at (mode_len first) (first ∷ rest))
    (bytes_at (mode_len first) (first ∷ rest ++ more))
    (bytes_extends (mode_len first) (first ∷ rest) more))

-- a compact integer is read alike from a longer input, where it was not cut
pub compact_extends : (m : Target) (b more : List ℕ) →
    Extends Truncated more (compact_at m b) (compact_at m (b ++ more))
unfolding compact_at
compact_extends TUnit b more = refl
compact_extends m b more = integer_extends m b more

-- a text that is read stood on the front in its spelling
pub text_takes : (b : List ℕ) → Takes IsText b (text_at b)
unfolding text_at
text_takes b = bind_takes (IsCompact U32) IsText b (compact_at U32 b) _ (compact_takes U32 b)
    (λ n c is.
    bind_takes (λ x d. (d ≡ x) × (length d ≡ n.0)) (λ s d. IsText s (c ++ d)) n.1 (bytes_at n.0 n.1)
    _ (bytes_takes n.0 n.1) (λ s d at.
    cond_takes (λ s' d'. IsText s' (c ++ (d ++ d'))) s.1 (is_utf8 s.0) (Ok s)
    (Err (BadUtf8, drop (utf8_valid_len s.0) n.1))
    (λ valid. let len : length s.0 ≡ n.0 = rw (← at.0) at.1 in
    ([], refl, (c, rw len is, valid, rw (append-nil, at.0) refl))) (λ e. tt)))

abbrev pub judged_front : List ℕ → List ℕ × List ℕ → Read Reason (List ℕ)
judged_front from s = cond (is_utf8 s.0) (Ok s) (Err (BadUtf8, drop (utf8_valid_len s.0) from))

-- the bytes of a text are judged alike in a longer input, where they were not cut
pub judged_extends : (k : ℕ) (from more : List ℕ) →
    Extends Truncated more (bytes_at k from >>= judged_front from)
    (bytes_at k (from ++ more) >>= judged_front (from ++ more))
judged_extends k from more = elim (cases_lt (length from) k) [
  | inl lt ↦ rw (lt-ltb (length from) k lt) (λ ne. absurd (ne refl))
  | inr le ↦
      let front = take k from in
      let short : utf8_valid_len front ≤ length from =
      omega (arith, utf8_valid_len_le front, length-take k from) in
      rw (
        le-ltb (length from) k le,
        le-ltb (length (from ++ more)) k (omega (arith, length-append from more)),
        take-append-le k from more le,
        drop-append-le k from more le,
        drop-append-le (utf8_valid_len front) from more short,
      )
      (cond_extends Truncated more (is_utf8 front) _ _ _ _ refl (λ ne. refl))
]

-- a text is read alike from a longer input, where it was not cut
pub text_extends : (b more : List ℕ) → Extends Truncated more (text_at b) (text_at (b ++ more))
unfolding text_at
text_extends b more = bind_extends Truncated more (compact_at U32 b) (compact_at U32 (b ++ more)) _
    _ (compact_extends U32 b more) (λ n. judged_extends n.0 n.1 more)
