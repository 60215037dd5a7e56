-- Where the fault of an integer or of a text stands: within the bytes, and at their end where they
-- end too soon.
use Rattle.std.proofs.Common.{◌≡◌, ℕ, ◌^◌, Bool, true, false, cond, List, [], ◌∷◌, ◌++◌, length}
use Rattle.std.proofs.Common.{take, drop, Ok, Err, refl, sym, append_assoc}
use Rattle.std.specs.Prelude.{nat_lt, not}
use Rattle.std.specs.Str.{bytes_eq, is_utf8}
use Rattle.std.specs.Str.Lossy.{utf8_valid_len}
use Rattle.std.proofs.lemmas.List.{append-nil, take-append-drop}
use Rattle.scale_core.specs.Number.{number}
use Rattle.scale_core.specs.Compact.{compact, target_bytes}
use Rattle.scale_core.specs.Read.{Read, ◌>>=◌, bytes_at, number_at, mode_len, mode_number}
use Rattle.scale_core.specs.Read.{mode_from, is_too_long, integer_at, compact_at, text_at}
use Rattle.scale_core.specs.declared.compact.Target.{Target}
use Rattle.scale_core.specs.declared.compact.Target.TheVariants.{U32 as u32_target}
use Rattle.scale_core.specs.declared.fault.Reason.{Reason}
use Rattle.scale_core.specs.declared.fault.Reason.TheVariants as scale
use Rattle.registry_core.specs.Laws.{IsAfter}

-- the end of the bytes is within them
pub at_end : (b : List ℕ) → IsAfter b []
at_end b = (b, sym (append-nil b))

-- the front of the bytes is within them
pub at_front : (b : List ℕ) → IsAfter b b
at_front b = ([], refl)

-- what is left where some bytes are dropped is within them
pub after_drop : (k : ℕ) (b : List ℕ) → IsAfter b (drop k b)
after_drop k b = (take k b, sym (take-append-drop k b))

-- what is left stands after a front of the input, be it after a value or from a fault on, and the
-- fault is so
abbrev pub Inside : {E X : Type 0} → (E → List ℕ → Type 0) → List ℕ → Read E X → Type 0
Inside Q b (Ok x) = IsAfter b x.1
Inside Q b (Err e) = IsAfter b e.1 × Q e.0 e.1

-- what is within the bytes after a front is within all of them
pub is_after_all : (b c a left : List ℕ) → b ≡ c ++ a → IsAfter a left → IsAfter b left
is_after_all b c a left e h = (c ++ h.0, rw (e, h.1) (sym (append_assoc c h.0 left)))

-- where a fault stands within the bytes after a front, it stands within all of them
pub after : {E X : Type 0} (Q : E → List ℕ → Type 0) (b c a : List ℕ) (r : Read E X) → b ≡ c ++ a →
    Inside Q a r → Inside Q b r
after Q b c a (Ok x) e h = is_after_all b c a x.1 e h
after Q b c a (Err f) e h = (is_after_all b c a f.1 e h.0, h.1)

-- where a fault stands within the bytes after the first, it stands within all of them
pub after_byte : {E X : Type 0} (Q : E → List ℕ → Type 0) (byte : ℕ) (a : List ℕ) (r : Read E X) →
    Inside Q a r → Inside Q (byte ∷ a) r
after_byte Q byte a r h = after Q (byte ∷ a) (byte ∷ []) a r refl h

-- where one part is read after another, a fault of either stands within the bytes
pub inside_then : {E X Y : Type 0} (Q : E → List ℕ → Type 0) (b : List ℕ) (r : Read E X)
    (f : X × List ℕ → Read E Y) → Inside Q b r → ((x : X × List ℕ) → Inside Q x.1 (f x)) →
    Inside Q b (r >>= f)
inside_then Q b (Ok x) f h g = after Q b h.0 x.1 (f x) h.1 (g x)
inside_then Q b (Err e) f h g = h

-- where one of two readings is chosen, a fault of either stands within the bytes
pub inside_cond : {E X : Type 0} (Q : E → List ℕ → Type 0) (b : List ℕ) (t : Bool)
    (x y : Read E X) →
    Inside Q b x → Inside Q b y → Inside Q b (cond t x y)
inside_cond Q b true x y f g = f
inside_cond Q b false x y f g = g

-- ---- integers and texts

-- a cut leaves nothing
abbrev pub CutAtEnd : Reason → List ℕ → Type 0
CutAtEnd reason left = reason ≡ scale.Truncated → left ≡ []

-- a run of bytes that is refused is cut, and its fault stands at the end
pub bytes_inside : (k : ℕ) (b : List ℕ) → Inside CutAtEnd b (bytes_at k b)
bytes_inside k b = inside_cond CutAtEnd b (nat_lt (length b) k) (Err (scale.Truncated, []))
    (Ok (take k b, drop k b)) (at_end b, λ e. refl) (after_drop k b)

-- a number that is refused is cut, and its fault stands at the end
pub number_inside : (k : ℕ) (b : List ℕ) → Inside CutAtEnd b (number_at k b)
number_inside k b = inside_cond CutAtEnd b (nat_lt (length b) k) (Err (scale.Truncated, []))
    (Ok (number (take k b), drop k b)) (at_end b, λ e. refl) (after_drop k b)

-- the fault of a form stands within the bytes, and at their end where it is cut
pub form_inside : (m : Target) (b : List ℕ) (r : Read Reason (List ℕ)) → Inside CutAtEnd b r →
    Inside CutAtEnd b (mode_from m b r)
form_inside m b (Err e) h = h
form_inside m b (Ok x) h = let n = mode_number x.0 in
    inside_cond CutAtEnd b (not (bytes_eq (compact n) x.0)) (Err (scale.CompactNotShortest, b))
    (cond (nat_lt n (256 ^ target_bytes m)) (Ok (n, x.1)) (Err (scale.CompactTooLarge, b)))
    (at_front b, λ e. absurd cc)
    (inside_cond CutAtEnd b (nat_lt n (256 ^ target_bytes m)) (Ok (n, x.1))
    (Err (scale.CompactTooLarge, b)) h (at_front b, λ e. absurd cc))

-- the fault of an integer stands within the bytes, and at their end where it is cut
pub integer_inside : (m : Target) (b : List ℕ) → Inside CutAtEnd b (integer_at m b)
integer_inside m [] = (at_end [], λ e. refl)
integer_inside m (first ∷ rest) =
    inside_cond CutAtEnd (first ∷ rest) (is_too_long m first)
    (Err (scale.CompactTooLarge, first ∷ rest))
    (mode_from m (first ∷ rest) (bytes_at (mode_len first) (first ∷ rest)))
    (at_front (first ∷ rest), λ e. absurd cc)
    (form_inside m (first ∷ rest) (bytes_at (mode_len first) (first ∷ rest))
    (bytes_inside (mode_len first) (first ∷ rest)))

-- the fault of a compact integer stands within the bytes, and at their end where it is cut
pub compact_inside : (b : List ℕ) → Inside CutAtEnd b (compact_at u32_target b)
unfolding compact_at
compact_inside b = integer_inside u32_target b

-- the fault of a text's bytes stands within them, and at their end where they are cut
pub judged_inside : (from : List ℕ) (r : Read Reason (List ℕ)) → Inside CutAtEnd from r →
    Inside CutAtEnd from (r >>= λ text. cond (is_utf8 text.0) (Ok text)
    (Err (scale.BadUtf8, drop (utf8_valid_len text.0) from)))
judged_inside from (Err e) h = h
judged_inside from (Ok text) h =
    inside_cond CutAtEnd from (is_utf8 text.0) (Ok text)
    (Err (scale.BadUtf8, drop (utf8_valid_len text.0) from)) h
    (after_drop (utf8_valid_len text.0) from, λ e. absurd cc)

-- the fault of a text stands within the bytes, and at their end where it is cut
pub text_inside : (b : List ℕ) → Inside CutAtEnd b (text_at b)
unfolding text_at
text_inside b = inside_then CutAtEnd b (compact_at u32_target b) _ (compact_inside b)
    (λ n. judged_inside n.1 (bytes_at n.0 n.1) (bytes_inside n.0 n.1))
