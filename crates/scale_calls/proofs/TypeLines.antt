-- The lines of the first types, and of one more.
use Rattle.std.proofs.Common.{◌≡◌, ◌<◌, ◌+◌, ℕ, zero, suc, List, [], ◌∷◌, ◌++◌, length, take}
use Rattle.std.proofs.Common.{get_or, sym, ap, ◌∙◌, append_assoc, append-nil, arith, add-one, subst}
use Rattle.std.proofs.Common.{Option, Some, ◌≤◌}
use Rattle.std.specs.Prelude.{SomeIff}
use Rattle.std.proofs.lemmas.List.{take_all}
use Rattle.types_core.specs.declared.type_info.TypeInfo.{TypeInfo}
use Rattle.widths_core.specs.declared.class.Class.{Class}
use Rattle.widths_core.specs.Classes.{class_of}
use Rattle.scale_calls.specs.Lines.{line_of_type, lines_from, type_lines}

-- a type has one line at one position
lines_at : (r : List TypeInfo) (k j : ℕ) (x : TypeInfo) → k ≡ j →
    line_of_type k (class_of r k) x ≡ line_of_type j (class_of r j) x
lines_at r k j x same = ap (λ n. line_of_type n (class_of r n) x) same

-- the lines of the first types and one more are those of the first and then its own
pub lines_from-take : (r : List TypeInfo) (k : ℕ) (xs : List TypeInfo) (i : ℕ) (d : TypeInfo) →
    i < length xs → lines_from r k (take (suc i) xs)
    ≡ lines_from r k (take i xs) ++ line_of_type (k + i) (class_of r (k + i)) (get_or xs i d)
lines_from-take r k [] i d short = absurd (omega arith)
lines_from-take r k (x ∷ xs) zero d short = append-nil _ ∙ lines_at r k (k + 0) x (omega arith)
lines_from-take r k (x ∷ xs) (suc i) d short =
    ap (λ v. line_of_type k (class_of r k) x ++ v)
    (lines_from-take r (k + 1) xs i d (omega arith)
    ∙ ap (λ v. lines_from r (k + 1) (take i xs) ++ v)
    (lines_at r (k + 1 + i) (k + suc i) (get_or xs i d) (omega arith)))
    ∙ sym (append_assoc (line_of_type k (class_of r k) x) (lines_from r (k + 1) (take i xs))
    (line_of_type (k + suc i) (class_of r (k + suc i)) (get_or xs i d)))

-- a class that is reported is the one that is known
pub class_is : (o : Option Class) (P : Type 0) (class known : Class) → SomeIff o P known →
    o ≡ Some class → class ≡ known
class_is o P class known reported is = let at : SomeIff (Some class) P known =
    subst (λ p. SomeIff p P known) is reported in at.1

-- one more line
lines_more : (r xs : List TypeInfo) (i : ℕ) (x : TypeInfo) (class : Class) → i < length xs →
    x ≡ get_or xs i x → class ≡ class_of r i →
    lines_from r 0 (take i xs) ++ line_of_type i class x ≡ lines_from r 0 (take (i + 1) xs)
lines_more r xs i x class inside item is =
    ap (λ c. lines_from r 0 (take i xs) ++ line_of_type i c x) is
    ∙ ap (λ y. lines_from r 0 (take i xs) ++ line_of_type i (class_of r i) y) item
    ∙ sym (ap (λ n. lines_from r 0 (take n xs)) (add-one i) ∙ lines_from-take r 0 xs i x inside
    ∙ ap (λ v. lines_from r 0 (take i xs) ++ v)
    (lines_at r (0 + i) i (get_or xs i x) (omega arith)))

-- and after what stood in front
pub lines_next : (front : List ℕ) (r xs : List TypeInfo) (i : ℕ) (x : TypeInfo) (class : Class)
    (so_far new : List ℕ) → i < length xs → x ≡ get_or xs i x → class ≡ class_of r i →
    so_far ≡ front ++ lines_from r 0 (take i xs) → new ≡ so_far ++ line_of_type i class x →
    new ≡ front ++ lines_from r 0 (take (i + 1) xs)
lines_next front r xs i x class so_far new inside item is before added =
    added ∙ ap (λ v. v ++ line_of_type i class x) before
    ∙ append_assoc front (lines_from r 0 (take i xs)) (line_of_type i class x)
    ∙ ap (λ v. front ++ v) (lines_more r xs i x class inside item is)

-- the lines of all
pub lines_whole : (front : List ℕ) (r xs : List TypeInfo) (i : ℕ) (so_far : List ℕ) →
    length xs ≤ i → xs ≡ r → so_far ≡ front ++ lines_from r 0 (take i xs) →
    so_far ≡ front ++ type_lines r
unfolding type_lines
lines_whole front r xs i so_far all same before = before
    ∙ ap (λ v. front ++ lines_from r 0 v) (take_all i xs all ∙ same)
