-- A list of parts fails where its next part does.
use Rattle.std.proofs.Common.{◌≡◌, ℕ, zero, suc, ◌≤◌, List, [], ◌∷◌, ◌++◌, Ok, Err, refl, sym}
use Rattle.std.proofs.Common.{Some, ap, ◌∙◌, append_assoc, arith}
use Rattle.std.proofs.lemmas.Option.{same_Some}
use Rattle.scale_core.specs.Read.{Read, ◌>>=◌}
use Rattle.scale_core.proofs.Results.{Takes}
use Rattle.types_core.specs.declared.type_info.TypeInfo.{TypeInfo}
use Rattle.grammar_core.specs.Tree.{Tree, Trees, none, and, levels, most_levels}
use Rattle.grammar_core.specs.Grammar.{Val}
use Rattle.grammar_core.specs.Parts.{Part, each, times, first_of, left_after}
use Rattle.grammar_core.specs.Begun.{FirstValues}
use Rattle.grammar_core.specs.Reading.{value_at, all_at, times_at, part_at, Refusal}
use Rattle.grammar_core.specs.Laws.{NextPartFails, PartsFail}
use Rattle.grammar_core.proofs.Sound.{value_takes}
use Rattle.grammar_core.proofs.Complete.{value_again}

-- where a value and those after it fail and the value was read, those after it fail so
then_fails : (v : Tree) (read : Read Refusal Trees) (e : Refusal × List ℕ) →
    (read >>= λ others. Ok (and v others.0, others.1)) ≡ Err e → read ≡ Err e
then_fails v (Ok x) e h = absurd cc
then_fails v (Err x) e h = h

abbrev failed : {X : Type 0} → Refusal × List ℕ → Read Refusal X
failed e = Err e

-- two refusals that are the same answer are the same
refused_is : (x y : Refusal × List ℕ) → failed {X = Trees} x ≡ failed y → x ≡ y
refused_is x y e = cc

abbrev One : List TypeInfo → ℕ → ℕ → Tree → List ℕ → Type 0
One r room t v c = Val r t v c × (levels v ≤ room)

-- where a value of the next type, or the parts after it, fail, values stand on the front and the
-- next part fails after them
then_next : (r : List TypeInfo) (room : ℕ) (p : Part) (t : ℕ) (input : List ℕ) (reason : Refusal)
    (left : List ℕ) (others : List ℕ → Read Refusal Trees) → first_of p ≡ Some t →
    ((c : List ℕ) → others c ≡ Err (reason, left) →
    NextPartFails r room (left_after p) c reason left) →
    (value_at r room t input >>= λ first. others first.1 >>= λ more.
    Ok (and first.0 more.0, more.1)) ≡ Err (reason, left) →
    NextPartFails r room p input reason left
then_next r room p t input reason left others first h e =
    go (value_at r room t input) refl (value_takes r room t input) e where
      go : (read : Read Refusal Tree) → value_at r room t input ≡ read →
          Takes (One r room t) input read →
          (read >>= λ first. others first.1 >>= λ more. Ok (and first.0 more.0, more.1))
          ≡ Err (reason, left) → NextPartFails r room p input reason left
      go (Err x) is k f = (
        none,
        p,
        t,
        [],
        input,
        (refl, refl),
        first,
        refl,
        omega arith,
        is
            ∙ ap failed (refused_is x (reason, left) f),
      )
      go (Ok x) is k f = let s = h x.1 (then_fails x.0 (others x.1) (reason, left) f) in (
        and x.0 s.0,
        s.1,
        s.2,
        k.0 ++ s.3,
        s.4,
        (t, k.0, s.3, first, refl, k.2.0, s.5),
        s.6,
        k.1
            ∙ ap (λ (y : List ℕ). k.0 ++ y) s.7 ∙ sym (append_assoc k.0 s.3 s.4),
        omega (arith, k.2.1, s.8),
        s.9,
      )

-- where a list of parts fails, some values stand on the front and the next part fails after them
all_next : (r : List TypeInfo) (room : ℕ) (ts input : List ℕ) (reason : Refusal) (left : List ℕ) →
    all_at (value_at r room) ts input ≡ Err (reason, left) →
    NextPartFails r room (each ts) input reason left
all_next r room [] input reason left e = absurd cc
all_next r room (t ∷ ts) input reason left e =
    then_next r room (each (t ∷ ts)) t input reason left (all_at (value_at r room) ts) refl
    (λ c. all_next r room ts c reason left) e

-- the same for elements of one type
times_next : (r : List TypeInfo) (room n t : ℕ) (input : List ℕ) (reason : Refusal)
    (left : List ℕ) → times_at (value_at r room) n t input ≡ Err (reason, left) →
    NextPartFails r room (times n t) input reason left
times_next r room zero t input reason left e = absurd cc
times_next r room (suc n) t input reason left e =
    then_next r room (times (suc n) t) t input reason left (times_at (value_at r room) n t) refl
    (λ c. times_next r room n t c reason left) e

-- where a type is next, a value of it is read and then the parts that are left after it
part_next : (child : ℕ → List ℕ → Read Refusal Tree) (p : Part) (t : ℕ) (b : List ℕ) →
    first_of p ≡ Some t → part_at child p b
    ≡ (child t b >>= λ first. part_at child (left_after p) first.1 >>= λ more.
    Ok (and first.0 more.0, more.1))
part_next child (each []) t b e = absurd cc
part_next child (each (u ∷ us)) t b e = rw (← same_Some u t e) refl
part_next child (times zero u) t b e = absurd cc
part_next child (times (suc n) u) t b e = rw (← same_Some u t e) refl

-- where values stand on the front and the next part fails after them, the parts fail so
part_fails : (r : List TypeInfo) (room : ℕ) (p : Part) (vs : Trees) (b c : List ℕ) (back : Part)
    (u : ℕ) (e : Refusal × List ℕ) → FirstValues r p vs b back → first_of back ≡ Some u →
    most_levels vs ≤ room → value_at r room u c ≡ Err e →
    part_at (value_at r room) p (b ++ c) ≡ Err e
part_fails r room p none b c back u e h first l f =
    rw (h.0, part_next (value_at r room) p u c (ap first_of (sym h.1) ∙ first), f) refl
part_fails r room p (and v vs) b c back u e h first l f =
    rw (
      h.4,
      append_assoc h.1 h.2 c,
      part_next (value_at r room) p h.0 (h.1 ++ (h.2 ++ c)) h.3,
      value_again r room h.0 v h.1 (h.2 ++ c) h.5 (omega arith),
      part_fails r room (left_after p) vs h.2 c back u e h.6 first (omega arith) f,
    ) refl

-- parts fail exactly where the next one does, and in the same way
pub parts_fail : PartsFail
parts_fail r room p input reason left = (
  by p,
  λ s. rw s.7 (part_fails r room p s.0 s.3 s.4 s.1 s.2 (reason, left) s.5 s.6 s.8 s.9),
) where
  by : (p : Part) → part_at (value_at r room) p input ≡ Err (reason, left) →
      NextPartFails r room p input reason left
  by (each ts) = all_next r room ts input reason left
  by (times n t) = times_next r room n t input reason left
