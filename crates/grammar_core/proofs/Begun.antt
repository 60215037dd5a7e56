-- How deep a begun tree is.
use Rattle.std.proofs.Common.{◌≡◌, ℕ, zero, suc, true, false, Option, Some, None, refl}
use Rattle.std.proofs.Common.{sym, ap, ◌∙◌, arith}
use Rattle.grammar_core.specs.Begun.{Begun, nothing, whole, open_branch, IsPart, Grows}
use Rattle.grammar_core.specs.Begun.{is_whole_tree}
use Rattle.grammar_core.specs.Laws.{BegunTreesFit}

-- if what is missing first is given twice, the levels left for it are the same
room_is : (p q : ℕ × ℕ) → Some p ≡ Some q → p.0 ≡ q.0
room_is p q e = ap (λ (x : Option (ℕ × ℕ)). elim x [ Some n ↦ n.0 | None ↦ 0 ]) e

-- something is missing in a part
missing : (g : Begun) → IsPart g → is_whole_tree g ≡ false
missing nothing h = refl
missing (whole v) h = absurd h
missing (open_branch k n vs g) h = refl

-- a begun tree of which something is missing is not whole, so anything follows if it were
never_whole : {X : Type 0} (g : Begun) → IsPart g → is_whole_tree g ≡ true → X
never_whole g part e = let no = sym (missing g part) ∙ e in absurd cc

-- a begun tree fits its room, and reports the depth of what is missing, or that nothing is
pub begun_trees_fit : BegunTreesFit
unfolding Grows
begun_trees_fit r room t nothing b next h = (
  omega arith,
  λ left u e. (refl, omega (arith, room_is (room, t) (left, u) (sym h.1 ∙ e))),
  λ e. let no = sym e ∙ h.1 in absurd cc,
)
begun_trees_fit r room t (whole v) b next h =
    (h.1, (λ left u e. let no = sym h.2 ∙ e in absurd cc), λ e. refl)
begun_trees_fit r zero t (open_branch k n vs g) b next h = absurd h
begun_trees_fit r (suc room) t (open_branch k n vs g) b next h =
    let below = begun_trees_fit r room h.1 g h.3 next h.10 in (
      omega (arith, below.0, h.6),
      (λ left u e. (refl, omega (arith, (below.1 left u e).1))),
      λ e. never_whole g h.9 (below.2 e),
    )
