-- What is read of a type is read by the layout that is met.
use Rattle.std.proofs.Common.{◌≡◌, ℕ, suc, ◌≤◌, Bool, true, false, cond, List, Err, refl, sym}
use Rattle.std.specs.Prelude.{◌≢◌}
use Rattle.scale_core.proofs.Results.{Takes}
use Rattle.types_core.specs.declared.type_info.TypeInfo.{TypeInfo}
use Rattle.widths_core.specs.Classes.{is_finite}
use Rattle.widths_core.specs.Layouts.{Layout, layout}
use Rattle.widths_core.specs.Layouts as layout
use Rattle.grammar_core.specs.Tree.{Tree, levels}
use Rattle.grammar_core.specs.Grammar.{Val}
use Rattle.grammar_core.specs.Reading.{value_at, layout_at, Refusal, no_finite_value}
use Rattle.grammar_core.proofs.Sound.{value_takes}
use Rattle.scale_core.specs.Read.{Read}
use Rattle.outcome_core.specs.Reported.{shallow}
use Rattle.outcome_core.specs.Met.{met_layout}

-- asking first whether a type is finite, or reading by the layout that is met, is the same
read_met : (child : ℕ → List ℕ → Read Refusal Tree) (t : Bool) (f : Layout) (b : List ℕ) →
    cond t (layout_at child f b) (Err (no_finite_value, b))
    ≡ layout_at child (cond t f layout.unknown) b
unfolding layout_at
read_met child true f b = refl
read_met child false f b = refl

-- a value is read by the layout that its type is met with
pub value_met : (r : List TypeInfo) (room t : ℕ) (b : List ℕ) →
    value_at r (suc room) t b ≡ layout_at (value_at r room) (met_layout r t) b
unfolding value_at met_layout
value_met r room t b = read_met (value_at r room) (is_finite r t) (layout r t) b

-- with room for one level alone a value is read by that layout, and no part fits
pub shallow_met : (r : List TypeInfo) (t : ℕ) (b : List ℕ) →
    value_at r 1 t b ≡ layout_at shallow (met_layout r t) b
unfolding value_at met_layout
shallow_met r t b = read_met shallow (is_finite r t) (layout r t) b

-- a node with no children
pub met_takes : (r : List TypeInfo) (t : ℕ) (f : Layout) → met_layout r t ≡ f → (b : List ℕ) →
    Takes (λ v c. Val r t v c × (levels v ≤ 1)) b (layout_at shallow f b)
met_takes r t f e b = rw (← e, ← shallow_met r t b) (value_takes r 1 t b)

-- a layout that is met, and is not the unknown one, is that of a finite type
met_of : (t : Bool) (f g : Layout) → g ≢ layout.unknown → cond t f layout.unknown ≡ g → (t ≡ true)
    × (f ≡ g)
met_of true f g ne e = (refl, e)
met_of false f g ne e = absurd (ne (sym e))

-- a layout that is met is that of a type that has a finite value
pub met_is : (r : List TypeInfo) (t : ℕ) (g : Layout) → g ≢ layout.unknown → met_layout r t ≡ g →
    (is_finite r t ≡ true) × (layout r t ≡ g)
unfolding met_layout
met_is r t g ne e = met_of (is_finite r t) (layout r t) g ne e
