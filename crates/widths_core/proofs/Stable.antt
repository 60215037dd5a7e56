-- The class and the target of a type follow from those of its parts by one step.
use Rattle.std.proofs.Common.{◌≡◌, ℕ, Bool, true, false, List, length, Option, Some, None, refl}
use Rattle.std.proofs.Common.{sym, ap, subst, ◌∙◌}
use Rattle.std.proofs.Math.Path.{fun_ext}
use Rattle.scale_core.specs.declared.compact.Target.{Target}
use Rattle.types_core.specs.declared.definition.TypeDef.{TypeDef}
use Rattle.types_core.specs.declared.type_info.TypeInfo.{TypeInfo}
use Rattle.graph_core.specs.Types.{shape}
use Rattle.widths_core.specs.Targets.{Leads, ends, through, nowhere, leads, leads_shape, HasTarget}
use Rattle.widths_core.specs.Targets.{here, there, target_from, target_of}
use Rattle.widths_core.specs.Classes.{finite_step, empty_step, finite_within, empty_within}
use Rattle.widths_core.specs.Classes.{is_finite, is_empty, class_from, class_of}
use Rattle.widths_core.specs.ClassTables.{has_value, class_step}
use Rattle.widths_core.proofs.Ranks.{ranks_settle, finite_up, empty_up, holds_at-shape}
use Rattle.widths_core.proofs.Known.{empty_finite, empty_next, finite_next}
use Rattle.widths_core.proofs.TargetsFound.{targets_are_found}
use Rattle.widths_core.proofs.Settled.{is_empty_class, has_value-step, is_empty-step, class_is}

-- two tests that follow from each other are the same
pub same_test : (a b : Bool) → (a ≡ true → b ≡ true) → (b ≡ true → a ≡ true) → a ≡ b
same_test true b f g = sym (f refl)
same_test false true f g = g refl
same_test false false f g = refl

-- a type is finite exactly where its definition has a value by the types that are finite
finite_stable : (r : List TypeInfo) (t : ℕ) (d : TypeDef) → shape r t ≡ Some d →
    is_finite r t ≡ finite_step (is_finite r) d
unfolding finite_within
finite_stable r t d e = same_test (is_finite r t) (finite_step (is_finite r) d) forth
    (finite_next r t d e) where
      forth : is_finite r t ≡ true → finite_step (is_finite r) d ≡ true
      forth h = sym (holds_at-shape r (finite_step (finite_within r (length r))) t d e)
          ∙ finite_up r (length r) t h

-- a type is empty exactly where its definition takes no bytes by the types that are empty
empty_stable : (r : List TypeInfo) (t : ℕ) (d : TypeDef) → shape r t ≡ Some d →
    is_empty r t ≡ empty_step r (is_empty r) d
unfolding empty_within
empty_stable r t d e = same_test (is_empty r t) (empty_step r (is_empty r) d) forth back where
  forth : is_empty r t ≡ true → empty_step r (is_empty r) d ≡ true
  forth h = sym (holds_at-shape r (empty_step r (empty_within r (length r))) t d e)
      ∙ empty_up r (length r) t h

  back : empty_step r (is_empty r) d ≡ true → is_empty r t ≡ true
  back h = let k = empty_next r t d e h in (ranks_settle r t k.0).1 k.1

-- a class made of two tests reports both again, where the first follows from the second
from_tests : (a b : Bool) → (b ≡ true → a ≡ true) → (has_value (class_from a b) ≡ a)
    × (is_empty_class (class_from a b) ≡ b)
from_tests true true f = (refl, refl)
from_tests true false f = (refl, refl)
from_tests false true f = let no = f refl in absurd cc
from_tests false false f = (refl, refl)

-- by its class, a type has a value exactly where it is finite
pub has_value-class_of : (r : List TypeInfo) (t : ℕ) → has_value (class_of r t) ≡ is_finite r t
has_value-class_of r t = (from_tests (is_finite r t) (is_empty r t) (empty_finite r t)).0

-- the class of a type is Empty exactly where the type takes no bytes
is_empty-class_of : (r : List TypeInfo) (t : ℕ) → is_empty_class (class_of r t) ≡ is_empty r t
is_empty-class_of r t = (from_tests (is_finite r t) (is_empty r t) (empty_finite r t)).1

-- the class of a type follows from the classes of its parts by its definition
pub class_stable : (r : List TypeInfo) (t : ℕ) (d : TypeDef) → shape r t ≡ Some d →
    class_of r t ≡ class_step (target_of r) (class_of r) d
class_stable r t d e =
    let next = class_step (target_of r) (class_of r) d in
    let fs : (λ u. has_value (class_of r u)) ≡ is_finite r = fun_ext (has_value-class_of r) in
    let es : (λ u. is_empty_class (class_of r u)) ≡ is_empty r = fun_ext (is_empty-class_of r) in
    let finite : has_value next ≡ is_finite r t = has_value-step (target_of r) (class_of r) d
    ∙ ap (λ (f : ℕ → Bool). finite_step f d) fs ∙ sym (finite_stable r t d e) in
    let empty : is_empty_class next ≡ is_empty r t = is_empty-step r (class_of r) d
    ∙ ap (λ (f : ℕ → Bool). empty_step r f d) es ∙ sym (empty_stable r t d e) in
    sym (class_is next ∙ ap (λ (b : Bool). class_from b (is_empty_class next)) finite
    ∙ ap (class_from (is_finite r t)) empty)

-- ---- targets

-- where a type leads through another, a target of the first is one of the other
led_to : (r : List TypeInfo) (t u : ℕ) (m : Target) → leads r t ≡ through u →
    HasTarget r t m → HasTarget r u m
led_to r t u m e (here f) = let no = sym e ∙ f in absurd cc
led_to r t u m e (there {u = v} f h) = let both : through v ≡ through u = sym f ∙ e in
    let same : v ≡ u = cc in subst (λ (w : ℕ). HasTarget r w m) same h

-- a type that leads nowhere has no target
none_there : (r : List TypeInfo) (t : ℕ) (m : Target) → leads r t ≡ nowhere → HasTarget r t m → ⊥
none_there r t m e (here f) = let no = sym e ∙ f in cc
none_there r t m e (there f h) = let no = sym e ∙ f in cc

-- a type that has no target by the relation has none by the computation
no_target : (r : List TypeInfo) (t : ℕ) → ((m : Target) → HasTarget r t m → ⊥) →
    target_of r t ≡ None
no_target r t f = go (target_of r t) refl where
  go : (o : Option Target) → target_of r t ≡ o → target_of r t ≡ None
  go None e = e
  go (Some m) e = absurd (f m ((targets_are_found r t m).1 e))

-- the target of a type follows from those of the types that it leads to, however it leads
target_by : (r : List TypeInfo) (t : ℕ) (l : Leads) → leads r t ≡ l →
    target_of r t ≡ target_from (target_of r) l
target_by r t (ends m) e = (targets_are_found r t m).0 (here e)
target_by r t nowhere e = no_target r t (λ m. none_there r t m e)
target_by r t (through u) e = go (target_of r u) refl where
  go : (o : Option Target) → target_of r u ≡ o → target_of r t ≡ target_of r u
  go (Some m) f = (targets_are_found r t m).0 (there e ((targets_are_found r u m).1 f)) ∙ sym f
  go None f = no_target r t (λ m h. let is = (targets_are_found r u m).0 (led_to r t u m e h) in
      let no = sym f ∙ is in cc) ∙ sym f

-- the target of a type follows from those of other types by its definition
pub target_stable : (r : List TypeInfo) (t : ℕ) (d : TypeDef) → shape r t ≡ Some d →
    target_of r t ≡ target_from (target_of r) (leads_shape d)
target_stable r t d e = target_by r t (leads_shape d) (rw (e, leads) refl)
