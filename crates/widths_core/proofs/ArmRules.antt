-- The rules of the arms that were passed, and those of the arms that are left.
use Rattle.std.proofs.Common.{◌≡◌, ℕ, ◌+◌, ◌<◌, Bool, true, false, cond, List, [], ◌∷◌, ◌++◌}
use Rattle.std.proofs.Common.{length, get_or, take, drop, Option, Some, None, refl, sym, ap, ◌∙◌}
use Rattle.std.proofs.Common.{arith}
use Rattle.std.specs.Prelude.{◌==◌, ◌||◌, is_some}
use Rattle.std.specs.List.{list_any}
use Rattle.std.proofs.lemmas.List.{at_drop_more, append_assoc, drop_more, length-drop}
use Rattle.types_core.specs.declared.definition.Arm.{Arm}
use Rattle.graph_core.specs.declared.graph.Graph.{Graph}
use Rattle.widths_core.specs.declared.counter.Kind.TheVariants as kind
use Rattle.widths_core.specs.declared.counter.Counter.{Counter}
use Rattle.graph_core.specs.Types.{field_types}
use Rattle.widths_core.specs.Arms.{arm_of}
use Rattle.widths_core.specs.Rules.{Rule, rule, arm_rules, found_sized}
use Rattle.graph_core.specs.Cursors.{arms_left}
use Rattle.graph_core.specs.Graphs.{BeginsArm, IsArmNext, IsLinked}
use Rattle.widths_core.specs.Linking.{AddsRules}
use Rattle.widths_core.proofs.ArmsTo.{shadowed, counted}
use Rattle.widths_core.proofs.Adding.{adds_none, adds_on}

-- the rules of i arms were added; seen are the indexes of those that count
pub record AddsArms (t i : ℕ) (arms : List Arm) (cs ds : List Counter) (a b : Graph) : Type 0 where
  pub done : List Rule
  pub seen : List ℕ
  pub marks : (j : ℕ) → list_any (λ s. s == j) seen ≡ is_some (arm_of (take i arms) j)
  pub left : arm_rules t [] arms ≡ done ++ arm_rules t seen (drop i arms)
  pub adds : AddsRules done cs ds a b

-- before the first arm no rule was added
pub arms_none : (t : ℕ) (arms : List Arm) (cs : List Counter) (a : Graph) → IsLinked a →
    AddsArms t 0 arms cs cs a a
arms_none t arms cs a h =
    record { done = []; seen = []; marks = λ j. refl; left = refl; adds = adds_none cs a h }

-- the arms that are left are the next one and those after it, and so are their rules
split : (t i : ℕ) (arms : List Arm) (x : Arm) (seen : List ℕ) → i < length arms →
    x ≡ get_or arms i x → arm_rules t seen (drop i arms) ≡ arm_rules t seen (x ∷ drop (i + 1) arms)
split t i arms x seen lt at = at_drop_more (arm_rules t seen) arms i x lt
    ∙ ap (λ (y : Arm). arm_rules t seen (y ∷ drop (i + 1) arms)) (sym at)

-- one arm more is passed where it is shadowed and an idle rule was added for it
pub arms_shadowed : (t i : ℕ) (arms : List Arm) (x : Arm) (cs ds es : List Counter)
    (a b c : Graph) → i < length arms → x ≡ get_or arms i x →
    is_some (arm_of (take i arms) x.index) ≡ true → AddsArms t i arms cs ds a b →
    AddsRules (rule t kind.Idle (field_types x.fields) ∷ []) ds es b c →
    AddsArms t (i + 1) arms cs es a c
arms_shadowed t i arms x cs ds es a b c lt at has h k =
    let old : list_any (λ s. s == x.index) h.seen ≡ true = h.marks x.index ∙ has in
    let new : Rule = rule t kind.Idle (field_types x.fields) in
    let next : arm_rules t h.seen (x ∷ drop (i + 1) arms)
    ≡ new ∷ arm_rules t h.seen (drop (i + 1) arms) = rw old refl in
    record {
      done = h.done ++ new ∷ [];
      seen = h.seen;
      marks = λ j. h.marks j ∙ ap (λ (o : Option (ℕ × Arm)). is_some o)
          (sym (shadowed i j arms x lt at has));
      left = h.left ∙ ap (λ (xs : List Rule). h.done ++ xs) (split t i arms x h.seen lt at ∙ next)
          ∙ sym (append_assoc h.done (new ∷ []) (arm_rules t h.seen (drop (i + 1) arms)));
      adds = adds_on h.done (new ∷ []) cs ds es a b c h.adds k;
    }

-- one arm more is passed where it is the first of its index and a rule that settles was added
pub arms_counted : (t i : ℕ) (arms : List Arm) (x : Arm) (cs ds es : List Counter) (a b c : Graph) →
    i < length arms → x ≡ get_or arms i x → is_some (arm_of (take i arms) x.index) ≡ false →
    AddsArms t i arms cs ds a b →
    AddsRules (rule t (kind.Fixed found_sized) (field_types x.fields) ∷ []) ds es b c →
    AddsArms t (i + 1) arms cs es a c
arms_counted t i arms x cs ds es a b c lt at lacks h k =
    let fresh : list_any (λ s. s == x.index) h.seen ≡ false = h.marks x.index ∙ lacks in
    let new : Rule = rule t (kind.Fixed found_sized) (field_types x.fields) in
    let next : arm_rules t h.seen (x ∷ drop (i + 1) arms) ≡ new ∷ arm_rules t (x.index ∷ h.seen)
    (drop (i + 1) arms) = rw fresh refl in
    record {
      done = h.done ++ new ∷ [];
      seen = x.index ∷ h.seen;
      marks = λ j. rw (counted i j arms x lt at lacks) (mark j (x.index == j) (h.marks j));
      left = h.left ∙ ap (λ (xs : List Rule). h.done ++ xs) (split t i arms x h.seen lt at ∙ next)
          ∙ sym (append_assoc h.done (new ∷ [])
          (arm_rules t (x.index ∷ h.seen) (drop (i + 1) arms)));
      adds = adds_on h.done (new ∷ []) cs ds es a b c h.adds k;
    } where
      mark : (j : ℕ) (q : Bool) → list_any (λ s. s == j) h.seen ≡ is_some (arm_of (take i arms) j) →
          (q || list_any (λ s. s == j) h.seen)
          ≡ is_some (cond q (Some (i, x)) (arm_of (take i arms) j))
      mark j true e = refl
      mark j false e = e

-- ---- the arms that are left

-- an arm that is begun is the next one, and those after it are left
pub record NextArm (arms : List Arm) (i : ℕ) (b : Graph) (x : Arm) : Type 0 where
  pub at : x ≡ get_or arms i x
  pub left : arms_left b ≡ drop (i + 1) arms

-- an arm that is begun stands at the next place
pub next_arm_at : (arms : List Arm) (i : ℕ) (a b : Graph) (index count : ℕ) → i < length arms →
    arms_left a ≡ drop i arms → (k : BeginsArm a b index count) → NextArm arms i b k.arm
next_arm_at arms i a b index count lt left k =
    let all : get_or arms i k.arm ∷ drop (i + 1) arms ≡ k.arm ∷ arms_left b =
    sym (drop_more arms i k.arm lt) ∙ sym left ∙ k.arms in
    let both = same_head (get_or arms i k.arm) k.arm (drop (i + 1) arms) (arms_left b) all in
    record { at = sym both.0; left = sym both.1 }
  where
    same_head : (x y : Arm) (xs ys : List Arm) → x ∷ xs ≡ y ∷ ys → (x ≡ y) × (xs ≡ ys)
    same_head x y xs ys e = (cc, cc)

-- as long as fewer arms were begun than there are, there is a next one
pub arm_some : (a b : Graph) (o : Option (ℕ × ℕ)) → IsArmNext a b o → 0 < length (arms_left a) →
    is_some o ≡ true
arm_some a b None h lt = absurd (omega (arith, lt, ap length h.0))
arm_some a b (Some x) h lt = refl

-- so many arms are left
pub arms_some : (arms : List Arm) (i : ℕ) (a : Graph) → arms_left a ≡ drop i arms →
    i < length arms → 0 < length (arms_left a)
arms_some arms i a e lt = omega (arith, lt, ap length e, length-drop i arms)
