-- Which values take no bytes.
use Rattle.std.proofs.Common.{◌≡◌, ℕ, suc, ◌≤◌, true, List, [], ◌∷◌, ◌++◌, length}
use Rattle.std.proofs.Common.{refl, sym, ap, subst, ◌∙◌, arith, inl, inr}
use Rattle.std.specs.List.{list_all}
use Rattle.scale_core.specs.Compact.{IsCompact}
use Rattle.scale_core.specs.declared.compact.Target.TheVariants as target
use Rattle.scale_core.proofs.Again.{compact-bytes}
use Rattle.types_core.specs.declared.type_info.TypeInfo.{TypeInfo}
use Rattle.widths_core.specs.declared.class.Class.TheVariants as class
use Rattle.widths_core.specs.Classes.{IsEmpty, class_of, empty_within}
use Rattle.widths_core.specs.Layouts.{Plain, Layout, layout}
use Rattle.widths_core.specs.Layouts as layout
use Rattle.widths_core.specs.declared.run_kind.RunKind.{RunKind}
use Rattle.widths_core.specs.declared.run_kind.RunKind.TheVariants as kind
use Rattle.grammar_core.specs.Runs.{SpellsRun}
use Rattle.widths_core.proofs.Known.{KnowsLayout, known, empty_class, class_empty, class_finite}
use Rattle.widths_core.proofs.Known.{layout_empty}
use Rattle.grammar_core.specs.Tree.{Leaf, Tree, leaf, branch, unit, fields, arm, list, Trees, none}
use Rattle.grammar_core.specs.Tree.{and, how_many}
use Rattle.grammar_core.specs.Ways.{Way, of_no_byte, of_width, of_compact, of_run, SpelledBy}
use Rattle.grammar_core.specs.Ways.{way_of}
use Rattle.grammar_core.proofs.Ways.{spelled_as}
use Rattle.grammar_core.specs.Grammar.{Val, Vals}
use Rattle.grammar_core.specs.Laws.{EmptyHasUnit, SizedHasBytes}

-- two lists that are empty when joined are both empty
nil_parts : (a b : List ℕ) → a ++ b ≡ [] → (a ≡ []) × (b ≡ [])
nil_parts [] b e = (refl, e)
nil_parts (x ∷ a) b e = absurd cc

-- what a type's layout says of its class and parts is so, where the layout is known by an equation
pub known_at : (r : List TypeInfo) (t : ℕ) (f : Layout) → layout r t ≡ f → KnowsLayout r t f
known_at r t f e = subst (KnowsLayout r t) e (known r t)

-- the compact spelling of a number has a byte, so anything follows if it had none
compact_has_byte : {X : Type 0} (x : ℕ) (b : List ℕ) → IsCompact target.U32 x b → b ≡ [] → X
compact_has_byte x b h e = let no = compact-bytes target.U32 x b h e in absurd cc

-- a run of bytes without any is of a type that takes none
run_no_bytes : (r : List TypeInfo) (t : ℕ) (k : RunKind) (n : ℕ) (s b : List ℕ) → b ≡ [] →
    KnowsLayout r t (layout.plain (layout.run k)) → SpellsRun k n s b → class_of r t ≡ class.Empty
run_no_bytes r t kind.Text n s b e known h =
    compact_has_byte n h.0 h.1 (nil_parts h.0 s (sym h.4 ∙ e)).0
run_no_bytes r t kind.Bytes n s b e known h =
    compact_has_byte n h.0 h.1 (nil_parts h.0 s (sym h.4 ∙ e)).0
run_no_bytes r t (kind.ByteArray m) n s b e known h =
    let none : s ≡ [] = (nil_parts h.0 s (sym h.4 ∙ e)).1 in
    empty_class r t (known (sym h.1.0 ∙ sym h.2 ∙ ap length none))
run_no_bytes r t (kind.Bits f) n s b e known h =
    compact_has_byte n h.0 h.1 (nil_parts h.0 s (sym h.4 ∙ e)).0

-- what is known of a type whose values are read in this way
abbrev KnowsWay : List TypeInfo → ℕ → Way → Type 0
KnowsWay r t (of_no_byte l) = class_of r t ≡ class.Empty
KnowsWay r t (of_width k make fault) = 1 ≤ k
KnowsWay r t (of_compact m make) = m ≡ target.Unit → IsEmpty r t
KnowsWay r t (of_run k) = KnowsLayout r t (layout.plain (layout.run k))

-- it is known by the kind that its layout is
knows_way : (r : List TypeInfo) (t : ℕ) (p : Plain) → KnowsLayout r t (layout.plain p) →
    KnowsWay r t (way_of p)
knows_way r t layout.bool h = omega arith
knows_way r t layout.char h = omega arith
knows_way r t layout.wide h = omega arith
knows_way r t layout.counted h = λ e. absurd cc
knows_way r t _ h = h

-- a leaf of no bytes is of a type that takes none
leaf_no_bytes : (r : List TypeInfo) (t : ℕ) (w : Way) (l : Leaf) → KnowsWay r t w →
    SpelledBy w l [] → class_of r t ≡ class.Empty
leaf_no_bytes r t (of_no_byte u) l known h = known
leaf_no_bytes r t (of_width k make fault) l known h = absurd (omega (arith, known, h.0))
leaf_no_bytes r t (of_compact m make) l known h =
    empty_class r t (known (compact-bytes m h.0 [] h.2 refl))
leaf_no_bytes r t (of_run k) l known h = run_no_bytes r t k h.0.0 h.0.1 [] refl known h.2

mutual
  unfolding Val

  -- a value with no byte is of a type that takes none
  pub no_bytes : (r : List TypeInfo) (t : ℕ) (v : Tree) (b : List ℕ) → b ≡ [] → Val r t v b →
      class_of r t ≡ class.Empty
  no_bytes r t (leaf l) b e h =
      leaf_no_bytes r t (way_of h.0) l (knows_way r t h.0 (known_at r t (layout.plain h.0) h.1))
      (subst (SpelledBy (way_of h.0) l) e h.2)
  no_bytes r t (branch fields vs) b e h =
      empty_class r t (known_at r t (layout.fields h.0) h.1 (all_no_bytes r h.0 vs b e h.2))
  no_bytes r t (branch (arm q) vs) b e h = let no = sym e ∙ h.6 in absurd cc
  no_bytes r t (branch list none) b e (inl h) =
      empty_class r t ((known_at r t (layout.array h.0 h.1) h.2).0 (sym h.3))
  no_bytes r t (branch list (and v vs)) b e (inl h) =
      empty_class r t ((known_at r t (layout.array h.0 h.1) h.2).1
      (class_empty r h.1 (no_bytes r h.1 v h.4.0 (nil_parts h.4.0 h.4.1 (sym h.4.2 ∙ e)).0 h.4.3)))
  no_bytes r t (branch list none) b e (inr h) =
      compact_has_byte 0 h.1 h.4 (nil_parts h.1 h.2 (sym h.5 ∙ e)).0
  no_bytes r t (branch list (and v vs)) b e (inr h) =
      compact_has_byte (suc (how_many vs)) h.1 h.4 (nil_parts h.1 h.2 (sym h.5 ∙ e)).0

  pub all_no_bytes : (r : List TypeInfo) (ts : List ℕ) (vs : Trees) (b : List ℕ) → b ≡ [] →
      Vals r ts vs b → list_all (empty_within r (length r)) ts ≡ true
  all_no_bytes r [] none b e h = refl
  all_no_bytes r (t ∷ ts) none b e h = absurd h
  all_no_bytes r [] (and v vs) b e h = absurd h
  all_no_bytes r (t ∷ ts) (and v vs) b e h =
      let parts = nil_parts h.0 h.1 (sym h.2 ∙ e) in
      rw (class_empty r t (no_bytes r t v h.0 parts.0 h.3), all_no_bytes r ts vs h.1 parts.1 h.4)
      refl

-- a list that is not empty has one element at least
not_nil : (b : List ℕ) → (b ≡ [] → ⊥) → 1 ≤ length b
not_nil [] h = absurd (h refl)
not_nil (x ∷ b) h = omega arith

-- a value of a type of the class Sized has a byte
pub sized_has_bytes : SizedHasBytes
sized_has_bytes r t v b sized h =
    not_nil b (λ e. let no = sym sized ∙ no_bytes r t v b e h in absurd cc)

-- what is laid out as a type without bytes has no value but the unit, of no byte
pub empty_unique : (r : List TypeInfo) (t : ℕ) (v : Tree) (b : List ℕ) →
    layout r t ≡ (layout.plain layout.empty) → Val r t v b → (v ≡ leaf unit) × (b ≡ [])
unfolding Val
empty_unique r t (leaf l) b e h = let is =
    spelled_as (layout r t) layout.empty l b e h in (ap leaf is.0, is.1)
empty_unique r t (branch fields vs) b e h = let no = sym e ∙ h.1 in absurd cc
empty_unique r t (branch (arm q) vs) b e h = let no = sym e ∙ h.4 in absurd cc
empty_unique r t (branch list vs) b e (inl h) = let no = sym e ∙ h.2 in absurd cc
empty_unique r t (branch list vs) b e (inr h) = let no = sym e ∙ h.3 in absurd cc

-- a type that takes no bytes is finite and has one value, the unit, of no byte
pub empty_has_unit : EmptyHasUnit
unfolding Val
empty_has_unit r t e =
    let is = empty_class r t e in (
      class_finite r t (λ no. let both = sym is ∙ no in absurd cc),
      (layout.empty, layout_empty r t is, (refl, refl)),
      λ v b. empty_unique r t v b (layout_empty r t is),
    )
