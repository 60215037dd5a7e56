-- A type with a value is finite: the value is the finite tree that shows it.
use Rattle.std.proofs.Common.{◌≡◌, ℕ, true, List, [], ◌∷◌, length, refl, sym, inl, inr}
use Rattle.std.specs.List.{list_all}
use Rattle.types_core.specs.declared.type_info.TypeInfo.{TypeInfo}
use Rattle.graph_core.specs.Types.{field_types}
use Rattle.widths_core.specs.Classes.{is_finite}
use Rattle.widths_core.specs.Layouts.{layout}
use Rattle.widths_core.specs.Layouts as layout
use Rattle.widths_core.proofs.Known.{finite_at}
use Rattle.grammar_core.specs.Tree.{Tree, leaf, branch, fields, arm, list, Trees, none, and}
use Rattle.grammar_core.specs.Grammar.{Val, Vals}
use Rattle.grammar_core.specs.Laws.{ValuesAreFinite}

mutual
  unfolding Val

  pub finite : (r : List TypeInfo) (t : ℕ) (v : Tree) (b : List ℕ) → Val r t v b →
      is_finite r t ≡ true
  finite r t (leaf l) b h = finite_at r t (layout.plain h.0) h.1
  finite r t (branch fields vs) b h =
      finite_at r t (layout.fields h.0) h.1 (all_finite r h.0 vs b h.2)
  finite r t (branch (arm q) vs) b h =
      finite_at r t (layout.arms h.0) h.4 h.1 q h.2 h.5
      (all_finite r (field_types h.2.fields) vs h.3 h.7)
  finite r t (branch list none) b (inl h) = (finite_at r t (layout.array h.0 h.1) h.2).0 (sym h.3)
  finite r t (branch list (and v vs)) b (inl h) =
      (finite_at r t (layout.array h.0 h.1) h.2).1 (finite r h.1 v h.4.0 h.4.3)
  finite r t (branch list vs) b (inr h) = finite_at r t (layout.sequence h.0) h.3

  all_finite : (r : List TypeInfo) (ts : List ℕ) (vs : Trees) (b : List ℕ) → Vals r ts vs b →
      list_all (is_finite r) ts ≡ true
  all_finite r [] none b h = refl
  all_finite r (t ∷ ts) none b h = absurd h
  all_finite r [] (and v vs) b h = absurd h
  all_finite r (t ∷ ts) (and v vs) b h = rw (finite r t v h.0 h.3, all_finite r ts vs h.1 h.4) refl

-- a type of which there is a value is finite
pub values_are_finite : ValuesAreFinite
values_are_finite r t v b h = (length r, finite r t v b h)
