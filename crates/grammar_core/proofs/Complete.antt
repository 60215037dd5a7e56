-- What has a value is read, whatever follows it.
use Rattle.std.proofs.Common.{◌≡◌, ℕ, zero, suc, ◌≤◌, List, [], ◌∷◌, ◌++◌, Ok, refl}
use Rattle.std.proofs.Common.{append_assoc, arith, inl, inr}
use Rattle.scale_core.specs.declared.compact.Target.TheVariants as target
use Rattle.scale_core.proofs.Again.{bytes_again, compact_again}
use Rattle.types_core.specs.declared.type_info.TypeInfo.{TypeInfo}
use Rattle.graph_core.specs.Types.{field_types}
use Rattle.grammar_core.proofs.Runs.{run_again}
use Rattle.grammar_core.specs.Tree.{Leaf, Tree, leaf, branch, fields, arm, list, Trees, none, and}
use Rattle.grammar_core.specs.Tree.{how_many, levels, most_levels}
use Rattle.grammar_core.specs.Ways.{Way, of_no_byte, of_width, of_compact, of_run, way_of, read_by}
use Rattle.grammar_core.specs.Ways.{SpelledBy}
use Rattle.grammar_core.specs.Grammar.{Val, Vals, Each}
use Rattle.grammar_core.proofs.Grounded.{finite}
use Rattle.grammar_core.specs.Preorder.{levels-pos}
use Rattle.grammar_core.specs.Reading.{value_at, layout_at, all_at, times_at}

-- what spells a leaf is read as it in each way, whatever follows
way_again : (w : Way) (l : Leaf) (b rest : List ℕ) → SpelledBy w l b →
    read_by w (b ++ rest) ≡ Ok (l, rest)
way_again (of_no_byte u) l b rest h = rw (h.0, h.1) refl
way_again (of_width k make fault) l b rest h = rw (bytes_again k b rest h.0, h.1, h.2) refl
way_again (of_compact m make) l b rest h = rw (h.1, compact_again m h.0 b rest h.2) refl
way_again (of_run k) l b rest h = rw (h.1, run_again k h.0.0 h.0.1 b rest h.2) refl

mutual
  unfolding Val value_at layout_at

  pub value_again : (r : List TypeInfo) (room t : ℕ) (v : Tree) (b rest : List ℕ) → Val r t v b →
      levels v ≤ room → value_at r room t (b ++ rest) ≡ Ok (v, rest)
  value_again r zero t v b rest h l = absurd (omega (arith, levels-pos v))
  value_again r (suc room) t (leaf l) b rest h fits =
      rw (finite r t (leaf l) b h, h.1, way_again (way_of h.0) l b rest h.2) refl
  value_again r (suc room) t (branch fields vs) b rest h l =
      rw (finite r t (branch fields vs) b h, h.1, all_again r room h.0 vs b rest h.2 (omega arith))
      refl
  value_again r (suc room) t (branch (arm q) vs) b rest h l =
      rw (
        finite r t (branch (arm q) vs) b h,
        h.4,
        h.6,
        h.5,
        all_again r room (field_types h.2.fields) vs h.3 rest h.7 (omega arith),
      ) refl
  value_again r (suc room) t (branch list vs) b rest (inl h) l =
      rw (
        finite r t (branch list vs) b (inl h),
        h.2,
        ← h.3,
        times_again r room h.1 vs b rest h.4 (omega arith),
      ) refl
  value_again r (suc room) t (branch list vs) b rest (inr h) l =
      rw (
        finite r t (branch list vs) b (inr h),
        h.3,
        h.5,
        append_assoc,
        compact_again target.U32 (how_many vs) h.1 (h.2 ++ rest) h.4,
        times_again r room h.0 vs h.2 rest h.6 (omega arith),
      ) refl

  pub all_again : (r : List TypeInfo) (room : ℕ) (ts : List ℕ) (vs : Trees) (b rest : List ℕ) →
      Vals r ts vs b → most_levels vs ≤ room →
      all_at (value_at r room) ts (b ++ rest) ≡ Ok (vs, rest)
  all_again r room [] none b rest h l = rw h refl
  all_again r room (t ∷ ts) none b rest h l = absurd h
  all_again r room [] (and v vs) b rest h l = absurd h
  all_again r room (t ∷ ts) (and v vs) b rest h l =
      rw (
        h.2,
        append_assoc,
        value_again r room t v h.0 (h.1 ++ rest) h.3 (omega arith),
        all_again r room ts vs h.1 rest h.4 (omega arith),
      ) refl

  pub times_again : (r : List TypeInfo) (room t : ℕ) (vs : Trees) (b rest : List ℕ) →
      Each r t vs b → most_levels vs ≤ room →
      times_at (value_at r room) (how_many vs) t (b ++ rest) ≡ Ok (vs, rest)
  times_again r room t none b rest h l = rw h refl
  times_again r room t (and v vs) b rest h l =
      rw (
        h.2,
        append_assoc,
        value_again r room t v h.0 (h.1 ++ rest) h.3 (omega arith),
        times_again r room t vs h.1 rest h.4 (omega arith),
      ) refl
