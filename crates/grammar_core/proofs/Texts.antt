-- Each text of a value is UTF-8.
use Rattle.std.proofs.Common.{ℕ, ◌≤◌, List, [], ◌∷◌, length, ap, arith, inl, inr, length-append}
use Rattle.types_core.specs.declared.type_info.TypeInfo.{TypeInfo}
use Rattle.graph_core.specs.Types.{field_types}
use Rattle.widths_core.specs.Layouts.{Plain}
use Rattle.widths_core.specs.declared.run_kind.RunKind.{RunKind}
use Rattle.widths_core.specs.declared.run_kind.RunKind.TheVariants as kind
use Rattle.grammar_core.specs.Tree.{Leaf, leaf, branch, fields, arm, list, Trees, none, and}
use Rattle.grammar_core.specs.Tree.{bytes_of_text}
use Rattle.grammar_core.specs.Runs.{SpellsRun, run_leaf}
use Rattle.grammar_core.specs.Ways.{Way, of_no_byte, of_width, of_compact, of_run, SpelledBy}
use Rattle.grammar_core.specs.Ways.{way_of}
use Rattle.grammar_core.specs.Grammar.{Val, Vals, Each}
use Rattle.grammar_core.proofs.Ways.{MakesNoText, textless}
use Rattle.grammar_core.specs.Laws.{AllHaveText, TextsAreText, LeafHasText}

-- a run's bytes are counted, and of a text they are UTF-8
run_text_is : (k : RunKind) (n : ℕ) (s b : List ℕ) → length s ≤ length b → SpellsRun k n s b →
    (bytes_of_text (run_leaf k (n, s)) ≤ length b) × LeafHasText (run_leaf k (n, s))
run_text_is kind.Text n s b le h = (le, (rw h.2 h.1.0, h.3))
run_text_is kind.Bytes n s b le h = (le, tt)
run_text_is (kind.ByteArray m) n s b le h = (le, tt)
run_text_is (kind.Bits f) n s b le h = (le, tt)

-- the same of any leaf, by the way of its kind
way_text : (w : Way) (l : Leaf) (b : List ℕ) → ((n : ℕ) → MakesNoText w b n) → SpelledBy w l b →
    (bytes_of_text l ≤ length b) × LeafHasText l
way_text (of_no_byte u) l b without h =
    let none = without 0 in rw h.0 (omega (arith, none.0), none.1)
way_text (of_width k make fault) l b without h =
    let none = without 0 in rw h.1 (omega (arith, none.0), none.1)
way_text (of_compact m make) l b without h =
    let none = without h.0 in rw h.1 (omega (arith, none.0), none.1)
way_text (of_run k) l b without h =
    rw h.1 (run_text_is k h.0.0 h.0.1 b
    (omega (arith, ap length h.2.4, length-append h.2.0 h.0.1)) h.2)

-- the text or the run of bytes that a leaf is has no more bytes than its spelling, and a text is
-- UTF-8
pub leaf_text : (p : Plain) (l : Leaf) (b : List ℕ) → SpelledBy (way_of p) l b →
    (bytes_of_text l ≤ length b) × LeafHasText l
leaf_text p l b h = way_text (way_of p) l b (textless p b) h

mutual
  unfolding Val

  pub texts_are_text : TextsAreText
  texts_are_text r t (leaf l) b h = (leaf_text h.0 l b h.2).1
  texts_are_text r t (branch fields vs) b h = all_have r h.0 vs b h.2
  texts_are_text r t (branch (arm q) vs) b h = all_have r (field_types h.2.fields) vs h.3 h.7
  texts_are_text r t (branch list vs) b (inl h) = each_has r h.1 vs b h.4
  texts_are_text r t (branch list vs) b (inr h) = each_has r h.0 vs h.2 h.6

  all_have : (r : List TypeInfo) (ts : List ℕ) (vs : Trees) (b : List ℕ) → Vals r ts vs b →
      AllHaveText vs
  all_have r [] none b h = tt
  all_have r (t ∷ ts) none b h = absurd h
  all_have r [] (and v vs) b h = absurd h
  all_have r (t ∷ ts) (and v vs) b h = (texts_are_text r t v h.0 h.3, all_have r ts vs h.1 h.4)

  each_has : (r : List TypeInfo) (t : ℕ) (vs : Trees) (b : List ℕ) → Each r t vs b → AllHaveText vs
  each_has r t none b h = tt
  each_has r t (and v vs) b h = (texts_are_text r t v h.0 h.3, each_has r t vs h.1 h.4)
