-- What the row of a kind says of its leaves.
use Rattle.std.proofs.Common.{◌≡◌, ℕ, zero, suc, List, [], ◌∷◌, None, refl}
use Rattle.scale_core.specs.Number.{bool_byte}
use Rattle.widths_core.specs.Layouts.{Plain, Layout}
use Rattle.widths_core.specs.Layouts as layout
use Rattle.grammar_core.specs.Tree.{Leaf, bytes_of_text}
use Rattle.grammar_core.specs.Grammar.{SpellsLeaf}
use Rattle.grammar_core.specs.Laws.{LeafHasText}
use Rattle.grammar_core.specs.Ways.{Way, of_no_byte, of_width, of_compact, of_run, SpelledBy}
use Rattle.grammar_core.specs.Ways.{way_of, spells_true, bool_fault}

-- what spells a leaf of a layout that is known spells it in the way of its kind
pub spelled_as : (f : Layout) (p : Plain) (l : Leaf) (b : List ℕ) → f ≡ layout.plain p →
    SpellsLeaf f l b → SpelledBy (way_of p) l b
spelled_as f p l b e h = let same : p ≡ h.0 = cc in rw same h.2

-- a boolean that is not refused is spelled by its byte
pub bool_is : (b : List ℕ) → bool_fault b ≡ None → b ≡ bool_byte (spells_true b) ∷ []
bool_is (zero ∷ []) e = refl
bool_is (suc zero ∷ []) e = refl
bool_is _ e = absurd cc

-- ---- texts

-- it is no text and no run of bytes
abbrev pub IsTextless : Leaf → Type 0
IsTextless l = (bytes_of_text l ≡ 0) × LeafHasText l

-- what is made in this way is none, unless it is read as one
abbrev pub MakesNoText : Way → List ℕ → ℕ → Type 0
MakesNoText (of_no_byte l) b n = IsTextless l
MakesNoText (of_width k make fault) b n = IsTextless (make b)
MakesNoText (of_compact m make) b n = IsTextless (make n)
MakesNoText (of_run k) b n = (n ≡ n) × Unit {0}

-- no other kind is a text
pub textless : (p : Plain) (b : List ℕ) (n : ℕ) → MakesNoText (way_of p) b n
textless layout.empty b n = (refl, tt)
textless _ b n = (refl, tt)
