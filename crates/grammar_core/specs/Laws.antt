-- What holds of every value and its bytes.
use Rattle.std.specs.Prelude.{◌≡◌, ◌≢◌, ℕ, ◌+◌, ◌*◌, ◌≤◌, List, [], ◌++◌, length, Ok, Err, ◌⊎◌}
use Rattle.std.specs.Prelude.{Option, Some, None, true, false}
use Rattle.scale_core.specs.Number.{AreBytes}
use Rattle.types_core.specs.declared.type_info.TypeInfo.{TypeInfo}
use Rattle.types_core.specs.Fits.{FitsText, FitsRegistry}
use Rattle.graph_core.specs.Widths.{widest}
use Rattle.widths_core.specs.Reach.{IsPlain}
use Rattle.widths_core.specs.Classes.{IsFinite, IsEmpty, class_of}
use Rattle.widths_core.specs.declared.class.Class.TheVariants as class
use Rattle.grammar_core.specs.Tree.{Leaf, Tree, leaf, branch, unit, text, Trees, none, and, levels}
use Rattle.grammar_core.specs.Tree.{nodes, text_bytes, most_levels}
use Rattle.grammar_core.specs.Grammar.{Val}
use Rattle.grammar_core.specs.Begun.{FirstValues, Begun, Grows, begun_levels, begun_depth}
use Rattle.grammar_core.specs.Begun.{is_whole_tree}
use Rattle.grammar_core.specs.Parts.{Part, first_of}
use Rattle.grammar_core.specs.Reading.{value_at, part_at, Refusal, truncated}

-- a value of at most `room` levels stands at the front of the input, and `rest` is after it
abbrev pub ValueStands : List TypeInfo → ℕ → ℕ → List ℕ → Tree → List ℕ → Type 0
ValueStands r room t input v rest = (front : List ℕ) × (input ≡ front ++ rest) × Val r t v front
    × (levels v ≤ room)

-- the input is rejected, and `left` is its bytes from the fault's place on
abbrev pub ValueFails : List TypeInfo → ℕ → ℕ → List ℕ → Refusal → List ℕ → Type 0
ValueFails r room t input reason left = value_at r room t input ≡ Err (reason, left)

-- the bytes of a value are read as that value, whatever follows them
abbrev pub ValueIsRead : Type 0
ValueIsRead = (r : List TypeInfo) (room t : ℕ) (v : Tree) (b rest : List ℕ) → Val r t v b →
    levels v ≤ room → value_at r room t (b ++ rest) ≡ Ok (v, rest)

-- whatever is read is a value at the front of the input
abbrev pub ReadIsValue : Type 0
ReadIsValue = (r : List TypeInfo) (room t : ℕ) (input : List ℕ) (v : Tree) (rest : List ℕ) →
    value_at r room t input ≡ Ok (v, rest) → ValueStands r room t input v rest

-- two values of a type are equal if the bytes of both are fronts of one list
abbrev pub ValuesArePrefixFree : Type 0
ValuesArePrefixFree = (r : List TypeInfo) (t : ℕ) (v w : Tree) (a b rest more : List ℕ) →
    Val r t v a → Val r t w b → a ++ rest ≡ b ++ more → (v ≡ w) × (a ≡ b)

-- a value has one spelling
abbrev pub OneSpelling : Type 0
OneSpelling = (r : List TypeInfo) (t : ℕ) (v : Tree) (a b : List ℕ) → AreBytes a → AreBytes b →
    Val r t v a → Val r t v b → a ≡ b

-- a value stands at the front of the input, or the input is rejected
abbrev pub ValueOrFault : Type 0
ValueOrFault = (r : List TypeInfo) (room t : ℕ) (input : List ℕ) →
    ((v : Tree) × (rest : List ℕ) × ValueStands r room t input v rest)
    ⊎ ((reason : Refusal) × (left : List ℕ) × ValueFails r room t input reason left)

-- and never both
abbrev pub ValueOrFaultNotBoth : Type 0
ValueOrFaultNotBoth = (r : List TypeInfo) (room t : ℕ) (input : List ℕ) (v : Tree) (rest : List ℕ)
    (reason : Refusal) (left : List ℕ) → ValueStands r room t input v rest →
    ValueFails r room t input reason left → ⊥

-- a fault other than Truncated is also the fault of every longer input
abbrev pub FaultsAreStable : Type 0
FaultsAreStable = (r : List TypeInfo) (room t : ℕ) (input more : List ℕ) (reason : Refusal)
    (left : List ℕ) → reason ≢ truncated → ValueFails r room t input reason left →
    ValueFails r room t (input ++ more) reason (left ++ more)

-- a type that takes no bytes is finite and has exactly one value, which has no bytes
abbrev pub EmptyHasUnit : Type 0
EmptyHasUnit = (r : List TypeInfo) (t : ℕ) → IsEmpty r t → IsFinite r t × Val r t (leaf unit) []
    × ((v : Tree) (b : List ℕ) → Val r t v b → (v ≡ leaf unit) × (b ≡ []))

-- a value of any other type has at least one byte
abbrev pub SizedHasBytes : Type 0
SizedHasBytes = (r : List TypeInfo) (t : ℕ) (v : Tree) (b : List ℕ) → class_of r t ≡ class.Sized →
    Val r t v b → 1 ≤ length b

-- a type with a value is finite
abbrev pub ValuesAreFinite : Type 0
ValuesAreFinite = (r : List TypeInfo) (t : ℕ) (v : Tree) (b : List ℕ) → Val r t v b → IsFinite r t

-- a value has no more nodes than this, and its texts and runs have no more bytes than it has
abbrev pub ValuesAreBounded : Type 0
ValuesAreBounded = (r : List TypeInfo) (room t : ℕ) (v : Tree) (b : List ℕ) → Val r t v b →
    levels v ≤ room → (nodes v ≤ 1 + length b * (room * (widest r + 1))) × (text_bytes v ≤ length b)

-- if the leaf is a text, it is UTF-8, and its length can be spelled
abbrev pub LeafHasText : Leaf → Type 0
LeafHasText (text s) = FitsText s
LeafHasText _ = Unit {0}

-- every text of the value is UTF-8, and its length can be spelled
abbrev mutual
  pub HasText : Tree → Type 0
  HasText (leaf l) = LeafHasText l
  HasText (branch k vs) = AllHaveText vs

  pub AllHaveText : Trees → Type 0
  AllHaveText none = Unit {0}
  AllHaveText (and v vs) = HasText v × AllHaveText vs

abbrev pub TextsAreText : Type 0
TextsAreText = (r : List TypeInfo) (t : ℕ) (v : Tree) (b : List ℕ) → Val r t v b → HasText v

-- a finite type has a value if it reaches no bit sequence and no compact without a target
abbrev pub FiniteHasValue : Type 0
FiniteHasValue = (r : List TypeInfo) (t : ℕ) → FitsRegistry r → IsFinite r t → IsPlain r t →
    (v : Tree) × (b : List ℕ) × AreBytes b × Val r t v b

-- values of the first parts stand at the front of the input, with few enough levels, and the next
-- part fails on the bytes after them
abbrev pub NextPartFails : List TypeInfo → ℕ → Part → List ℕ → Refusal → List ℕ → Type 0
NextPartFails r room p input reason left = (vs : Trees) × (back : Part) × (u : ℕ)
    × (b1 b2 : List ℕ) × FirstValues r p vs b1 back × (first_of back ≡ Some u)
    × (input ≡ b1 ++ b2) × (most_levels vs ≤ room) × ValueFails r room u b2 reason left

-- reading parts fails exactly if, after values of the first ones, the next one fails with that
-- fault
abbrev pub PartsFail : Type 0
PartsFail = (r : List TypeInfo) (room : ℕ) (p : Part) (input : List ℕ) (reason : Refusal)
    (left : List ℕ) → (part_at (value_at r room) p input ≡ Err (reason, left) →
    NextPartFails r room p input reason left)
    × (NextPartFails r room p input reason left →
    part_at (value_at r room) p input ≡ Err (reason, left))

-- the levels of a begun tree fit. The depth of the type that is missing first and the levels left
-- for it add up to `room`. If nothing is missing, the tree is a complete value
abbrev pub BegunTreesFit : Type 0
BegunTreesFit = (r : List TypeInfo) (room t : ℕ) (g : Begun) (b : List ℕ) (next : Option (ℕ × ℕ)) →
    Grows r room t g b next →
    (begun_levels g ≤ room) × ((left u : ℕ) → next ≡ Some (left, u) → (is_whole_tree g ≡ false)
    × (left + begun_depth g ≡ room)) × (next ≡ None → is_whole_tree g ≡ true)
