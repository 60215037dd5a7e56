-- How the bytes of a value without parts are read and spelled: each kind of value has one of four
-- ways (SCALE codec, "Types").
use Rattle.std.specs.Prelude.{◌≡◌, ℕ, zero, suc, List, [], ◌∷◌, length, Bool, true, false, Option}
use Rattle.std.specs.Prelude.{Some, None, Ok, Err, if◌then◌else◌}
use Rattle.scale_core.specs.Number.{number, signed_number, is_scalar}
use Rattle.scale_core.specs.Compact.{IsCompact}
use Rattle.scale_core.specs.Read.{Read, bytes_at, compact_at}
use Rattle.scale_core.specs.declared.compact.Target.{Target}
use Rattle.scale_core.specs.declared.compact.Target.TheVariants as target
use Rattle.scale_core.specs.declared.fault.Reason.{Reason}
use Rattle.scale_core.specs.declared.fault.Reason.TheVariants as reason
use Rattle.widths_core.specs.Layouts.{Plain}
use Rattle.widths_core.specs.Layouts as layout
use Rattle.widths_core.specs.declared.run_kind.RunKind.{RunKind}
use Rattle.grammar_core.specs.Tree.{Leaf, unit, bool, char, unsigned, signed, wide, compact, count}
use Rattle.grammar_core.specs.Runs.{SpellsRun, run_leaf, run_at}

-- no byte, for this leaf; so many bytes, made into a leaf unless they are rejected; a compact
-- integer, made into a leaf; or a text, a run of bytes or words
pub data Way : Type 0 where
  of_no_byte : Leaf → Way
  of_width : ℕ → (List ℕ → Leaf) → (List ℕ → Option Reason) → Way
  of_compact : Target → (ℕ → Leaf) → Way
  of_run : RunKind → Way

-- a boolean is one byte, 0 or 1
abbrev pub spells_true : List ℕ → Bool
spells_true (suc zero ∷ []) = true
spells_true _ = false

abbrev pub bool_fault : List ℕ → Option Reason
bool_fault (zero ∷ []) = None
bool_fault (suc zero ∷ []) = None
bool_fault _ = Some reason.BadBool

-- a character is a number that is a Unicode scalar value
abbrev pub char_fault : List ℕ → Option Reason
char_fault b = if is_scalar (number b) then None else Some reason.BadChar

-- the way of each kind
abbrev pub way_of : Plain → Way
way_of layout.empty = of_no_byte unit
way_of layout.bool = of_width 1 (λ b. bool (spells_true b)) bool_fault
way_of layout.char = of_width 4 (λ b. char (number b)) char_fault
way_of (layout.run k) = of_run k
way_of (layout.unsigned k) = of_width k (λ b. unsigned (number b)) (λ b. None)
way_of (layout.signed k) = of_width k (λ b. signed (signed_number b)) (λ b. None)
way_of layout.wide = of_width 32 wide (λ b. None)
way_of layout.counted = of_compact target.U32 count
way_of (layout.compact m) = of_compact m compact

-- ---- the bytes that spell a leaf

abbrev pub SpelledBy : Way → Leaf → List ℕ → Type 0
SpelledBy (of_no_byte u) l b = (l ≡ u) × (b ≡ [])
SpelledBy (of_width k make fault) l b = (length b ≡ k) × (l ≡ make b) × (fault b ≡ None)
SpelledBy (of_compact m make) l b = (n : ℕ) × (l ≡ make n) × IsCompact m n b
SpelledBy (of_run k) l b = (x : ℕ × List ℕ) × (l ≡ run_leaf k x) × SpellsRun k x.0 x.1 b

-- ---- how they are read

-- the leaf made from what was read
abbrev pub leaf_of : {X : Type 0} → (X → Leaf) → Read Reason X → Read Reason Leaf
leaf_of make (Ok x) = Ok (make x.0, x.1)
leaf_of make (Err e) = Err e

-- the leaf, or, if its bytes are rejected, the fault at their first byte
abbrev pub judged_leaf : List ℕ → Leaf → List ℕ → Option Reason → Read Reason Leaf
judged_leaf at l rest None = Ok (l, rest)
judged_leaf at l rest (Some e) = Err (e, at)

abbrev pub leaf_by : List ℕ → (List ℕ → Leaf) → (List ℕ → Option Reason) →
    Read Reason (List ℕ) → Read Reason Leaf
leaf_by at make fault (Ok x) = judged_leaf at (make x.0) x.1 (fault x.0)
leaf_by at make fault (Err e) = Err e

abbrev pub read_by : Way → List ℕ → Read Reason Leaf
read_by (of_no_byte l) b = Ok (l, b)
read_by (of_width k make fault) b = leaf_by b make fault (bytes_at k b)
read_by (of_compact m make) b = leaf_of make (compact_at m b)
read_by (of_run k) b = leaf_of (run_leaf k) (run_at k b)
