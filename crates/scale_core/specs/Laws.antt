-- What holds of every spelling.
use Rattle.std.specs.Prelude.{◌≡◌, ℕ, suc, ◌*◌, ◌<◌, ◌≤◌, ◌^◌, ℤ, pos, negsuc, List, ◌++◌, length}
use Rattle.std.specs.Prelude.{Ok}
use Rattle.scale_core.specs.Number.{AreBytes, number, le_bytes, signed_number, signed_bytes}
use Rattle.scale_core.specs.Compact.{IsCompact}
use Rattle.scale_core.specs.Text.{IsText}
use Rattle.scale_core.specs.Read.{compact_at, text_at}
use Rattle.scale_core.specs.declared.compact.Target.{Target}

-- no compact integer's spelling is the front of another's with the same target
abbrev pub CompactIsPrefixFree : Type 0
CompactIsPrefixFree = (m : Target) (x y : ℕ) (a b rest more : List ℕ) → IsCompact m x a →
    IsCompact m y b → a ++ rest ≡ b ++ more → (x ≡ y) × (a ≡ b)

-- a compact integer's spelling is read as that integer, whatever follows
abbrev pub CompactIsReadAgain : Type 0
CompactIsReadAgain = (m : Target) (x : ℕ) (a rest : List ℕ) → IsCompact m x a →
    compact_at m (a ++ rest) ≡ Ok (x, rest)

-- no text's spelling is the front of another's
abbrev pub TextIsPrefixFree : Type 0
TextIsPrefixFree = (s t a b rest more : List ℕ) → IsText s a → IsText t b → a ++ rest ≡ b ++ more →
    (s ≡ t) × (a ≡ b)

-- a text's spelling is read as that text, whatever follows
abbrev pub TextIsReadAgain : Type 0
TextIsReadAgain = (s bytes rest : List ℕ) → IsText s bytes → text_at (bytes ++ rest) ≡ Ok (s, rest)

-- the bytes read as a compact integer are the spelling of that integer
abbrev pub CompactIsSpelled : Type 0
CompactIsSpelled = (m : Target) (bytes : List ℕ) (x : ℕ) (rest : List ℕ) →
    compact_at m bytes ≡ Ok (x, rest) → (a : List ℕ) × (bytes ≡ a ++ rest) × IsCompact m x a

-- the bytes read as a text are the spelling of that text
abbrev pub TextIsSpelled : Type 0
TextIsSpelled = (bytes s rest : List ℕ) → text_at bytes ≡ Ok (s, rest) → (a : List ℕ)
    × (bytes ≡ a ++ rest) × IsText s a

-- the bytes of a number that fits k bytes are k bytes and spell that number; and any bytes are the
-- bytes of the number that they spell
pub record NumberIsSpelled : Type 0 where
  pub spelled : (k n : ℕ) → n < 256 ^ k → AreBytes (le_bytes k n) × (length (le_bytes k n) ≡ k)
      × (number (le_bytes k n) ≡ n)
  pub read : (b : List ℕ) → AreBytes b →
      (number b < 256 ^ length b) × (le_bytes (length b) (number b) ≡ b)

-- an integer fits k bytes of two's complement
abbrev pub FitsSigned : ℕ → ℤ → Type 0
FitsSigned k (pos n) = 2 * n < 256 ^ k
FitsSigned k (negsuc n) = 2 * suc n ≤ 256 ^ k

-- the same in two's complement
pub record SignedIsSpelled : Type 0 where
  pub spelled : (k : ℕ) (x : ℤ) → FitsSigned k x → AreBytes (signed_bytes k x)
      × (length (signed_bytes k x) ≡ k) × (signed_number (signed_bytes k x) ≡ x)
  pub read : (b : List ℕ) → AreBytes b → FitsSigned (length b) (signed_number b)
      × (signed_bytes (length b) (signed_number b) ≡ b)
