-- A composite or tuple that is added together with its only part.
use Rattle.std.specs.Prelude.{◌≡◌, ℕ, ◌^◌, ◌<◌, ◌≤◌, List, [], ◌∷◌, length, take}
use Rattle.grammar_core.specs.Parts.{each}
use Rattle.grammar_core.specs.Preorder as head
use Rattle.grammar_core.specs.Tree as tree
use Rattle.grammar_core.specs.declared.form.Form.TheVariants as form
use Rattle.grammar_core.specs.declared.form.Next.TheVariants as next
use Rattle.value_core.specs.Begun.{IsBegun}
use Rattle.value_core.specs.Built.{Built, with_fields, with_leaf}
use Rattle.value_core.specs.Opened.{OpensFields}
use Rattle.value_core.specs.Walked.{Walked, advanced, next_of, opened}

-- a composite or tuple is next whose only part, of this type, is an array of `len` u8
pub record WrapsArray (w : Walked) (part len : ℕ) : Type 0 where
  pub few : len < 2 ^ 32
  pub opens : OpensFields w (each (part ∷ []))
  pub array : (place : ℕ) → next_of (opened (advanced w) place (each (part ∷ [])))
      ≡ next.Wants (form.ByteArray len)

-- both were added: the composite or tuple, after which a begun tree is held and an array of `len`
-- u8 is next, and then the array with the first `len` of these bytes
pub record Wraps (old new : Built) (bytes : List ℕ) (len : ℕ) : Type 0 where
  pub begun : IsBegun (with_fields old)
  pub wants : next_of (with_fields old).walk ≡ next.Wants (form.ByteArray len)
  pub within : len ≤ length bytes
  pub is : new ≡ with_leaf (with_fields old) (head.leaf (tree.bytes (take len bytes)))
