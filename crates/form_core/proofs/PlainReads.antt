-- What is read of a node without parts is what its layout reads: compacts and 256-bit integers.
use Rattle.std.proofs.Common.{◌≡◌, ℕ, ◌≤◌, List, length, take, drop, None, Ok, refl, ap, ◌∙◌, arith}
use Rattle.std.proofs.Common.{take_all}
use Rattle.std.proofs.lemmas.Bool.{le-ltb}
use Rattle.scale_core.specs.Read.{bytes_at, compact_at}
use Rattle.scale_core.specs.declared.compact.Target.{Target}
use Rattle.types_core.specs.declared.kind.Signedness.{Signedness}
use Rattle.types_core.specs.declared.kind.Signedness.TheVariants as sign
use Rattle.grammar_core.specs.Preorder as head
use Rattle.grammar_core.specs.Reading.{as_leaf}
use Rattle.grammar_core.specs.Tree as tree
use Rattle.grammar_core.specs.Ways.{leaf_by, leaf_of}
use Rattle.node_core.specs.Leaves.{leaf_head}
use Rattle.node_core.specs.declared.leaf.Leaf.{Leaf}
use Rattle.node_core.specs.declared.leaf.Leaf.TheVariants as leaf
use Rattle.form_core.specs.Needs.{AreOwn}
use Rattle.form_core.specs.NodeForms.{form_of_plain}
use Rattle.form_core.specs.PlainReads.{ReadsPlain}
use Rattle.grammar_core.specs.Reading.{leaf_own}
use Rattle.form_core.specs.declared.forms.PlainForm.TheVariants as plain

-- an integer of 256 bits has 32 bytes of its own
wide_long : (s : Signedness) (own : List ℕ) → AreOwn (form_of_plain (plain.Wide s)) own →
    length own ≡ 32
wide_long sign.Unsigned own a = a.3
wide_long sign.Signed own a = a.3

-- the bytes of a 256-bit integer are it
pub wide_reads : (s : Signedness) (own : List ℕ) (l : Leaf) →
    AreOwn (form_of_plain (plain.Wide s)) own → leaf_head l ≡ head.leaf (tree.wide own) →
    ReadsPlain (plain.Wide s) own (Ok l)
wide_reads s own l a same =
    let h = wide_long s own a in
    let taken : bytes_at 32 own ≡ Ok (take 32 own, drop 32 own) =
    rw (le-ltb (length own) 32 (omega (arith, h))) refl in
    let all : take 32 own ≡ own = take_all 32 own (omega (arith, h)) in
    rw same (
      drop 32 own,
      ap (λ r. leaf_own (as_leaf (leaf_by own tree.wide (λ b. None) r)))
          (taken ∙ ap (λ (b : List ℕ). Ok (b, drop 32 own)) all),
    )

-- a compact that was read off the front
pub compact_reads : (m : Target) (own : List ℕ) (n taken : ℕ) → (taken ≤ length own)
    × (compact_at m own ≡ Ok (n, drop taken own)) →
    ReadsPlain (plain.Compact m) own (Ok (leaf.Compact n))
compact_reads m own n taken h =
    (drop taken own, ap (λ r. leaf_own (as_leaf (leaf_of tree.compact r))) h.1)
