-- The bytes of text of a node, and a leaf that is kept as the last node.
use Rattle.std.proofs.Common.{◌≡◌, ℕ, ◌+◌, ◌-◌, ◌^◌, ◌≤◌, ◌<◌, List, [], ◌∷◌, ◌++◌, drop}
use Rattle.std.proofs.Common.{length, length-append, IfSome, refl, ◌∙◌, arith}
use Rattle.std.proofs.lemmas.List.{length-take}
use Rattle.std.proofs.lemmas.Option.{same_Some}
use Rattle.types_core.specs.declared.type_id.TypeId.{TypeId}
use Rattle.value_core.specs.Built.{IsNextLeaf, head_text_bytes, entries_shown, entries_text_bytes}
use Rattle.value_core.specs.Building.{IsBuilding, IsPaid}
use Rattle.node_core.specs.Leaves.{leaf_head, leaf_text_bytes, FitsLeaf, IsAppended}
use Rattle.node_core.specs.Shown.{head_shown, kept_bytes, all_kept, IsInPool}
use Rattle.value_core.specs.Walked.{Walked, advanced, next_type}
use Rattle.node_core.specs.declared.leaf.Leaf.{Leaf}
use Rattle.node_core.specs.declared.leaf.Leaf.TheVariants as leaf
use Rattle.node_core.specs.declared.node.Content.{Content}
use Rattle.node_core.specs.declared.node.Content.TheVariants as content
use Rattle.node_core.specs.declared.node.Node.{Node}
use Rattle.value_core.proofs.Adding.{leaf_added, entries_added, kept_snoc}
use Rattle.value_core.proofs.Ahead.{type_is}
use Rattle.value_core.proofs.Closing.{leaf_paid}

-- a leaf has as many bytes of text as the node that it is added as
text_is : (l : Leaf) → leaf_text_bytes l ≡ head_text_bytes (leaf_head l)
text_is leaf.Empty = refl
text_is _ = refl

-- a leaf that fits has fewer than 2^32 bytes of text
pub text_short : (l : Leaf) → FitsLeaf l → leaf_text_bytes l < 2 ^ 32
text_short (leaf.Text s) h = h
text_short (leaf.Bytes s) h = h
text_short (leaf.Bits n s) h = omega (arith, h.0, h.2)
text_short _ h = omega arith

-- a text or a run of bytes has its bytes in the pool
text_kept : (pool : List ℕ) (n : ℕ) (c : Content) →
    head_text_bytes (head_shown pool n c) ≤ kept_bytes c
text_kept pool n (content.Text len start) =
    omega (arith, length-take (start + len - start) (drop start pool))
text_kept pool n (content.Bytes len start) =
    omega (arith, length-take (start + len - start) (drop start pool))
text_kept pool n (content.Bits unused len start) =
    omega (arith, length-take (start + len - start) (drop start pool))
text_kept pool n _ = omega arith

-- so all texts have no more bytes than all nodes have there
pub texts_kept : (pool : List ℕ) (ns : List Node) →
    entries_text_bytes (entries_shown pool ns) ≤ all_kept ns
texts_kept pool [] = omega arith
texts_kept pool (n ∷ ns) = omega (arith, text_kept pool n.children n.content, texts_kept pool ns)

-- the value that is being built with a leaf as its last node
pub record IsWithLeaf (ty : ℕ) (w : Walked) (l : Leaf) (old_pool pool : List ℕ)
    (old_ns ns : List Node) (text_len t : ℕ) : Type 0 where
  pub builds : IsBuilding ty (advanced w) pool ns (text_len + leaf_text_bytes l)
  pub entries : entries_shown pool ns
      ≡ entries_shown old_pool old_ns ++ record { ty = t; head = leaf_head l } ∷ []
  pub paid : (turns : ℕ) → IsPaid w old_ns turns → IsPaid (advanced w) ns turns
  pub kept : all_kept ns + length old_pool ≡ all_kept old_ns + length pool

-- with one leaf more the texts' bytes are still counted in a machine's word
pub texts_fit : (ty : ℕ) (w : Walked) (l : Leaf) (pool : List ℕ) (ns : List Node) (text_len : ℕ) →
    IsBuilding ty w pool ns text_len → FitsLeaf l → length pool < 2 ^ 63 →
    text_len + leaf_text_bytes l < 2 ^ 64
texts_fit ty w l pool ns text_len b fits small =
    omega (arith, small, text_short l fits, b.texts, b.fits, texts_kept pool ns)

-- with a leaf that is next kept as the last node, the value that is being built stays one
pub leaf_appended : (ty : ℕ) (w : Walked) (l : Leaf) (pool new_pool : List ℕ)
    (ns new_ns : List Node) (text_len : ℕ) (t : TypeId) → IsBuilding ty w pool ns text_len →
    (h : IsNextLeaf w (leaf_head l)) → IfSome (next_type w) (λ x. t.0 ≡ x) →
    IsAppended t l ns pool new_ns new_pool →
    IsWithLeaf ty w l pool new_pool ns new_ns text_len h.ty
leaf_appended ty w l pool new_pool ns new_ns text_len t b h told a =
    let k = a.kept in
    let next = type_is w t.0 h.ty h.next told in
    let n : Node = record { ty = t; children = 0; content = a.content } in
    let at : t.0 ≡ h.ty = same_Some t.0 h.ty (next ∙ h.next) in
    let shows : head_shown (pool ++ k.more) 0 a.content ≡ leaf_head l = rw k.grown at k.shows in
    let inside : IsInPool (pool ++ k.more) a.content = rw k.grown at k.inside in
    rw (k.grown, a.nodes_are) (record {
      builds = leaf_added ty w pool k.more ns n text_len (leaf_text_bytes l) (leaf_head l) b h at
          shows inside (text_is l) (omega (arith, b.fits, k.kept));
      entries = entries_added pool k.more ns n h.ty (leaf_head l) b.inside at shows;
      paid = λ turns p. leaf_paid w ns n turns p;
      kept = omega (arith, kept_snoc ns n, k.kept, length-append pool k.more);
    })
