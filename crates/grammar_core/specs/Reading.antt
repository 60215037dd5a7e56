-- A value read from the front of a list: the value and the bytes after it, or the fault and the
-- bytes from its place on.
use Rattle.std.specs.Prelude.{ℕ, zero, suc, List, [], ◌∷◌, Option, Some, None, Ok, Err}
use Rattle.std.specs.Prelude.{if◌then◌else◌}
use Rattle.scale_core.specs.Read.{Read, ◌>>=◌, compact_at}
use Rattle.scale_core.specs.declared.compact.Target.TheVariants as target
use Rattle.scale_core.specs.declared.fault.Reason.{Reason}
use Rattle.scale_core.specs.declared.fault.Reason.TheVariants as scale
use Rattle.types_core.specs.declared.definition.Arm.{Arm}
use Rattle.types_core.specs.declared.type_info.TypeInfo.{TypeInfo}
use Rattle.graph_core.specs.Types.{field_types}
use Rattle.widths_core.specs.Arms.{arm_of}
use Rattle.widths_core.specs.Classes.{is_finite}
use Rattle.widths_core.specs.Layouts.{Plain, Layout, layout}
use Rattle.widths_core.specs.Layouts as layout
use Rattle.grammar_core.specs.Parts.{Part, each, times}
use Rattle.grammar_core.specs.Preorder.{Head, head_of}
use Rattle.grammar_core.specs.Tree.{Leaf, Branch, Tree, leaf, branch, fields, arm, list, Trees}
use Rattle.grammar_core.specs.Tree.{none, and}
use Rattle.grammar_core.specs.Ways.{read_by, way_of}

pub data Refusal : Type 0 where
  basic : Reason → Refusal
  no_such_variant : Refusal
  too_deep : Refusal
  no_finite_value : Refusal
  bit_sequence : Refusal
  bad_compact : Refusal

abbrev pub truncated : Refusal
truncated = basic scale.Truncated

abbrev pub ValueReader : Type 0 → Type 0
ValueReader X = List ℕ → Read Refusal X

-- a leaf as a value
abbrev pub as_leaf : Read Reason Leaf → Read Refusal Tree
as_leaf (Ok x) = Ok (leaf x.0, x.1)
as_leaf (Err e) = Err (basic e.0, e.1)

abbrev pub with_children : Branch → Read Refusal Trees → Read Refusal Tree
with_children k (Ok x) = Ok (branch k x.0, x.1)
with_children k (Err e) = Err e

-- one value of each of these types, in order, each read by `child`
abbrev pub all_at : (ℕ → ValueReader Tree) → List ℕ → ValueReader Trees
all_at child [] bytes = Ok (none, bytes)
all_at child (t ∷ ts) bytes = do
  first ← child t bytes
  others ← all_at child ts first.1
  Ok (and first.0 others.0, others.1)

-- n values of one type, one after the other, each read by `child`
abbrev pub times_at : (ℕ → ValueReader Tree) → ℕ → ℕ → ValueReader Trees
times_at child zero t bytes = Ok (none, bytes)
times_at child (suc n) t bytes = do
  first ← child t bytes
  others ← times_at child n t first.1
  Ok (and first.0 others.0, others.1)

-- the values of the parts of a node, in order
abbrev pub part_at : (ℕ → ValueReader Tree) → Part → ValueReader Trees
part_at child (each ts) bytes = all_at child ts bytes
part_at child (times n t) bytes = times_at child n t bytes

-- the fields of the arm found for the index, which is the first byte of `at`
abbrev pub fields_after_index : (ℕ → ValueReader Tree) → List ℕ → Option (ℕ × Arm) →
    ValueReader Tree
fields_after_index child at (Some found) rest =
    with_children (arm found.0) (all_at child (field_types found.1.fields) rest)
fields_after_index child at None rest = Err (no_such_variant, at)

abbrev pub arms_at : (ℕ → ValueReader Tree) → List Arm → ValueReader Tree
arms_at child arms [] = Err (truncated, [])
arms_at child arms (index ∷ rest) =
    fields_after_index child (index ∷ rest) (arm_of arms index) rest

-- the elements after a length
abbrev pub elements_at : (ℕ → ValueReader Tree) → ℕ → Read Reason ℕ → Read Refusal Tree
elements_at child t (Ok n) = with_children list (times_at child n.0 t n.1)
elements_at child t (Err e) = Err (basic e.0, e.1)

-- a value without parts, by the way of its kind
abbrev pub leaf_at : Plain → ValueReader Tree
leaf_at p bytes = as_leaf (read_by (way_of p) bytes)

-- a value of this layout, with `child` as the reader of its children
unfoldable pub layout_at : (ℕ → ValueReader Tree) → Layout → ValueReader Tree
layout_at child layout.unknown bytes = Err (no_finite_value, bytes)
layout_at child layout.bit_sequence bytes = Err (bit_sequence, bytes)
layout_at child layout.bad_compact bytes = Err (bad_compact, bytes)
layout_at child (layout.plain p) bytes = leaf_at p bytes
layout_at child (layout.fields ts) bytes = with_children fields (all_at child ts bytes)
layout_at child (layout.arms arms) bytes = arms_at child arms bytes
layout_at child (layout.sequence t) bytes = elements_at child t (compact_at target.U32 bytes)
layout_at child (layout.array n t) bytes = with_children list (times_at child n t bytes)

-- a value of type t, with so many levels left for it
unfoldable pub value_at : List TypeInfo → ℕ → ℕ → ValueReader Tree
value_at r zero t bytes = Err (too_deep, bytes)
value_at r (suc room) t bytes =
    if is_finite r t then layout_at (value_at r room) (layout r t) bytes else Err
    (no_finite_value, bytes)

-- a reading of a node: the node, and the parts that it opens
abbrev pub Own : Type 0
Own = Read Refusal (Head × Option Part)

abbrev pub leaf_own : Read Refusal Tree → Own
leaf_own (Ok x) = Ok ((head_of x.0, None), x.1)
leaf_own (Err e) = Err e
