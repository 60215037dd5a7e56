use Rattle.std.proofs.Common.{◌≡◌, ◌++◌}
use Rattle.std.specs.List.{AllByRecursion}
use Rattle.std.specs.Prelude.{flat_map}
use Rattle.types_core.specs.Fits.{FitsField}
use Rattle.node_core.specs.Shown.{children_of}
use Rattle.chain_core.specs.Synthetic.{input_fields}
use Rattle.chain_core.proofs.synthetic.parameters.Given as goal

-- what is left to append, after what is appended
abbrev pub invariant-inputs : goal.invariant-inputs
invariant-inputs l = record {
  can : (goal.iterator-inputs).can_next l.input-iterator;
  ends : (goal.iterator-inputs).is_finite l.input-iterator;
  exact : l.list.items ++ flat_map input_fields l.input-iterator
      ≡ flat_map input_fields (children_of l.inputs);
  fits : AllByRecursion FitsField l.list.items;
}
