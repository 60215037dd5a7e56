use Rattle.std.proofs.Common.{◌≡◌, drop}
use Rattle.graph_core.specs.References.{first_unknown}
use Rattle.graph_core.specs.Types.{field_types}
use Rattle.chain_core.proofs.own_references.unknown_field.Given as goal

-- those so far are positions
abbrev pub invariant-fields : goal.invariant-fields
invariant-fields l = first_unknown l.count (field_types (drop l.field-index l.fields))
    ≡ first_unknown l.count (field_types l.fields)
