use Rattle.std.proofs.Common.{length}
use Rattle.scale_core.specs.Compact.{compact}
use Rattle.registry_core.proofs.Positions.{types_from-take}
use Rattle.registry_core.proofs.writing.write_registry.Goals as goal

pub types-preserved : goal.types-preserved
types-preserved c =
    let types = c.types-types.result.now in
    rw (c.in_ok-put_type_info.ensures, c.in_ok-write_compact-2.ensures.ok, c.types.invariant)
    (types_from-take (compact (length types)) types c.types.position c.index-types-position.result
    c.types-test.true c.index-types-position.is)
