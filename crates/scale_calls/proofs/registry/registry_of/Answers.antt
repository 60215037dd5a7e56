use Rattle.std.proofs.Common.{ap, arith, drop}
use Rattle.std.specs.Prelude.{option_map}
use Rattle.scale_calls.specs.Opened.{types_by}
use Rattle.std.proofs.lemmas.List.{length-drop}
use Rattle.scale_calls.proofs.Registries.{ends_at, not_alone}
use Rattle.scale_calls.proofs.registry.registry_of.Goals as goal

pub returns-then-end-bytes-clause-err : goal.returns-then-end-bytes-clause-err
returns-then-end-bytes-clause-err c =
    let end = c.in_ok-registry-2.end in
    let bytes = c.args.bytes.now in (
      rw c.if-options.false (ap (option_map (types_by c.args.options.bits))
          (not_alone _ (drop end bytes) _ c.in_ok-registry-2.ensures.exact.1
          (omega (arith, length-drop end bytes)))),
      c.if-options.false,
      omega arith,
      (c.in_ok-registry-2.registry, c.in_ok-registry-2.ensures.exact.1),
    )

pub returns-then-options-clause-end : goal.returns-then-options-clause-end
returns-then-options-clause-end c =
    let read = c.in_ok-registry.ensures.exact in
    rw c.if-options.true (ends_at c.args.bytes.now _ c.in_ok-registry.end _ read.0 read.1)

pub returns-clause-end : goal.returns-clause-end
returns-clause-end c =
    let read = c.in_ok-registry-2.ensures.exact in
    rw c.if-options.false (ends_at c.args.bytes.now _ c.in_ok-registry-2.end _ read.0 read.1)
