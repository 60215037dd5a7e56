use Rattle.std.proofs.Common.{drop, length, refl, ap, ◌∙◌}
use Rattle.std.proofs.lemmas.Result.{err_from_is_err_and}
use Rattle.chain_core.specs.Listed.{things}
use Rattle.chain_core.specs.Synthetic.{synthetic}
use Rattle.scale_calls.specs.Opened.{types_by}
use Rattle.scale_calls.proofs.KeptClasses.{classes_kept}
use Rattle.scale_calls.proofs.Metadatas.{by_reference, by_rest, ends_there}
use Rattle.scale_calls.proofs.metadata.open_with.Goals as goal

pub returns-in_err-rest-clause-err : goal.returns-in_err-rest-clause-err
returns-in_err-rest-clause-err c =
    let bytes = c.args.bytes.now in
    let end = c.in-Ok.read.1 in
    let read = c.in-Ok.ensures.exact in
    let p = err_from_is_err_and c.from_residual.result c.from_residual.ensures.1 in
    rw (p.1, p.2) (by_rest c.args.bits bytes (drop end bytes) c.in-Ok.read.0 c.in-Ok.read.2 end _
    read.1 (ends_there bytes end read.0)
    (rw c.from_place-left.ensures at c.in_err-rest.ensures.err))

pub returns-in_err-checked-clause-err : goal.returns-in_err-checked-clause-err
returns-in_err-checked-clause-err c =
    let bytes = c.args.bytes.now in
    let end = c.in-Ok.read.1 in
    let read = c.in-Ok.ensures.exact in
    let p = err_from_is_err_and c.from_residual-in_err-checked.result
    c.from_residual-in_err-checked.ensures.1 in
    rw (p.1, p.2) (by_reference c.args.bits bytes (drop end bytes) c.in-Ok.read.0 c.in-Ok.read.2
    end c.in_ok-rest.rest _ read.1 (ends_there bytes end read.0)
    (rw c.from_place-left.ensures at c.in_ok-rest.ensures.ok)
    (rw c.allowed-registry.ensures at c.in_err-checked.ensures.err))

pub returns-clause-ok : goal.returns-clause-ok
returns-clause-ok c =
    let bytes = c.args.bytes.now in
    let end = c.in-Ok.read.1 in
    let own = types_by c.args.bits c.in-Ok.read.0 in
    let ok = rw c.allowed-registry.ensures at c.in_ok-checked.ensures.ok in (
      record {
        version = c.in-Ok.read.2;
        own = own;
        rest = c.in_ok-rest.rest;
      },
      record {
        types = c.in-Ok.read.0;
        left = drop end bytes;
        read = c.in-Ok.ensures.exact.1;
        own = refl;
        rest = rw c.from_place-left.ensures at c.in_ok-rest.ensures.ok;
        known = ok.2;
      },
      record {
        version = refl;
        own = ap length (c.types.ensures.same ∙ c.allowed-registry.ensures);
        types = ok.0;
        classes = rw ok.0 (classes_kept own
            (synthetic own (things c.in-Ok.read.2 own c.in_ok-rest.rest)) ok.2.own);
        names = ok.1;
      },
    )
