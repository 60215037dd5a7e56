use Rattle.std.proofs.Common.{◌≡◌, drop}
use Rattle.chain_core.specs.Extrinsics.{parameter_in}
use Rattle.chain_core.proofs.extrinsics.parameter_in.Given as goal

-- none of the parameters so far has the name
abbrev pub invariant-params : goal.invariant-params
invariant-params l = parameter_in l.count (drop l.param-index l.params) l.name
    ≡ parameter_in l.count l.params l.name
