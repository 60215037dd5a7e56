use Rattle.std.proofs.Common.{◌≡◌, Err, ap, sym, subst, inl, inr}
use Rattle.std.specs.Prelude.{IsOk}
use Rattle.growth_core.specs.Evidence.{evidence}
use Rattle.chain_core.specs.RestTypes.{rest_types, types_read}
use Rattle.chain_core.proofs.RestRead.{rest_read}
use Rattle.chain_core.proofs.rest.read_types.Goals as goal

pub returns-in-Ok : goal.returns-in-Ok
unfolding rest_types
returns-in-Ok c = sym (ap types_read c.in-Ok.ensures.exact.1)

pub unreachable-requires : goal.unreachable-requires
unreachable-requires c = elim c.in-Err.ensures.exact [
  | inl is ↦ c.in_default.not-OutOfMemory evidence (ap (λ f. f.reason) is)
  | inr is ↦ let no = subst IsOk is.1 rest_read in cc
]
