use Rattle.std.proofs.Common.{◌≡◌, drop}
use Rattle.graph_core.specs.References.{first_unknown}
use Rattle.graph_core.specs.Types.{ids}
use Rattle.chain_core.proofs.own_references.unknown_member.Given as goal

-- those so far are positions
abbrev pub invariant-members : goal.invariant-members
invariant-members l = first_unknown l.count (ids (drop l.member-index l.members))
    ≡ first_unknown l.count (ids l.members)
