use Rattle.std.proofs.Common.{◌≡◌, Some, Err, rules}
use Rattle.growth_core.specs.Evidence.{evidence}
use Rattle.scale_calls.specs.declared.refusal.ValueRefusal.TheVariants as value
use Rattle.c_answers.specs.Codes.{plain}
use Rattle.scaleview_c.specs.Nodes.{LeavesNodes}
use Rattle.scaleview_c.specs.declared.resource.Resource.TheVariants as held
use Rattle.scaleview_c.proofs.nodes.scaleview_decode_nodes.Goals.{in-Some-Registry+in-Ok}
use Rattle.scaleview_c.proofs.nodes.scaleview_decode_nodes.Goals.{in-Some-Registry+in-Err}
use Rattle.scaleview_c.proofs.nodes.scaleview_decode_nodes.Goals.{in-Some-Session}
use Rattle.scaleview_c.proofs.nodes.scaleview_decode_nodes.Goals as goal

pub returns-clause-nodes : goal.returns-clause-nodes
returns-clause-nodes c = elim c.match-get.branch [
  | in-Some-Registry+in-Ok w ↦ search rules
  | in-Some-Registry+in-Err w ↦
      let o = w.in-Some-Registry.opened in
      let is : c.args.registry.value ≡ Some (held.Registry o) = search rules in
      let left : LeavesNodes (plain 3) c.args.nodes.now c.match-get.nodes c.args.pool.now
      c.match-get.pool c.match-get.answer = search rules in
      rw is (Err (value.Memory evidence), tt, left)
  | in-Some-Session w ↦ search rules
]
