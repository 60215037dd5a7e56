use Rattle.std.proofs.Common.{◌≡◌, Some, Err, rules}
use Rattle.growth_core.specs.Evidence.{evidence}
use Rattle.scale_calls.specs.declared.refusal.ValueRefusal.TheVariants as value
use Rattle.scaleview_c.specs.Calls.{Leaves}
use Rattle.c_answers.specs.Codes.{plain}
use Rattle.scaleview_c.specs.declared.resource.Resource.TheVariants as held
use Rattle.scaleview_c.proofs.registries.scaleview_decode.Goals.{in-Some-Registry+in-Ok}
use Rattle.scaleview_c.proofs.registries.scaleview_decode.Goals.{in-Some-Registry+in-Err}
use Rattle.scaleview_c.proofs.registries.scaleview_decode.Goals.{in-Some-Session}
use Rattle.scaleview_c.proofs.registries.scaleview_decode.Goals as goal

pub returns-clause-value : goal.returns-clause-value
returns-clause-value c = elim c.match-get.branch [
  | in-Some-Registry+in-Ok w ↦ search rules
  | in-Some-Registry+in-Err w ↦
      let o = w.in-Some-Registry.opened in
      let is : c.args.registry.value ≡ Some (held.Registry o) = search rules in
      let left : Leaves c.args.out.now c.match-get.out (plain 3) c.match-get.answer = search rules
      in
      rw is (Err (value.Memory evidence), tt, left)
  | in-Some-Session w ↦ search rules
]
