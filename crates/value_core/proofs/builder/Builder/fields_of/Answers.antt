use Rattle.std.proofs.Common.{rules}
use Rattle.grammar_core.specs.declared.form.Form.TheVariants as form
use Rattle.value_core.proofs.Wanted.{wanted_next}
use Rattle.value_core.proofs.builder.Builder.fields_of.Goals as goal

pub fields-requires : goal.fields-requires
fields-requires g c =
    rw c.walk.ensures.same (wanted_next c.args.self.now form.Fields (search rules))
