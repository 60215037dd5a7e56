use Rattle.std.proofs.Common.{Err, refl, rules}
use Rattle.scaleview_c.proofs.Written.{no_memory, value_written}
use Rattle.scaleview_c.proofs.registries.write_value.Goals as goal

pub returns-in-Err : goal.returns-in-Err
returns-in-Err c =
    no_memory c.args.opened.now c.args.id c.args.limits _ _ _ _ (refl, c.of_refused.ensures)

pub returns-in-Ok-read_value : goal.returns-in-Ok-read_value
returns-in-Ok-read_value c =
    value_written c.args.opened.now c.args.id c.args.limits c.args.bytes.now _ _
    c.in-Ok-read_value.value _ c.in-Ok-read_value.ensures c.put_json.ensures

pub returns-in-Err-read_value : goal.returns-in-Err-read_value
returns-in-Err-read_value c =
    (Err c.in-Err-read_value.refusal, c.in-Err-read_value.ensures, search rules)
