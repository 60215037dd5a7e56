use Rattle.json_core.proofs.writing.write_wide.Goals as goal

pub returns : goal.returns
returns g c = rw (← c.reverse.ensures.after) c.write_bytes.ensures
