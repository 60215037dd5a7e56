use Rattle.json_core.proofs.InFront.{in_front}
use Rattle.json_core.proofs.placed.quote_in_front.Goals as goal

pub returns-then-len-out-clause-placed : goal.returns-then-len-out-clause-placed
returns-then-len-out-clause-placed c = in_front _ c.args.out.now c.place_quoted.new.buffer
    c.place_quoted.result c.place_quoted.ensures
