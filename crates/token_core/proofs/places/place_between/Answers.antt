use Rattle.token_core.proofs.Placing.{OnlyPlaced-then}
use Rattle.token_core.proofs.places.place_between.Goals as goal

pub returns : goal.returns
returns c = OnlyPlaced-then c.place_bytes-at.ensures
    (OnlyPlaced-then c.place_bytes-at-2.ensures c.place_bytes.ensures)
