use Rattle.std.proofs.Common.{◌≡◌, ◌+◌, length}
use Rattle.value_core.specs.Building.{Settles}
use Rattle.value_core.proofs.appending.close_whole.Given as goal

abbrev pub invariant-closing : goal.invariant-closing
invariant-closing g l = Settles l.fn.walk l.fn.nodes.list.items l.walk l.nodes.list.items
    × (l.turns.so_far + length l.walk.frames ≡ l.fn.turns.so_far + length l.fn.walk.frames)

abbrev pub decreases-closing : goal.decreases-closing
decreases-closing g l = length l.walk.frames
