use Rattle.std.proofs.Common.{◌+◌, ◌≡◌, ◌≤◌, length}
use Rattle.std.specs.Fmt.{decimal}
use Rattle.token_core.proofs.places.digit_count.Given as goal

-- what is counted and what is left together are all digits
abbrev pub invariant-fours : goal.invariant-fours
invariant-fours l = (l.left ≤ l.fn.n)
    × (l.count + length (decimal l.left) ≡ length (decimal l.fn.n))

abbrev pub decreases-fours : goal.decreases-fours
decreases-fours l = l.left
