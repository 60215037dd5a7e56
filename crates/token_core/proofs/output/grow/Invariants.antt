use Rattle.std.proofs.Common.{◌≡◌, ◌+◌, ◌≤◌, length, take}
use Rattle.token_core.proofs.output.grow.Given as goal

-- the bytes that were there stay, and those that are still missing make up what was asked for
abbrev pub invariant-zeros : goal.invariant-zeros
invariant-zeros g l = (take (length l.fn.bytes.items) l.bytes.items ≡ l.fn.bytes.items)
    × (length l.fn.bytes.items ≤ length l.bytes.items)
    × (length l.fn.bytes.items + l.more ≤ length l.bytes.items + l.missing)

abbrev pub decreases-zeros : goal.decreases-zeros
decreases-zeros g l = l.missing
