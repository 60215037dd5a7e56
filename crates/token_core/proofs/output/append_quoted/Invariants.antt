use Rattle.std.proofs.Common.{◌≡◌, ◌≤◌, ◌++◌, [], ◌∷◌, cond, length, take}
use Rattle.json.specs.Print.{escape, quoted}
use Rattle.token_core.proofs.output.append_quoted.Given as goal

-- what was written, the escape of the rest and the second quote make up what is to be written
abbrev pub invariant-blocks-2 : goal.invariant-blocks-2
invariant-blocks-2 g l = (l.end ≤ length l.bytes.items) × (l.fn.len ≤ l.end)
    × (length l.fn.bytes.items ≤ length l.bytes.items)
    × (take l.fn.len l.bytes.items ≡ take l.fn.len l.fn.bytes.items)
    × (take l.end l.bytes.items ++ (escape l.rest ++ 34 ∷ [])
    ≡ take l.fn.len l.fn.bytes.items ++ (cond l.comma (44 ∷ []) [] ++ quoted l.text))

abbrev pub decreases-blocks-2 : goal.decreases-blocks-2
decreases-blocks-2 g l = length l.rest
