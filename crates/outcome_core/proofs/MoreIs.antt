-- More is wanted exactly where a begun tree is held.
use Rattle.std.proofs.Common.{ℕ, suc, ◌≤◌, List, length, refl, sym, subst}
use Rattle.scale_core.specs.Read.{place}
use Rattle.grammar_core.specs.Begun.{Begun}
use Rattle.outcome_core.specs.HeldTree.{Holds, held}
use Rattle.outcome_core.specs.HeldLaws.{MoreHolds}
use Rattle.outcome_core.specs.Outcome.{more, Query, IsOutcome}
use Rattle.outcome_core.proofs.Missing.{missing_is_begun}
use Rattle.outcome_core.proofs.Begins.{begun_is_missing}

-- where more is wanted, the begun tree that is computed is held, within the byte limit
forth : (j : Query) (input : List ℕ) → IsOutcome j input more (length input) →
    (length input ≤ j.bytes)
    × Holds j.registry (suc j.depth) j.ty input (held j.registry (suc j.depth) j.ty input).0
    (held j.registry (suc j.depth) j.ty input).1
forth j input h =
    let b = missing_is_begun j.registry (suc j.depth) j.ty input h.0.1.0 h.0.1.1 in
    let is = (begun_is_missing j.registry (suc j.depth) j.ty input b.0 b.1 b.3).1 in (
      h.1,
      subst (λ (p : Begun × List ℕ). Holds j.registry (suc j.depth) j.ty input p.0 p.1) (sym is)
          b.3,
    )

-- where a begun tree is held within the byte limit, more is wanted
back : (j : Query) (input : List ℕ) (g : Begun) (e : List ℕ) → length input ≤ j.bytes →
    Holds j.registry (suc j.depth) j.ty input g e → IsOutcome j input more (length input)
back j input g e le h =
    let f = (begun_is_missing j.registry (suc j.depth) j.ty input g e h).0 in
    ((place input f.0, (f.0, f.1, refl)), le, refl)

-- more is wanted exactly where a begun tree is held within the byte limit
pub more_holds : MoreHolds
more_holds j input = (forth j input, back j input)
