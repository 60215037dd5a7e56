use Rattle.std.proofs.Common.{◌≤◌, ◌<◌, ◌-◌, ◌∙◌, length, sym, arith, refl}
use Rattle.std.proofs.lemmas.Option.{slice_get-get_or}
use Rattle.node_core.proofs.Members.{first_left}
use Rattle.node_core.proofs.remaining.Remaining.first.Goals as goal

pub returns : goal.returns
returns c =
    let left = c.args.self.now in
    let at = left.end - 1 - left.count in
    let some : 1 ≤ left.count = omega (arith, c.if-self-eq0.false) in
    let members : 1 ≤ left.end = omega (arith, c.if-self-eq0-2.false) in
    let inside : at < length c.args.references.now =
    omega (arith, some, members, c.requires.counted members, c.requires.there) in
    sym (slice_get-get_or c.args.references.now at 0 inside)
    ∙ first_left c.args.references.now left.count left.element left.end at some members refl
