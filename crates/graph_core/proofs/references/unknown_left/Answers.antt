use Rattle.std.proofs.Common.{◌≡◌, true, false, rules}
use Rattle.std.specs.Prelude.{is_some}
use Rattle.graph_core.proofs.ReadingOn.{none_is, some_is, part_answers, part_passed, left_more}
use Rattle.graph_core.proofs.ReadingOn.{left_found}
use Rattle.graph_core.proofs.references.unknown_left.Goals as goal

pub returns-then-is_some : goal.returns-then-is_some
returns-then-is_some c =
    let o = c.unknown_part-unknown.result in
    let some : is_some o ≡ true = search rules in
    part_answers c.args.graph.now c.unknown_part-unknown.new.graph o
    c.unknown_part-unknown.ensures (some_is o some)

pub arms-init : goal.arms-init
arms-init c =
    let o = c.unknown_part-unknown.result in
    let none : is_some o ≡ false = search rules in
    part_passed c.args.graph.now c.unknown_part-unknown.new.graph o
    c.unknown_part-unknown.ensures (none_is o none)

pub returns-then-is_some-2 : goal.returns-then-is_some-2
returns-then-is_some-2 c =
    let o = c.unknown_part-unknown-in-Some.result in
    let some : is_some o ≡ true = search rules in
    left_found c.args.graph.now c.arms.graph c.next_arm.new.self
    c.unknown_part-unknown-in-Some.new.graph _ _ o c.arms.invariant c.in-Some.ensures
    c.unknown_part-unknown-in-Some.ensures (some_is o some)

pub arms-preserved : goal.arms-preserved
arms-preserved c =
    let o = c.unknown_part-unknown-in-Some.result in
    let none : is_some o ≡ false = search rules in
    left_more c.args.graph.now c.arms.graph c.next_arm.new.self
    c.unknown_part-unknown-in-Some.new.graph _ _ o c.arms.invariant c.in-Some.ensures
    c.unknown_part-unknown-in-Some.ensures (none_is o none)
