use Rattle.std.proofs.Common.{◌≡◌, ℕ, suc, ◌+◌, Some, arith, subst, sym}
use Rattle.std.specs.Prelude.{None, slice_get}
use Rattle.std.proofs.lemmas.Option.{slice_get_past}
use Rattle.grammar_core.specs.Parts.{how_many_left}
use Rattle.widths_core.specs.Steps.{references_of}
use Rattle.node_core.specs.Remaining.{left_of}
use Rattle.value_core.specs.Frames.{open_part_of}
use Rattle.value_core.specs.OpenNodes.{open_parts}
use Rattle.value_core.specs.Walked.{Walked}
use Rattle.value_core.proofs.OpenNodes.{left_counted, left_within, open_counted, open_inner}
use Rattle.value_core.proofs.OpenNodes.{open_outer}
use Rattle.value_core.proofs.walk.Walk.open_at.Goals as goal

pub returns-then-depth-count-clause-part : goal.returns-then-depth-count-clause-part
returns-then-depth-count-clause-part g c =
    let i = c.self.inside in
    subst (λ (w : Walked). None ≡ slice_get (open_parts w.frames) c.args.depth) c.self.view_is
    (sym (slice_get_past _ c.args.depth
    (omega (
      arith,
      open_counted i.checked.now.types i.top i.around.list.items,
      c.if-depth-count.true,
      c.len-count.ensures,
    ))))

pub returns-then-depth-count-2-clause-part : goal.returns-then-depth-count-2-clause-part
returns-then-depth-count-2-clause-part g c =
    let i = c.self.inside in
    subst (λ (w : Walked). Some (open_part_of w.types i.top, 0)
    ≡ slice_get (open_parts w.frames) c.args.depth) c.self.view_is
    (sym (open_inner i.checked.now.types i.top i.around.list.items c.args.depth
    (omega (arith, c.if-depth-count-2.true, c.len-count.ensures))))

pub returns-then-depth-count-2-clause-counts : goal.returns-then-depth-count-2-clause-counts
returns-then-depth-count-2-clause-counts g c =
    let i = c.self.inside in
    subst (λ (w : Walked). how_many_left (left_of w.types i.top.left) ≡ i.top.left.count)
    c.self.view_is
    (left_counted (references_of i.checked.now.types) i.top.left c.self.invariant.3)

pub returns-clause-part : goal.returns-clause-part
returns-clause-part g c =
    let i = c.self.inside in
    let next : c.args.depth + 1 ≡ suc c.args.depth = omega arith in
    let found : slice_get i.around.list.items (suc c.args.depth) ≡ Some c.get.result =
    subst (λ (k : ℕ). slice_get i.around.list.items k ≡ Some c.get.result) next c.get.ensures in
    subst (λ (w : Walked). Some (open_part_of w.types c.get.result, 1)
    ≡ slice_get (open_parts w.frames) c.args.depth) c.self.view_is
    (sym (open_outer i.checked.now.types i.top i.around.list.items c.args.depth c.get.result
    found))

pub returns-clause-counts : goal.returns-clause-counts
returns-clause-counts g c =
    let i = c.self.inside in
    let refs = references_of i.checked.now.types in
    subst (λ (w : Walked). how_many_left (left_of w.types c.get.result.left)
    ≡ c.get.result.left.count) c.self.view_is
    (left_counted refs c.get.result.left
    (left_within refs i.around.list.items (c.args.depth + 1) c.get.result c.self.invariant.4
    c.get.ensures))
