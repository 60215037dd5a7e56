use Rattle.std.proofs.Common.{◌∙◌, ap, sym, subst, arith, rules}
use Rattle.widths_core.specs.Steps.{references_of}
use Rattle.value_core.specs.Frames.{AreWithin}
use Rattle.node_core.specs.Remaining.{left_of}
use Rattle.value_core.specs.Walked.{Walked}
use Rattle.value_core.proofs.Members.{frames_popped, within_popped}
use Rattle.value_core.proofs.walk.Walk.close.Goals as goal

pub look_ahead-requires : goal.look_ahead-requires
look_ahead-requires g c =
    let refs = references_of c.self.inside.checked.now.types in
    (within_popped refs c.pop.new.self.list.items c.in_ok-frame.frame
    (subst (AreWithin refs) c.in_ok-frame.ensures.items c.self.invariant.4)).1

pub invariant_of-self-2 : goal.invariant_of-self-2
invariant_of-self-2 g c =
    let refs = references_of c.self.inside.checked.now.types in
    let popped = within_popped refs c.pop.new.self.list.items c.in_ok-frame.frame
    (subst (AreWithin refs) c.in_ok-frame.ensures.items c.self.invariant.4) in (
      c.self.invariant.0,
      omega (arith, c.in_ok-frame.ensures.len, c.self.invariant.1),
      c.look_ahead.ensures,
      popped.1,
      popped.0,
    )

pub returns-clause-some : goal.returns-clause-some
returns-clause-some g c =
    let r = c.self.inside.checked.now.types in record {
      part = left_of r c.self.inside.top.left;
      whole = search rules;
      frames = ap (λ (w : Walked). w.frames) (sym c.self.view_is)
          ∙ frames_popped r c.self.inside.top c.in_ok-frame.frame c.self.inside.around.list.items
          c.pop.new.self.list.items c.in_ok-frame.ensures.items;
      not_root = λ e. absurd cc;
      types = ap (λ (w : Walked). w.types) c.self.view_is;
      limit = ap (λ (w : Walked). w.limit) c.self.view_is;
    }
