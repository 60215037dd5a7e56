use Rattle.std.proofs.Common.{ℕ, ◌∙◌, IfSome, Ok, Option, ap, arith, subst}
use Rattle.growth_core.specs.Evidence.{evidence}
use Rattle.grammar_core.specs.declared.form.Form.TheVariants as form
use Rattle.value_core.specs.Built.{Built}
use Rattle.value_core.specs.Wrapped.{Wraps}
use Rattle.machine_core.specs.Running.{Running}
use Rattle.machine_core.specs.Turned.{WantsMemory, WholeReports, WholeTurnsReport}
use Rattle.machine_core.specs.declared.turned.Tried.TheVariants as tried
use Rattle.machine_core.proofs.steps.Calls.{one_turn}
use Rattle.machine_core.proofs.steps.Moving.{wants_goes_on}
use Rattle.machine_core.proofs.steps.TurnReports.{at_node, bare_wants, of_fields}
use Rattle.machine_core.proofs.steps.Wrapping.{fields_added, wrapped_reports, wrapped_running}
use Rattle.machine_core.proofs.partial.Partial.fields_turns.Goals as goal

pub invariant_of-self : goal.invariant_of-self
invariant_of-self g c =
    let at = at_node form.Fields c.self.view_is c.requires.next.next c.requires.next.closed in
    wrapped_running c.self.inside.builder c.add_wrapped.new.self c.self.inside.carry
    c.args.piece.now c.in-Ok-Some.count c.self.invariant at.wants at.closed
    (subst (λ (o : Option ℕ). IfSome o
    (λ len. Wraps c.self.inside.builder c.add_wrapped.new.self c.args.piece.now len))
    c.in-Ok-Some.field-0-is c.in-Ok-Some.ensures.added)

pub returns-in-Ok-Some : goal.returns-in-Ok-Some
returns-in-Ok-Some g c =
    let at = at_node form.Fields c.self.view_is c.requires.next.next c.requires.next.closed in
    let start = c.args.turns.now.so_far in
    let end = c.tick-in-Ok-Some.new.self.so_far in
    subst (λ (s : Running). WholeTurnsReport s
    (of_fields c.add_wrapped.new.self c.self.inside.carry) c.args.piece.now start end 0
    (tried.Added c.in-Ok-Some.count)) c.self.view_is
    (wrapped_reports c.self.inside.builder c.add_wrapped.new.self c.self.inside.carry
    c.args.piece.now c.in-Ok-Some.count start end c.self.invariant at.wants
    at.closed
    (subst (λ (o : Option ℕ). IfSome o
    (λ len. Wraps c.self.inside.builder c.add_wrapped.new.self c.args.piece.now len))
    c.in-Ok-Some.field-0-is c.in-Ok-Some.ensures.added)
    (omega (arith, c.tick.ensures, c.tick-in-Ok-Some.ensures)))

pub returns-in-Ok-None : goal.returns-in-Ok-None
returns-in-Ok-None g c =
    one_turn c.args.self.now c.whole_bare.new.self c.args.piece.now c.args.turns.now.so_far
    c.tick.new.self.so_far c.whole_bare.result c.tick.ensures c.requires.next.sound
    (subst (λ (s : Running).
    WholeReports s c.whole_bare.new.self c.args.piece.now c.whole_bare.result)
    (ap (λ (b : Built). of_fields b c.self.inside.carry)
    (c.in-Ok-None.ensures.none (ap Ok c.in-Ok-None.field-0-is))
    ∙ c.self.view_is) (c.whole_bare.ensures.reports c.args.piece.now))
    (λ done. wants_goes_on c.args.self.now form.Fields c.requires.next.next done)

pub returns-in-Err : goal.returns-in-Err
returns-in-Err g c =
    let b = c.self.inside.builder in
    let k = c.self.inside.carry in
    let piece = c.args.piece.now in
    let at = at_node form.Fields c.self.view_is c.requires.next.next c.requires.next.closed in
    let spelled = fields_added b at.wants in
    one_turn c.args.self.now (of_fields c.add_wrapped.new.self k) piece c.args.turns.now.so_far
    c.tick.new.self.so_far (tried.OutOfMemory evidence) c.tick.ensures c.requires.next.sound (
      subst (λ (s : Running). WantsMemory s piece) c.self.view_is
          (bare_wants b k form.Fields c.self.invariant at.wants (λ no. no)
          at.closed (spelled.0, spelled.1) piece),
      ap (λ (x : Built). of_fields x k) c.in-Err.ensures.err ∙ c.self.view_is,
    )
    (λ done. wants_goes_on c.args.self.now form.Fields c.requires.next.next done)
