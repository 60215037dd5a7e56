use Rattle.std.proofs.Common.{List, ℕ, ◌∙◌, sym, length, subst}
use Rattle.form_core.specs.NodeForms.{form_of_bytes}
use Rattle.machine_core.specs.Turned.{StepReports}
use Rattle.machine_core.specs.Running.{Running, IsRunning}
use Rattle.machine_core.proofs.steps.TurnReports.{of_fields, at_node, cut_inside, cut_own}
use Rattle.machine_core.proofs.steps.TurnReports.{cut_reports}
use Rattle.machine_core.proofs.steps.TurnReports.{node_running}
use Rattle.machine_core.proofs.steps.FormSplits.{have_bytes}
use Rattle.std.proofs.Common.{ap}
use Rattle.machine_core.proofs.partial.Partial.cut_turn.Goals as goal

pub take_node-taken-requires-clause-whole : goal.take_node-taken-requires-clause-whole
take_node-taken-requires-clause-whole g c =
    cut_own (cut_inside (form_of_bytes c.args.form) c.args.len c.self.view_is c.requires.len
    c.requires.short c.as_slice-held.ensures.bytes
    (c.as_slice-own.ensures.bytes ∙ c.fill-count.ensures.held) c.fill-count.ensures.count
    c.if-held-count.false)

pub invariant_of-self-2 : goal.invariant_of-self-2
invariant_of-self-2 g c =
    let f = form_of_bytes c.args.form in
    let at = at_node f c.self.view_is c.requires.next c.requires.closed in
    let cut = cut_inside f c.args.len c.self.view_is c.requires.len c.requires.short
    c.as_slice-held.ensures.bytes (c.as_slice-own.ensures.bytes ∙ c.fill-count.ensures.held)
    c.fill-count.ensures.count c.if-held-count.false in
    subst (λ (l : List ℕ). IsRunning c.take_node-taken.new.builder l)
    (sym c.clear.ensures)
    (node_running f c.self.inside.builder c.take_node-taken.new.builder c.self.inside.carry
    c.as_slice-own.result.now
    c.take_node-taken.result c.self.invariant at.wants at.closed (cut_own cut)
    c.take_node-taken.ensures)

pub returns-clause-reports : goal.returns-clause-reports
returns-clause-reports g c =
    let f = form_of_bytes c.args.form in
    let cut = cut_inside f c.args.len c.self.view_is c.requires.len c.requires.short
    c.as_slice-held.ensures.bytes (c.as_slice-own.ensures.bytes ∙ c.fill-count.ensures.held)
    c.fill-count.ensures.count c.if-held-count.false in
    subst (λ (s : Running). StepReports s (of_fields c.take_node-taken.new.builder c.clear.new.self)
    c.args.piece.now c.node_turn.result) c.self.view_is
    (cut_reports f c.self.inside.builder c.take_node-taken.new.builder c.clear.new.self
    c.take_node-taken.result c.node_turn.result
    (length c.as_slice-held.result.now)
    (at_node f c.self.view_is c.requires.next c.requires.closed) (have_bytes c.args.form) cut
    (ap length c.as_slice-held.ensures.bytes) c.clear.ensures c.take_node-taken.ensures
    c.node_turn.ensures)
