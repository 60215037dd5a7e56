use Rattle.std.proofs.Common.{refl, ◌≡◌, arith, drop, length, length-take, subst, sym, take}
use Rattle.std.proofs.lemmas.List.{take-append-drop}
use Rattle.scale_core.specs.Number.{AreBytes}
use Rattle.scale_core.proofs.Numbers.{front_bytes}
use Rattle.scale_core.proofs.ReadModes.{are_bytes}
use Rattle.widths_core.specs.declared.run_kind.RunKind.TheVariants as kind
use Rattle.grammar_core.specs.declared.form.Form.TheVariants as form
use Rattle.value_core.proofs.NextLeaf.{run_next}
use Rattle.machine_core.specs.Turned.{WholeReports}
use Rattle.machine_core.proofs.steps.ByteArrays.{byte_array_read}
use Rattle.machine_core.proofs.steps.TurnReports.{carry_none}
use Rattle.machine_core.proofs.partial.Partial.whole_byte_array.Goals as goal

pub whole_leaf-requires-clause-whole : goal.whole_leaf-requires-clause-whole
whole_leaf-requires-clause-whole g c =
    let len = c.args.len in
    let own = take len c.args.piece.now in
    let all : length own ≡ len =
    omega (arith, length-take len c.args.piece.now, c.if-piece-count.false) in
    record {
      form = form.ByteArray len;
      wants = c.requires.next;
      closed = c.requires.closed;
      read = byte_array_read c.args.self.now.built len own c.requires.next all;
    }

pub whole_leaf-requires-clause-next : goal.whole_leaf-requires-clause-next
whole_leaf-requires-clause-next g c =
    let len = c.args.len in
    let piece = c.args.piece.now in
    let own = take len piece in
    let all : length own ≡ len =
    omega (arith, length-take len piece, c.if-piece-count.false) in
    run_next c.args.self.now.built.walk (kind.ByteArray len) len own c.requires.next tt
    (front_bytes own (drop len piece) (subst AreBytes (sym (take-append-drop len piece))
    (are_bytes piece (λ i. omega (arith, c.type_inv.piece i))))) all
    (omega (arith, c.ranges.len.fits)) refl

pub whole_leaf-requires-clause-empty : goal.whole_leaf-requires-clause-empty
whole_leaf-requires-clause-empty g c =
    carry_none c.args.self.now.built c.args.self.now.carry (form.ByteArray c.args.len)
    c.requires.carried c.requires.next (λ no. no)

pub returns-clause-reports : goal.returns-clause-reports
returns-clause-reports g c =
    subst (λ l. WholeReports c.args.self.now c.whole_leaf.new.self l c.whole_leaf.result)
    (take-append-drop c.args.len c.args.piece.now)
    (c.whole_leaf.ensures.reports (drop c.args.len c.args.piece.now))
