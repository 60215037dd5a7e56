use Rattle.std.proofs.Common.{◌≡◌, true, false, sym, ◌∙◌, arith}
use Rattle.std.specs.Bool.{Decides}
use Rattle.chain_core.specs.Things.{name_text}
use Rattle.chain_core.proofs.NameTexts.{found_here, found_later}
use Rattle.chain_core.proofs.names.find_in.Goals as goal

pub returns-then-has_name : goal.returns-then-has_name
returns-then-has_name c =
    let t = c.named-item.result in
    let is : Decides true (c.args.name.now ≡ name_text t.section t.path) =
    rw c.if-has_name.true at c.has_name.ensures in
    sym (found_here c.args.types.now c.types.named-index c.args.name.now t
    (omega arith) c.named-item.is is) ∙ c.types.invariant

pub types-preserved : goal.types-preserved
types-preserved c =
    let t = c.named-item.result in
    let is : Decides false (c.args.name.now ≡ name_text t.section t.path) =
    rw c.if-has_name.false at c.has_name.ensures in
    found_later c.args.types.now c.types.named-index c.args.name.now t
    (omega arith) c.named-item.is is ∙ c.types.invariant
