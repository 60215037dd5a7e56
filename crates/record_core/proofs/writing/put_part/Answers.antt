use Rattle.std.proofs.Common.{◌≡◌, ◌+◌, ◌-◌, ap, arith, length, rules}
use Rattle.std.proofs.lemmas.Slice.{drop-put_mid}
use Rattle.record_core.proofs.writing.put_part.Goals as goal

pub returns-then-not-is_empty-clause-rest : goal.returns-then-not-is_empty-clause-rest
returns-then-not-is_empty-clause-rest c =
    let copied : c.copy_from_slice.new.self ≡ c.args.part.now = search rules in
    drop-put_mid c.args.at (c.args.at + length c.args.part.now - c.args.at) c.args.pool.now
    c.copy_from_slice.new.self (c.args.at + length c.args.part.now) (omega arith)
    (omega (arith, c.requires)) (omega (arith, ap length copied))
