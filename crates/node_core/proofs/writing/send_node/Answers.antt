use Rattle.std.proofs.Common.{◌≤◌, length, take, arith}
use Rattle.std.proofs.lemmas.Result.{err_from_is_err_and}
use Rattle.node_core.specs.Encoding.{pool_bytes}
use Rattle.node_core.proofs.SpelledParts.{sent_front, sent_part, sent_more, sent_all, long_whole}
use Rattle.node_core.proofs.SpelledParts.{split_of}
use Rattle.node_core.proofs.writing.send_node.Goals as goal

pub returns-in-Err-clause-err : goal.returns-in-Err-clause-err
returns-in-Err-clause-err g c =
    let split = split_of c.put_node-len.new.out c.put_node-len.result c.put_node-len.array_long
    c.put_node-len.ensures.bound c.pooled-back.ensures c.put_node-len.ensures.bytes in
    sent_more _ _ _ _ c.pooled-back.result.now _ _ c.in-Err.fault.written split.long split.is
    c.in_ok-send.ensures.ok c.in-Err.ensures.err

pub returns-in-Err-clause-part : goal.returns-in-Err-clause-part
returns-in-Err-clause-part g c =
    let split = split_of c.put_node-len.new.out c.put_node-len.result c.put_node-len.array_long
    c.put_node-len.ensures.bound c.pooled-back.ensures c.put_node-len.ensures.bytes in
    let part : c.in-Err.fault.written ≤ length c.pooled-back.result.now = c.in-Err.ensures.part in
    omega (arith, split.long, part, long_whole _ c.pooled-back.result.now _ split.is)

pub returns-in-Ok-clause-count : goal.returns-in-Ok-clause-count
returns-in-Ok-clause-count g c =
    let split = split_of c.put_node-len.new.out c.put_node-len.result c.put_node-len.array_long
    c.put_node-len.ensures.bound c.pooled-back.ensures c.put_node-len.ensures.bytes in
    omega (arith, split.long, long_whole _ c.pooled-back.result.now _ split.is)

pub returns-in-Ok-clause-ok : goal.returns-in-Ok-clause-ok
returns-in-Ok-clause-ok g c =
    let split = split_of c.put_node-len.new.out c.put_node-len.result c.put_node-len.array_long
    c.put_node-len.ensures.bound c.pooled-back.ensures c.put_node-len.ensures.bytes in
    sent_all _ _ _ _ c.pooled-back.result.now _ split.is c.in_ok-send.ensures.ok
    c.in-Ok.ensures.ok

pub returns-in_err-send-clause-part : goal.returns-in_err-send-clause-part
returns-in_err-send-clause-part g c =
    let front = take c.put_node-len.result c.put_node-len.new.out in
    let back = pool_bytes c.args.pool.now c.args.node.now.content in
    let whole = c.put_node-len.ensures.bytes in
    let p = err_from_is_err_and c.from_residual.result c.from_residual.ensures.1 in
    rw (p.1, p.2) (sent_part front back _ _ whole c.in_err-send.ensures.part)

pub returns-in_err-send-clause-err : goal.returns-in_err-send-clause-err
returns-in_err-send-clause-err g c =
    let front = take c.put_node-len.result c.put_node-len.new.out in
    let back = pool_bytes c.args.pool.now c.args.node.now.content in
    let whole = c.put_node-len.ensures.bytes in
    let p = err_from_is_err_and c.from_residual.result c.from_residual.ensures.1 in
    rw (p.1, p.2) (sent_front _ _ front back _ _ whole c.in_err-send.ensures.part
    c.in_err-send.ensures.err)

pub returns-in_err-send-clause-met : goal.returns-in_err-send-clause-met
returns-in_err-send-clause-met g c =
    let p = err_from_is_err_and c.from_residual.result c.from_residual.ensures.1 in
    rw (p.1, p.2) c.in_err-send.ensures.met
