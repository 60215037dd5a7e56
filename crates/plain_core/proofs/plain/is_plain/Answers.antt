use Rattle.std.proofs.Common.{arith}
use Rattle.plain_core.proofs.AsIs.{tells_as_is, tells_both_ends, tells_front}
use Rattle.plain_core.proofs.plain.is_plain.Goals as goal

pub returns-then-bytes-ge16 : goal.returns-then-bytes-ge16
returns-then-bytes-ge16 c = tells_as_is c.is_plain_long.result c.args.text.now
    (rw c.as_bytes-bytes.ensures.value at c.is_plain_long.ensures)

pub returns-then-is_plain_8 : goal.returns-then-is_plain_8
returns-then-is_plain_8 c = tells_as_is c.is_plain_8-then-is_plain_8.result c.args.text.now
    (rw c.as_bytes-bytes.ensures.value at (tells_both_ends c.as_bytes-bytes.result.now
    c.is_plain_8-then-is_plain_8.result 8 (omega arith) (omega arith) c.if-is_plain_8.ensures
    c.is_plain_8-then-is_plain_8.ensures))

pub returns-then-is_plain_4 : goal.returns-then-is_plain_4
returns-then-is_plain_4 c = tells_as_is c.is_plain_4-then-is_plain_4.result c.args.text.now
    (rw c.as_bytes-bytes.ensures.value at (tells_both_ends c.as_bytes-bytes.result.now
    c.is_plain_4-then-is_plain_4.result 4 (omega arith) (omega arith) c.if-is_plain_4.ensures
    c.is_plain_4-then-is_plain_4.ensures))

pub returns-else-bytes-ge4 : goal.returns-else-bytes-ge4
returns-else-bytes-ge4 c = tells_as_is c.is_plain_bytewise.result c.args.text.now
    (rw c.as_bytes-bytes.ensures.value at c.is_plain_bytewise.ensures)

pub returns-else-is_plain_8 : goal.returns-else-is_plain_8
returns-else-is_plain_8 c = tells_as_is c.is_plain_8.result c.args.text.now
    (rw c.as_bytes-bytes.ensures.value at (tells_front c.as_bytes-bytes.result.now
    c.is_plain_8.result 8 c.if-is_plain_8.false (omega arith) c.is_plain_8.ensures))

pub returns-else-is_plain_4 : goal.returns-else-is_plain_4
returns-else-is_plain_4 c = tells_as_is c.is_plain_4.result c.args.text.now
    (rw c.as_bytes-bytes.ensures.value at (tells_front c.as_bytes-bytes.result.now
    c.is_plain_4.result 4 c.if-is_plain_4.false (omega arith) c.is_plain_4.ensures))
