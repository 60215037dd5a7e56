use Rattle.std.proofs.Common.{rules, w8, w32, w64}
use Rattle.scale_core.specs.Read.{signed_at}
use Rattle.std.specs.Int.{w16}
use Rattle.form_core.proofs.ReadFronts.{same_is, widened_is}
use Rattle.form_core.proofs.plain.read_signed.Goals as goal

pub returns-in_ok-read_i8-in-Bits8 : goal.returns-in_ok-read_i8-in-Bits8
returns-in_ok-read_i8-in-Bits8 c =
    rw c.in-Bits8.is (widened_is w8 c.args.own.now c.in_ok-read_i8-in-Bits8.field-0.1
    c.in_ok-read_i8-in-Bits8.field-0.0 c.from.result (signed_at 1 c.args.own.now) (search rules)
    (search rules) c.from.ensures c.in_ok-read_i8-in-Bits8.ensures)

pub returns-in_ok-read_i16-in-Bits16 :
    goal.returns-in_ok-read_i16-in-Bits16
returns-in_ok-read_i16-in-Bits16 c =
    rw c.in-Bits16.is (widened_is w16 c.args.own.now c.in_ok-read_i16-in-Bits16.field-0.1
    c.in_ok-read_i16-in-Bits16.field-0.0 c.from-in-Bits16.result (signed_at 2 c.args.own.now)
    (search rules) (search rules) c.from-in-Bits16.ensures c.in_ok-read_i16-in-Bits16.ensures)

pub returns-in_ok-read_i32-in-Bits32 :
    goal.returns-in_ok-read_i32-in-Bits32
returns-in_ok-read_i32-in-Bits32 c =
    rw c.in-Bits32.is (widened_is w32 c.args.own.now c.in_ok-read_i32-in-Bits32.field-0.1
    c.in_ok-read_i32-in-Bits32.field-0.0 c.from-in-Bits32.result (signed_at 4 c.args.own.now)
    (search rules) (search rules) c.from-in-Bits32.ensures c.in_ok-read_i32-in-Bits32.ensures)

pub returns-in_ok-read_i64-in-Bits64 :
    goal.returns-in_ok-read_i64-in-Bits64
returns-in_ok-read_i64-in-Bits64 c =
    rw c.in-Bits64.is (widened_is w64 c.args.own.now c.in_ok-read_i64-in-Bits64.field-0.1
    c.in_ok-read_i64-in-Bits64.field-0.0 c.from-in-Bits64.result (signed_at 8 c.args.own.now)
    (search rules) (search rules) c.from-in-Bits64.ensures c.in_ok-read_i64-in-Bits64.ensures)

pub returns-in_ok-read_i128-in-Bits128 :
    goal.returns-in_ok-read_i128-in-Bits128
returns-in_ok-read_i128-in-Bits128 c =
    rw c.in-Bits128.is (same_is c.args.own.now c.in_ok-read_i128-in-Bits128.field-0.1
    c.in_ok-read_i128-in-Bits128.field-0.0 (signed_at 16 c.args.own.now) (search rules)
    c.in_ok-read_i128-in-Bits128.ensures)
