use Rattle.scale_core.specs.Read.{number_at}
use Rattle.form_core.proofs.ReadFronts.{read_is}
use Rattle.form_core.proofs.plain.read_unsigned.Goals as goal

pub returns-in_ok-read_u8-in-Bits8 : goal.returns-in_ok-read_u8-in-Bits8
returns-in_ok-read_u8-in-Bits8 c =
    rw (c.in-Bits8.is, c.from.ensures)
    (read_is c.args.own.now c.in_ok-read_u8-in-Bits8.field-0.1 c.in_ok-read_u8-in-Bits8.field-0.0
    (number_at 1 c.args.own.now) c.in_ok-read_u8-in-Bits8.ensures)

pub returns-in_ok-read_u16-in-Bits16 :
    goal.returns-in_ok-read_u16-in-Bits16
returns-in_ok-read_u16-in-Bits16 c =
    rw (c.in-Bits16.is, c.from-in-Bits16.ensures)
    (read_is c.args.own.now c.in_ok-read_u16-in-Bits16.field-0.1
    c.in_ok-read_u16-in-Bits16.field-0.0
    (number_at 2 c.args.own.now) c.in_ok-read_u16-in-Bits16.ensures)

pub returns-in_ok-read_u32-in-Bits32 :
    goal.returns-in_ok-read_u32-in-Bits32
returns-in_ok-read_u32-in-Bits32 c =
    rw (c.in-Bits32.is, c.from-in-Bits32.ensures)
    (read_is c.args.own.now c.in_ok-read_u32-in-Bits32.field-0.1
    c.in_ok-read_u32-in-Bits32.field-0.0
    (number_at 4 c.args.own.now) c.in_ok-read_u32-in-Bits32.ensures)

pub returns-in_ok-read_u64-in-Bits64 :
    goal.returns-in_ok-read_u64-in-Bits64
returns-in_ok-read_u64-in-Bits64 c =
    rw (c.in-Bits64.is, c.from-in-Bits64.ensures)
    (read_is c.args.own.now c.in_ok-read_u64-in-Bits64.field-0.1
    c.in_ok-read_u64-in-Bits64.field-0.0
    (number_at 8 c.args.own.now) c.in_ok-read_u64-in-Bits64.ensures)

pub returns-in_ok-read_u128-in-Bits128 :
    goal.returns-in_ok-read_u128-in-Bits128
returns-in_ok-read_u128-in-Bits128 c =
    rw c.in-Bits128.is (read_is c.args.own.now c.in_ok-read_u128-in-Bits128.field-0.1
    c.in_ok-read_u128-in-Bits128.field-0.0 (number_at 16 c.args.own.now)
    c.in_ok-read_u128-in-Bits128.ensures)
