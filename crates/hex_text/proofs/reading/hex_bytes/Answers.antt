use Rattle.std.proofs.Common.{arith}
use Rattle.hex_text.proofs.HexPlaces.{after_prefix, hex_is, place_within, reported_bad}
use Rattle.hex_text.proofs.HexPlaces.{reported_length}
use Rattle.hex_text.proofs.HexPlaces.{reported_odd}
use Rattle.hex_text.proofs.reading.hex_bytes.Goals as goal

pub overflow_add-result : goal.overflow_add-result
overflow_add-result c =
    let text = c.args.text.now in
    let start = c.prefix_len-start.result in
    omega (
      arith,
      c.type_inv.text,
      place_within text _ start _ _ _ c.prefix_len-start.ensures.bound (after_prefix text start)
          (reported_bad _ c.in-Err-InvalidHexCharacter.field-0 _ _
          c.in-Err-InvalidHexCharacter.field-0-is
          c.in-Err-InvalidHexCharacter.ensures.err),
    )

pub returns-in-Ok-clause-ok : goal.returns-in-Ok-clause-ok
returns-in-Ok-clause-ok c =
    let text = c.args.text.now in
    let start = c.prefix_len-start.result in
    hex_is text _ start _ _ c.prefix_len-start.ensures.value (after_prefix text start)
    c.digits_end-end.ensures.value c.in-Ok.ensures.ok

pub returns-in-Err-InvalidHexCharacter-clause-err :
    goal.returns-in-Err-InvalidHexCharacter-clause-err
returns-in-Err-InvalidHexCharacter-clause-err c =
    let text = c.args.text.now in
    let start = c.prefix_len-start.result in
    hex_is text _ start _ _ c.prefix_len-start.ensures.value (after_prefix text start)
    c.digits_end-end.ensures.value
    (reported_bad _ c.in-Err-InvalidHexCharacter.field-0 _ _ c.in-Err-InvalidHexCharacter.field-0-is
    c.in-Err-InvalidHexCharacter.ensures.err)

pub returns-in-Err-OddLength-clause-err : goal.returns-in-Err-OddLength-clause-err
returns-in-Err-OddLength-clause-err c =
    let text = c.args.text.now in
    let start = c.prefix_len-start.result in
    hex_is text _ start _ _ c.prefix_len-start.ensures.value (after_prefix text start)
    c.digits_end-end.ensures.value
    (reported_odd _ c.in-Err-OddLength.field-0 c.in-Err-OddLength.field-0-is
    c.in-Err-OddLength.ensures.err)

pub returns-in-Err-InvalidStringLength-clause-err :
    goal.returns-in-Err-InvalidStringLength-clause-err
returns-in-Err-InvalidStringLength-clause-err c =
    let text = c.args.text.now in
    let start = c.prefix_len-start.result in
    hex_is text _ start _ _ c.prefix_len-start.ensures.value (after_prefix text start)
    c.digits_end-end.ensures.value
    (reported_length _ c.in-Err-InvalidStringLength.field-0 c.in-Err-InvalidStringLength.field-0-is
    c.in-Err-InvalidStringLength.ensures.err)
