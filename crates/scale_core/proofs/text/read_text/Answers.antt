use Rattle.std.proofs.Common.{◌∙◌, sym, ap, ◌+◌, ℕ, [], drop, arith}
use Rattle.std.specs.Str.Lossy.{utf8_valid_len}
use Rattle.std.proofs.lemmas.Result.{err_from_is_err_and}
use Rattle.scale_core.proofs.ReadTexts.{IsTextThere, text_at-fault, text_at-cut, text_at-valid}
use Rattle.scale_core.proofs.ReadTexts.{text_at-bad, whole-bound, place-bad}
use Rattle.scale_core.proofs.text.read_text.Goals as goal

pub returns-in_err-count-clause-reads : goal.returns-in_err-count-clause-reads
returns-in_err-count-clause-reads c =
    let p = err_from_is_err_and c.from_residual.result c.from_residual.ensures.1 in
    let h = c.in_err-count.ensures.reads in
    rw (p.1, p.2) (h.0, text_at-fault c.args.bytes.now _ h.1, h.2)

pub returns-in_default-clause-reads : goal.returns-in_default-clause-reads
returns-in_default-clause-reads c = (
  [],
  text_at-cut c.args.bytes.now c.in_ok-count.start c.in_ok-count.count
      c.in_ok-count.ensures.reads.1 c.in_default.ensures.lookup.0,
  omega arith,
)

pub returns-in-Ok-clause-reads : goal.returns-in-Ok-clause-reads
returns-in-Ok-clause-reads c =
    let reads = c.in_ok-count.ensures.reads in
    let part = c.in-Some.ensures.lookup.0 in
    let w : IsTextThere c.args.bytes.now c.in-Some.spelled.now c.in_ok-count.start
    c.in_ok-count.count =
    record { length_is = reads.1; there = part.1; is = part.2; len = part.3 } in (
      whole-bound c.args.bytes.now c.in-Some.spelled.now c.in_ok-count.start c.in_ok-count.count
          reads.0 w,
      text_at-valid c.args.bytes.now c.in-Some.spelled.now c.in-Ok.text.now c.in_ok-count.start
          c.in_ok-count.count w c.in-Ok.ensures.cases.0 c.in-Ok.ensures.cases.1,
    )

pub returns-in-Err-clause-reads : goal.returns-in-Err-clause-reads
returns-in-Err-clause-reads c =
    let reads = c.in_ok-count.ensures.reads in
    let part = c.in-Some.ensures.lookup.0 in
    let w : IsTextThere c.args.bytes.now c.in-Some.spelled.now c.in_ok-count.start
    c.in_ok-count.count =
    record { length_is = reads.1; there = part.1; is = part.2; len = part.3 } in (
      drop (utf8_valid_len c.in-Some.spelled.now) (drop c.in_ok-count.start c.args.bytes.now),
      text_at-bad c.args.bytes.now c.in-Some.spelled.now c.in_ok-count.start c.in_ok-count.count w
          c.in-Err.ensures.cases.0,
      ap (λ (k : ℕ). c.in_ok-count.start + k)
          (c.valid_up_to-valid_len.ensures ∙ c.in-Err.ensures.valid_len)
          ∙ sym (place-bad c.args.bytes.now c.in-Some.spelled.now c.in_ok-count.start
          c.in_ok-count.count reads.0 w),
    )
