use Rattle.std.proofs.Common.{◌≡◌, ◌<◌, length, get_or, arith, ap, ◌∙◌, sym, refl, true≢false}
use Rattle.std.specs.List.{range_with_len}
use Rattle.std.proofs.lemmas.List.{ext_get_or}
use Rattle.std.proofs.lemmas.List.FromFn.{length-range_with_len, get_or-range_with_len}
use Rattle.types_core.proofs.keys.counts_up.Goals as goal

pub returns-then-position-place : goal.returns-then-position-place
returns-then-position-place c =
    let xs = c.args.order.now in
    let i = c.places.place in
    let within : i < length xs = omega arith in (
      λ h. absurd (true≢false (sym h)),
      λ e. absurd (c.if-position-place.true
          (ap (λ l. get_or l i 0) e ∙ get_or-range_with_len 0 (length xs) i 0 within
          ∙ omega arith)),
    )

pub returns : goal.returns
returns c =
    let xs = c.args.order.now in
    let same : xs ≡ range_with_len 0 (length xs) =
    ext_get_or 0 xs (range_with_len 0 (length xs)) (sym (length-range_with_len 0 (length xs)))
    (λ i h. c.places.invariant i (omega (arith, h))
    ∙ sym (get_or-range_with_len 0 (length xs) i 0 h ∙ omega arith)) in
    (λ h. same, λ e. refl)
