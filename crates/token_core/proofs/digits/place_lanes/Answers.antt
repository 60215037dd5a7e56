use Rattle.std.proofs.Common.{◌≡◌, ◌+◌, ◌++◌, length, take, drop, sym, ap, ◌∙◌, arith, append_assoc}
use Rattle.std.proofs.Common.{length-append, length-take-le}
use Rattle.std.proofs.lemmas.List.{drop-drop}
use Rattle.std.proofs.lemmas.Simd.{take_more_put_chunk, length-put_chunk, put_chunk_is}
use Rattle.std.proofs.lemmas.Slice.{drop-append-drop}
use Rattle.token_core.proofs.digits.place_lanes.Goals as goal

pub returns : goal.returns
returns c =
    let at = c.args.at in
    let old = c.args.buffer.now in
    let lanes = c.args.lanes in
    let end = at + 16 in
    let long : length lanes ≡ 16 = c.fits-lanes.0 in
    let before = length-take-le at old (omega (arith, c.requires)) in
    record {
      placed = record {
        bytes = take_more_put_chunk at old lanes _ (omega (arith, long))
            (omega (arith, c.requires));
        moved = omega (arith, long);
        len = length-put_chunk at old lanes;
      };
      rest = ap (drop end) (put_chunk_is at old lanes (omega (arith, c.requires, long)))
          ∙ ap (λ l. drop end (take at old ++ (lanes ++ l)))
          (ap (λ n. drop n (drop at old)) long ∙ drop-drop 16 at old)
          ∙ ap (drop end) (sym (append_assoc (take at old) lanes (drop end old)))
          ∙ drop-append-drop end old (take at old ++ lanes) end (omega arith)
          (omega (arith, length-append (take at old) lanes, before, long));
    }
