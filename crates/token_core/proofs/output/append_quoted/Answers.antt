use Rattle.std.proofs.Common.{[], ◌∷◌, ◌++◌, take, cond, ℕ, List, ap, sym, ◌∙◌, arith, rules}
use Rattle.std.proofs.Common.{append_assoc}
use Rattle.std.proofs.lemmas.List.{nil_from_length}
use Rattle.json.specs.Print.{escape}
use Rattle.json.proofs.Printed.Places.{Placed-then}
use Rattle.token_core.proofs.Outputs.{appended, escape_append, front_kept}
use Rattle.token_core.proofs.output.append_quoted.Goals as goal

pub blocks-2-init : goal.blocks-2-init
blocks-2-init g c =
    let before = take c.args.len c.args.bytes.now.items in
    let comma : List ℕ = cond c.args.comma (44 ∷ []) [] in
    let rest : List ℕ = escape c.args.text.now ++ 34 ∷ [] in
    let both = Placed-then c.place_comma-first.ensures c.place_byte-end.ensures in
    let p = appended c.requires c.in_ok-ensure_bytes.ensures.same c.in_ok-ensure_bytes.ensures.kept
    c.as_mut_slice-buffer.ensures.value c.as_mut_slice-buffer.ensures.len both in (
      p.within,
      omega (arith, both.moved),
      p.kept,
      p.front,
      ap (λ l. l ++ rest) p.bytes ∙ append_assoc before (comma ++ 34 ∷ []) rest
          ∙ ap (λ l. before ++ l) (append_assoc comma (34 ∷ []) rest),
    )

pub returns-in_err-ensure_bytes-2-clause-same : goal.returns-in_err-ensure_bytes-2-clause-same
returns-in_err-ensure_bytes-2-clause-same g c = front_kept _ _ c.blocks-2.invariant.1
    c.in_err-ensure_bytes-2.ensures.same ∙ c.blocks-2.invariant.3

pub blocks-2-preserved : goal.blocks-2-preserved
blocks-2-preserved g c =
    let i = c.blocks-2.invariant in
    let before = take c.blocks-2.end c.blocks-2.bytes.items in
    let block = c.split_at.result.0.now in
    let after = c.split_at.result.1.now in
    let rest : List ℕ = escape after ++ 34 ∷ [] in
    let p = appended i.0 c.in_ok-ensure_bytes-2.ensures.same c.in_ok-ensure_bytes-2.ensures.kept
    c.as_mut_slice.ensures.value c.as_mut_slice.ensures.len c.place_escaped-end.ensures in (
      p.within,
      omega (arith, i.1, c.place_escaped-end.ensures.moved),
      omega (arith, i.2, p.kept),
      front_kept _ _ i.1 p.front ∙ i.3,
      ap (λ l. l ++ rest) p.bytes ∙ append_assoc before (escape block) rest
          ∙ ap (λ l. before ++ l) (sym (append_assoc (escape block) (escape after) (34 ∷ [])))
          ∙ ap (λ l. before ++ (l ++ 34 ∷ [])) (sym (escape_append block after)
          ∙ ap escape (sym c.split_at.ensures.by_index.0)) ∙ i.4,
    )

pub returns-in_err-ensure_bytes-3-clause-same : goal.returns-in_err-ensure_bytes-3-clause-same
returns-in_err-ensure_bytes-3-clause-same g c = front_kept _ _ c.blocks-2.invariant.1
    c.in_err-ensure_bytes-3.ensures.same ∙ c.blocks-2.invariant.3

pub returns-clause-ok : goal.returns-clause-ok
returns-clause-ok g c =
    let i = c.blocks-2.invariant in
    let before = take c.blocks-2.end c.blocks-2.bytes.items in
    let p = appended i.0 c.in_ok-ensure_bytes-3.ensures.same c.in_ok-ensure_bytes-3.ensures.kept
    c.as_mut_slice-2.ensures.value c.as_mut_slice-2.ensures.len c.place_byte.ensures in
    let none = nil_from_length c.blocks-2.rest.now (search rules) in
    record {
      bytes = p.bytes ∙ ap (λ d. before ++ (escape d ++ 34 ∷ [])) (sym none) ∙ i.4;
      within = p.within;
      front = front_kept _ _ i.1 p.front ∙ i.3;
      kept = omega (arith, i.2, p.kept);
    }

pub returns-clause-same : goal.returns-clause-same
returns-clause-same g c = (returns-clause-ok g c).front
