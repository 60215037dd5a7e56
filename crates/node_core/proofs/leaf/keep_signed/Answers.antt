use Rattle.std.proofs.Common.{◌≡◌, ◌∙◌, ℤ, ap}
use Rattle.std.specs.Int.{w128, cast_unsigned, to_le_bytes}
use Rattle.std.proofs.lemmas.Int.{to_z-of_z}
use Rattle.grammar_core.specs.Preorder as head
use Rattle.grammar_core.specs.Tree as tree
use Rattle.node_core.proofs.Words.{signed_back, long_put}
use Rattle.node_core.proofs.leaf.keep_signed.Goals as goal

pub returns-in_ok-put_long-in-None-clause-ok : goal.returns-in_ok-put_long-in-None-clause-ok
returns-in_ok-put_long-in-None-clause-ok g c =
    let word : c.cast_unsigned.result ≡ cast_unsigned w128 c.args.number =
    c.cast_unsigned.ensures ∙ ap (cast_unsigned w128) (to_z-of_z w128 c.args.number c.requires) in
    let put = long_put c.args.pool.now.list.items c.put_long.new.pool.list.items
    c.in_ok-put_long-in-None.field-0 c.cast_unsigned.result
    c.in_ok-put_long-in-None.ensures.place c.in_ok-put_long-in-None.ensures.ok in
    record {
      more = to_le_bytes w128 c.cast_unsigned.result;
      grown = c.in_ok-put_long-in-None.ensures.ok;
      shows = ap (λ (z : ℤ). head.leaf (tree.signed z))
          (signed_back c.args.number c.cast_unsigned.result _ c.requires word put.shows);
      inside = put.inside;
      kept = put.long;
    }
