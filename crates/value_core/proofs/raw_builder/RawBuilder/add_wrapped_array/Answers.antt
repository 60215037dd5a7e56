use Rattle.std.proofs.Common.{ℕ, ◌∙◌, List, [], ◌∷◌, length, refl, sym, ap, arith, subst}
use Rattle.std.proofs.lemmas.List.{take_all}
use Rattle.scale_core.proofs.ReadModes.{are_bytes}
use Rattle.widths_core.specs.declared.run_kind.RunKind.TheVariants as kind
use Rattle.grammar_core.specs.Parts.{each}
use Rattle.grammar_core.specs.Preorder as head
use Rattle.grammar_core.specs.Tree as tree
use Rattle.value_core.specs.Begun.{IsBegun}
use Rattle.value_core.specs.Built.{Built, with_fields, with_leaf}
use Rattle.value_core.specs.Walked.{advanced, opened}
use Rattle.value_core.proofs.AtOnce.{fields_are, fields_next_of}
use Rattle.value_core.proofs.NextLeaf.{run_next}
use Rattle.value_core.proofs.raw_builder.RawBuilder.add_wrapped_array.Goals as goal

pub add_around-requires-clause-leaf : goal.add_around-requires-clause-leaf
add_around-requires-clause-leaf g c =
    let array = c.args.array.now in
    let b = c.args.self.now in
    run_next (opened (advanced b.walk) (length b.entries) (each (c.args.part.0 ∷ [])))
    (kind.ByteArray (length array)) (length array) array
    (c.requires.wraps.array (length b.entries)) tt
    (are_bytes array (λ i. omega (arith, c.type_inv.array i))) refl c.requires.wraps.few refl

pub add_around-requires-clause-fits : goal.add_around-requires-clause-fits
add_around-requires-clause-fits g c = c.requires.wraps.few

pub returns-clause-yes : goal.returns-clause-yes
returns-clause-yes g c =
    let b = c.args.self.now in
    let array = c.args.array.now in
    let w = c.requires.wraps in
    λ yes. record {
      begun = subst IsBegun (sym (fields_are b (c.args.part.0 ∷ []) w.opens))
          (c.add_around.ensures.begun yes);
      wants = sym (fields_next_of b c.args.part.0 w.opens) ∙ w.array (length b.entries);
      within = omega arith;
      is = c.add_around.ensures.yes yes
          ∙ ap (λ (x : Built). with_leaf x (head.leaf (tree.bytes array)))
          (sym (fields_are b (c.args.part.0 ∷ []) w.opens))
          ∙ ap (λ (l : List ℕ). with_leaf (with_fields b) (head.leaf (tree.bytes l)))
          (sym (take_all (length array) array (omega arith)));
    }
