use Rattle.std.proofs.Common.{◌≡◌, ◌++◌, ◌∷◌, [], ℕ, List, ap, ◌∙◌, append_assoc}
use Rattle.std.proofs.lemmas.List.{flat_map_more}
use Rattle.chain_core.specs.Names.{Entry, entries_of, entry_of}
use Rattle.scale_calls.specs.NameLines.{AreLines, IsOneOf, name_line}
use Rattle.scale_calls.proofs.Appended.{all_of_both}
use Rattle.scale_calls.proofs.names.push_name_lines.Goals as goal

-- after some lines, the line of one more name
more : (names : List Entry) (front old new : List ℕ) (e : Entry) → IsOneOf names e →
    ((text : List ℕ) × AreLines names text × (old ≡ front ++ text)) → new ≡ old ++ name_line e →
    (text : List ℕ) × AreLines names text × (new ≡ front ++ text)
more names front old new e is h added = let es = h.1.0 in (
  h.0 ++ name_line e,
  (
    es ++ e ∷ [],
    all_of_both (IsOneOf names) es (e ∷ []) h.1.1 (is, tt),
    ap (λ v. v ++ name_line e) h.1.2 ∙ flat_map_more name_line [] es e,
  ),
  added ∙ ap (λ v. v ++ name_line e) h.2 ∙ append_assoc front h.0 (name_line e),
)

pub names-preserved : goal.names-preserved
names-preserved c =
    more (entries_of c.args.names.now) _ _ _ (entry_of c.in-Some.named.now) c.in-Some.ensures
    c.names.invariant c.in_ok-push_line.ensures
