use Rattle.std.proofs.Common.{rules, ◌≡◌, ◌∙◌, ℕ, List, None, refl, subst, sym}
use Rattle.std.specs.Prelude.{IsErr}
use Rattle.std.proofs.lemmas.Str.{is_utf8-from_IsUtf8}
use Rattle.widths_core.specs.declared.run_kind.RunKind.{RunKind}
use Rattle.widths_core.specs.declared.run_kind.RunKind.TheVariants as kind
use Rattle.grammar_core.specs.Runs.{run_at}
use Rattle.node_core.specs.declared.leaf.Leaf.{Leaf}
use Rattle.node_core.specs.declared.leaf.Leaf.TheVariants as leaf
use Rattle.form_core.specs.WholeRuns.{IsAtFront, ReadsRun}
use Rattle.form_core.proofs.WholeRuns.{bits_are, bytes_are, no_bits, no_run, no_text, run_is}
use Rattle.form_core.proofs.runs.whole_run.Goals as goal

pub returns-in_err-len-clause-none : goal.returns-in_err-len-clause-none
returns-in_err-len-clause-none c =
    let none : c.from_residual.result ≡ None = search rules in
    rw none (no_run c.args.kind c.args.piece.now c.in_err-len.ensures.none)

pub returns-in-Text-clause-none : goal.returns-in-Text-clause-none
returns-in-Text-clause-none c =
    let piece = c.args.piece.now in
    let run : ℕ × List ℕ = (c.in_ok-len.len, c.in_ok-len.bytes.now) in
    let count = c.in_ok-len.count in
    let text = subst (λ (k : RunKind). IsAtFront k piece run count) c.in-Text.is
    c.in_ok-len.ensures.some in
    subst (λ (k : RunKind). IsErr (run_at k piece)) (sym c.in-Text.is)
    (no_text piece run count text
    (λ valid. let yes = c.is_text.ensures.1 valid in let no = c.if-not-is_text.true in absurd cc))

pub returns-in-Text-2-clause-some : goal.returns-in-Text-2-clause-some
returns-in-Text-2-clause-some c =
    let piece = c.args.piece.now in
    let bytes = c.in_ok-len.bytes in
    let count = c.in_ok-len.count in
    let run : ℕ × List ℕ = (c.in_ok-len.len, bytes.now) in
    let text = subst (λ (k : RunKind). IsAtFront k piece run count) c.in-Text-2.is
    c.in_ok-len.ensures.some in
    subst (λ (k : RunKind). ReadsRun k piece (leaf.Text bytes) count) (sym c.in-Text-2.is)
    (run_is kind.Text piece run (leaf.Text bytes) count text
    (is_utf8-from_IsUtf8 bytes.now (c.is_text.ensures.0 c.if-not-is_text.false)) refl text.short)

pub returns-in-Bytes : goal.returns-in-Bytes
returns-in-Bytes c = record {
  some = bytes_are c.args.kind c.args.piece.now c.in_ok-len.len c.in_ok-len.bytes
      c.in_ok-len.count c.in-Bytes.is c.in_ok-len.ensures.some;
  none = tt;
}

pub returns-in-Some-clause-none : goal.returns-in-Some-clause-none
returns-in-Some-clause-none c =
    let piece = c.args.piece.now in
    let run : ℕ × List ℕ = (c.in_ok-len.len, c.in_ok-len.bytes.now) in
    let words = subst (λ (k : RunKind). IsAtFront k piece run c.in_ok-len.count) c.in-Bits.is
    c.in_ok-len.ensures.some in
    subst (λ (k : RunKind). IsErr (run_at k piece)) (sym c.in-Bits.is)
    (no_bits c.in-Bits.form piece run c.in_ok-len.count _ words
    (sym c.unused_at.ensures ∙ c.in-Some.is))

pub returns-in-None-clause-some : goal.returns-in-None-clause-some
returns-in-None-clause-some c =
    let piece = c.args.piece.now in
    let count = c.in_ok-len.count in
    let run : ℕ × List ℕ = (c.in_ok-len.len, c.in_ok-len.bytes.now) in
    let words = subst (λ (k : RunKind). IsAtFront k piece run count) c.in-Bits.is
    c.in_ok-len.ensures.some in
    let is : Leaf = leaf.Bits c.in_ok-len.len c.in_ok-len.bytes in
    subst (λ (k : RunKind). ReadsRun k piece is count) (sym c.in-Bits.is)
    (bits_are c.in-Bits.form piece c.in_ok-len.len c.in_ok-len.bytes count words
    (sym c.unused_at.ensures ∙ c.in-None.is))
