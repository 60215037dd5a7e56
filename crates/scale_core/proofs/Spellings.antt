-- The laws of compact integers and texts.
use Rattle.std.proofs.Common.{◌≡◌, ℕ, List, ◌++◌, sym, ap, ◌∙◌}
use Rattle.scale_core.specs.Compact.{IsCompact}
use Rattle.scale_core.specs.Text.{IsText}
use Rattle.scale_core.specs.Read.{compact_at, text_at}
use Rattle.scale_core.specs.Laws.{CompactIsPrefixFree, CompactIsSpelled, TextIsPrefixFree}
use Rattle.scale_core.specs.Laws.{TextIsSpelled}
use Rattle.scale_core.specs.declared.compact.Target.{Target}
use Rattle.scale_core.specs.declared.compact.Target.TheVariants.{Unit as TUnit, U32}
use Rattle.scale_core.specs.declared.fault.Reason.{Reason}
use Rattle.scale_core.proofs.Again.{compact_again, text_again}
use Rattle.scale_core.proofs.Results.{done_is, compact_takes, text_takes}

-- a compact integer has one spelling
pub one_spelling : (m : Target) (x : ℕ) (a b : List ℕ) → IsCompact m x a → IsCompact m x b → a ≡ b
one_spelling TUnit x a b h k = h.1 ∙ sym k.1
one_spelling _ x a b h k = h.1 ∙ sym k.1

-- no spelling of a compact integer is the front of another's
pub prefix_free : CompactIsPrefixFree
prefix_free m x y a b rest more h k e =
    let one = compact_again m x a rest h in
    let two = compact_again m y b more k in
    let same : x ≡ y = ap (λ (p : ℕ × List ℕ). p.0)
    (done_is {E = Reason} (x, rest) (y, more) (sym one ∙ ap (compact_at m) e ∙ two)) in
    (same, one_spelling m x a b h (rw same k))

-- what is read as a compact integer is spelled by the bytes that it took
pub compact_spelled : CompactIsSpelled
compact_spelled m bytes x rest e = rw e at (compact_takes m bytes)

-- a text has one spelling
one_text : (s a b : List ℕ) → IsText s a → IsText s b → a ≡ b
one_text s a b h k = h.3 ∙ ap (λ (c : List ℕ). c ++ s) (one_spelling U32 _ h.0 k.0 h.1 k.1)
    ∙ sym k.3

-- no spelling of a text is the front of another's
pub text_prefix_free : TextIsPrefixFree
text_prefix_free s t a b rest more h k e =
    let one = text_again s a rest h in
    let two = text_again t b more k in
    let same : s ≡ t = ap (λ (p : List ℕ × List ℕ). p.0)
    (done_is {E = Reason} (s, rest) (t, more) (sym one ∙ ap text_at e ∙ two)) in
    (same, one_text s a b h (rw same k))

-- what is read as a text is spelled by the bytes that it took
pub text_spelled : TextIsSpelled
text_spelled bytes s rest e = rw e at (text_takes bytes)
