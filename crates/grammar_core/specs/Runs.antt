-- Runs of bytes that a value contains verbatim: texts, sequences and arrays of u8, and the words of
-- bit sequences (SCALE codec, "Strings" and "Types"; of bits, parity-scale-codec).
use Rattle.std.specs.Prelude.{◌≡◌, ℕ, List, [], ◌++◌, length, take, drop, true, Option, Some}
use Rattle.std.specs.Prelude.{None, Ok, Err, if◌then◌else◌}
use Rattle.std.specs.Str.{is_utf8}
use Rattle.std.specs.Str.Lossy.{utf8_valid_len}
use Rattle.scale_core.specs.Compact.{IsCompact, compact}
use Rattle.scale_core.specs.Read.{Read, ◌>>=◌, bytes_at, compact_at}
use Rattle.scale_core.specs.declared.compact.Target.TheVariants as target
use Rattle.scale_core.specs.declared.fault.Reason.{Reason}
use Rattle.scale_core.specs.declared.fault.Reason.TheVariants as reason
use Rattle.types_core.specs.Bits.{bits_bytes, first_unused}
use Rattle.types_core.specs.declared.primitive.Primitive.TheVariants as P
use Rattle.widths_core.specs.RunBytes.{run_bytes}
use Rattle.widths_core.specs.declared.run_kind.RunKind.{RunKind}
use Rattle.widths_core.specs.declared.run_kind.RunKind.TheVariants as kind
use Rattle.grammar_core.specs.Tree.{Leaf}
use Rattle.grammar_core.specs.Tree as tree
use Rattle.grammar_core.specs.declared.form.Form.{Form}
use Rattle.grammar_core.specs.declared.form.Form.TheVariants as form

-- the leaf of a run of this length with these bytes
abbrev pub run_leaf : RunKind → ℕ × List ℕ → Leaf
run_leaf kind.Text x = tree.text x.1
run_leaf kind.Bytes x = tree.bytes x.1
run_leaf (kind.ByteArray n) x = tree.bytes x.1
run_leaf (kind.Bits f) x = tree.bits x.0 x.1

-- the form of each kind of run, and the kind of run that a form has, if any
abbrev pub run_form : RunKind → Form
run_form kind.Text = form.Primitive P.Str
run_form kind.Bytes = form.Bytes
run_form (kind.ByteArray n) = form.ByteArray n
run_form (kind.Bits f) = form.Bits f

-- ---- how it is spelled

-- c stands before a run of length n: it spells n, or it is nothing if the type gives the length
abbrev pub IsRunLength : RunKind → ℕ → List ℕ → Type 0
IsRunLength (kind.ByteArray k) n c = (n ≡ k) × (c ≡ [])
IsRunLength _ n c = IsCompact target.U32 n c

-- a text is UTF-8, the unused bits of words are 0, and any other run may have any bytes
abbrev pub IsRun : RunKind → ℕ → List ℕ → Type 0
IsRun kind.Text n s = is_utf8 s ≡ true
IsRun (kind.Bits f) n s = first_unused f n 0 s ≡ None
IsRun _ n s = Unit {0}

-- b is the one spelling of the run s of length n
abbrev pub SpellsRun : RunKind → ℕ → List ℕ → List ℕ → Type 0
SpellsRun k n s b = (c : List ℕ) × IsRunLength k n c × (length s ≡ run_bytes k n) × IsRun k n s
    × (b ≡ c ++ s)

-- the bytes before a run of length n
abbrev pub run_front : RunKind → ℕ → List ℕ
run_front (kind.ByteArray k) n = []
run_front _ n = compact n

-- ---- how it is read

abbrev pub run_length_at : RunKind → List ℕ → Read Reason ℕ
run_length_at (kind.ByteArray n) b = Ok (n, b)
run_length_at _ b = compact_at target.U32 b

-- checks the complete bytes of a run, which stand at the front of `from`: a text is rejected at its
-- first byte that is not UTF-8
abbrev pub run_judged : RunKind → List ℕ → List ℕ × List ℕ → Read Reason (List ℕ)
run_judged kind.Text from s =
    if is_utf8 s.0 then Ok s else Err (reason.BadUtf8, drop (utf8_valid_len s.0) from)
run_judged _ from s = Ok s

-- the next k bytes, unless one of them has a bit of 1 that is not used
abbrev pub words_at : Option ℕ → ℕ → List ℕ → Read Reason (List ℕ)
words_at (Some i) k b = Err (reason.UnusedBits, drop i b)
words_at None k b = bytes_at k b

-- the bytes of a run of length n; words are rejected as soon as a bit is that they don't use
unfoldable pub body_at : RunKind → ℕ → List ℕ → Read Reason (List ℕ)
body_at (kind.Bits f) n b =
    words_at (first_unused f n 0 (take (bits_bytes f n) b)) (bits_bytes f n) b
body_at k n b = bytes_at n b >>= λ s. run_judged k b s

-- a run: its length, and then its bytes
unfoldable pub run_at : RunKind → List ℕ → Read Reason (ℕ × List ℕ)
run_at k b = do
  n ← run_length_at k b
  s ← body_at k n.0 n.1
  Ok ((n.0, s.0), s.1)
