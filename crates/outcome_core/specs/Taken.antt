-- How many bytes decide a refusal: those up to and including the byte that reveals it.
use Rattle.std.specs.Prelude.{ℕ, zero, suc, ◌+◌, List, [], ◌∷◌, take, Option, Some, None, Ok, Err}
use Rattle.std.specs.Prelude.{if◌then◌else◌}
use Rattle.scale_core.specs.Read.{Read, place, compact_at, is_too_long, mode_len}
use Rattle.scale_core.specs.declared.compact.Target.{Target}
use Rattle.scale_core.specs.declared.compact.Target.TheVariants as target
use Rattle.types_core.specs.Bits.{bits_bytes, first_unused}
use Rattle.types_core.specs.declared.definition.Arm.{Arm}
use Rattle.types_core.specs.declared.type_info.TypeInfo.{TypeInfo}
use Rattle.graph_core.specs.Types.{field_types}
use Rattle.widths_core.specs.Arms.{arm_of}
use Rattle.widths_core.specs.Classes.{is_finite}
use Rattle.widths_core.specs.Layouts.{Plain, Layout, layout}
use Rattle.widths_core.specs.Layouts as layout
use Rattle.widths_core.specs.declared.run_kind.RunKind.{RunKind}
use Rattle.widths_core.specs.declared.run_kind.RunKind.TheVariants as kind
use Rattle.grammar_core.specs.Tree.{Tree}
use Rattle.grammar_core.specs.Reading.{ValueReader, value_at}
use Rattle.grammar_core.specs.Runs.{run_length_at}
use Rattle.grammar_core.specs.Ways.{Way, of_no_byte, of_width, of_compact, of_run, way_of}

-- how many bytes the first part takes if it is rejected; otherwise its bytes and what the parts
-- after it take
abbrev pub taken_after : {E X : Type 0} → List ℕ → Read E X → ℕ → (X × List ℕ → ℕ) → ℕ
taken_after b (Ok x) own next = place b x.1 + next x
taken_after b (Err e) own next = own

-- the first byte reveals that a compact is too long for its target; otherwise all its bytes are
-- taken
abbrev pub compact_taken : Target → List ℕ → ℕ
compact_taken m [] = 0
compact_taken m (first ∷ rest) = if is_too_long m first then 1 else mode_len first

-- how many bytes are taken if the length of a run is rejected
abbrev pub run_length_taken : RunKind → List ℕ → ℕ
run_length_taken (kind.ByteArray n) b = 0
run_length_taken _ b = compact_taken target.U32 b

-- words are rejected by the first byte with a bit of 1 that they don't use
abbrev pub words_taken : Option ℕ → ℕ → ℕ
words_taken (Some i) k = suc i
words_taken None k = k

-- how many bytes are taken if those of a run are rejected; a text is checked once all are there
abbrev pub body_taken : RunKind → ℕ → List ℕ → ℕ
body_taken (kind.Bits f) n b =
    words_taken (first_unused f n 0 (take (bits_bytes f n) b)) (bits_bytes f n)
body_taken k n b = n

abbrev pub run_taken : RunKind → List ℕ → ℕ
run_taken k b =
    taken_after b (run_length_at k b) (run_length_taken k b) (λ n. body_taken k n.0 n.1)

abbrev pub all_taken : (ℕ → ValueReader Tree) → (ℕ → List ℕ → ℕ) → List ℕ → List ℕ → ℕ
all_taken child taken [] b = 0
all_taken child taken (t ∷ ts) b =
    taken_after b (child t b) (taken t b) (λ x. all_taken child taken ts x.1)

abbrev pub times_taken : (ℕ → ValueReader Tree) → (ℕ → List ℕ → ℕ) → ℕ → ℕ → List ℕ → ℕ
times_taken child taken zero t b = 0
times_taken child taken (suc n) t b =
    taken_after b (child t b) (taken t b) (λ x. times_taken child taken n t x.1)

abbrev pub arm_taken : (ℕ → ValueReader Tree) → (ℕ → List ℕ → ℕ) → Option (ℕ × Arm) → List ℕ → ℕ
arm_taken child taken (Some found) rest = all_taken child taken (field_types found.1.fields) rest
arm_taken child taken None rest = 0

-- the index is one byte
abbrev pub arms_taken : (ℕ → ValueReader Tree) → (ℕ → List ℕ → ℕ) → List Arm → List ℕ → ℕ
arms_taken child taken arms [] = 0
arms_taken child taken arms (index ∷ rest) = suc (arm_taken child taken (arm_of arms index) rest)

-- a value of fixed width is checked once all its bytes are there
abbrev pub taken_by : Way → List ℕ → ℕ
taken_by (of_no_byte l) b = 0
taken_by (of_width k make fault) b = k
taken_by (of_compact m make) b = compact_taken m b
taken_by (of_run k) b = run_taken k b

abbrev pub leaf_taken : Plain → List ℕ → ℕ
leaf_taken p b = taken_by (way_of p) b

-- if a type is rejected as soon as it is met, none of its bytes are taken
unfoldable pub layout_taken : (ℕ → ValueReader Tree) → (ℕ → List ℕ → ℕ) → Layout → List ℕ → ℕ
layout_taken child taken (layout.plain p) b = leaf_taken p b
layout_taken child taken (layout.fields ts) b = all_taken child taken ts b
layout_taken child taken (layout.arms arms) b = arms_taken child taken arms b
layout_taken child taken (layout.sequence t) b =
    taken_after b (compact_at target.U32 b) (compact_taken target.U32 b)
    (λ n. times_taken child taken n.0 t n.1)
layout_taken child taken (layout.array n t) b = times_taken child taken n t b
layout_taken child taken _ b = 0

-- how many bytes are taken if a value of type t is rejected
unfoldable pub value_taken : List TypeInfo → ℕ → ℕ → List ℕ → ℕ
value_taken r zero t b = 0
value_taken r (suc room) t b =
    if is_finite r t then layout_taken (value_at r room) (value_taken r room) (layout r t) b else 0
