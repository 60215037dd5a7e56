-- How many bytes a run of a length has.
use Rattle.std.specs.Prelude.{ℕ}
use Rattle.types_core.specs.Bits.{bits_bytes}
use Rattle.widths_core.specs.declared.run_kind.RunKind.{RunKind}
use Rattle.widths_core.specs.declared.run_kind.RunKind.TheVariants as kind

-- how many bytes a run of this length has: a length counts bytes, or bits
abbrev pub run_bytes : RunKind → ℕ → ℕ
run_bytes (kind.Bits f) n = bits_bytes f n
run_bytes _ n = n
