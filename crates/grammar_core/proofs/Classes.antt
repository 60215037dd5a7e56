-- What a type without a definition is.
use Rattle.std.proofs.Common.{◌≡◌, ℕ, zero, suc, false, List, None, refl}
use Rattle.types_core.specs.declared.type_info.TypeInfo.{TypeInfo}
use Rattle.graph_core.specs.Types.{shape}
use Rattle.widths_core.specs.Classes.{holds_at, finite_within}

-- a type without a definition has no value
pub shapeless : (r : List TypeInfo) (k t : ℕ) → shape r t ≡ None → finite_within r k t ≡ false
unfolding finite_within
shapeless r zero t e = refl
shapeless r (suc k) t e = rw (e, holds_at) refl
