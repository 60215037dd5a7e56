-- Why a registry's bytes are refused with status 1: they hold none.
use Rattle.std.proofs.Common.{◌≡◌, ℕ, List, None}
use Rattle.scale_calls.specs.declared.registry.OpenOptions.{OpenOptions}
use Rattle.scale_calls.specs.Opened.{RefusesRegistry, checked_of}
use Rattle.scale_calls.specs.declared.refusal.RegistryRefusal.{RegistryRefusal}
use Rattle.scale_calls.specs.declared.refusal.RegistryRefusal.TheVariants as refusal
use Rattle.scale_tool.specs.Refused.{status_of_registry}

-- bytes that are refused with status 1 hold no registry whose references all are positions
pub holds_none : (options : OpenOptions) (b : List ℕ) (e : RegistryRefusal) →
    RefusesRegistry options b e → status_of_registry e ≡ 1 → checked_of options b ≡ None
holds_none options b (refusal.Fault f) h one = h.0
holds_none options b (refusal.TrailingBytes at) h one = h.0
holds_none options b (refusal.Check unknown) h one = h.0
holds_none options b (refusal.TooLarge _) h one = absurd cc
holds_none options b (refusal.Memory _) h one = absurd cc
