-- What a handle owns, and what a lent one has.
use Rattle.std.specs.Prelude.{◌≡◌, Option, Some, None, []}
use base.Fml.{Fml, ftrue, fsep, fex}
use denote.RattleType.{RattleType}
use denote.RawPtr.{Ptr, null_ptr, Testable}
use denote.Struct.Lending.{lent_at}
use mir.Syntax.{Ty}
use Rattle.std.specs.Box.Ownership.{box_owns}
use Rattle.std_heap.specs.contracts.GlobalAllocator.TheImpl.{ghosts}

-- the right to free a block of the global heap, whose value has nothing in it
abbrev pub heap_token : Ty → Ptr → Fml
heap_token = ghosts.dealloc_token (record { memory = record { seal = tt } })

-- null, or the value at the pointer and the right to free its block
abbrev pub owned : (R : RattleType) → Ptr → Option R.Denot → Fml
owned R p None = fex (p ≡ null_ptr) (λ _. ftrue)
owned R p (Some x) = box_owns heap_token R p x

-- null, or the value at the pointer, shared for a lifetime that does not end
abbrev pub lent : (R : RattleType) → Ptr → Option R.Denot → Fml
lent R p None = fex (p ≡ null_ptr) (λ _. ftrue)
lent R p (Some x) = fsep (fex (Testable p) (λ _. ftrue)) (lent_at R p x [])
