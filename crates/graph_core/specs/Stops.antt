-- Where the linking of types stops, and what was looked at until then.
use Rattle.std.specs.Prelude.{◌≡◌, ℕ, zero, suc, ◌≤◌, List, [], ◌∷◌, ◌++◌, length, flat_map}
use Rattle.std.specs.Prelude.{reverse, take}
use Rattle.std.specs.Prelude.{Option, Some, None}
use Rattle.types_core.specs.declared.definition.TypeDef.{TypeDef}
use Rattle.types_core.specs.declared.type_info.TypeInfo.{TypeInfo}
use Rattle.graph_core.specs.declared.fault.CheckFault.{CheckFault}
use Rattle.graph_core.specs.declared.fault.CheckFault.TheVariants.{OutOfMemory, TooLarge}
use Rattle.graph_core.specs.declared.fault.CheckFault.TheVariants.{UnknownType}
use Rattle.graph_core.specs.declared.graph.Graph.{Graph}
use Rattle.graph_core.specs.declared.looks.Looks.{Looks}
use Rattle.graph_core.specs.declared.link_stop.LinkStop.{LinkStop}
use Rattle.graph_core.specs.declared.link_stop.LinkStop.TheVariants as stop
use Rattle.graph_core.specs.Counts.{times}
use Rattle.graph_core.specs.Cursors.{left}
use Rattle.graph_core.specs.Graphs.{refs, ReadsOn}
use Rattle.graph_core.specs.References.{AreKnown, references, first_fault}
use Rattle.graph_core.specs.Types.{shape}

-- u is the first of these references that is not a position; it and those before it were read once
-- each
pub record StopsAt (tos : List ℕ) (a b : Graph) (u : ℕ) : Type 0 where
  pub front : List ℕ
  pub back : List ℕ
  pub tos_are : tos ≡ front ++ u ∷ back
  pub known : AreKnown (length a.registry) front
  pub unknown : length a.registry ≤ u
  pub on : ReadsOn a b (front ++ u ∷ [])

-- some references were read, and all of them are positions
pub record StopsBetween (a b : Graph) : Type 0 where
  pub front : List ℕ
  pub known : AreKnown (length a.registry) front
  pub on : ReadsOn a b front

-- linking stopped at an allocation failure, where a number did not fit, or at the first of these
-- references that is not a position
abbrev pub StopsLinking : List ℕ → Graph → Graph → LinkStop → Type 0
StopsLinking tos a b (stop.Memory _) = StopsBetween a b
StopsLinking tos a b (stop.TooMany _) = StopsBetween a b
StopsLinking tos a b (stop.Unknown u) = StopsAt tos a b u

-- linking stopped at no reference
abbrev pub IsShort : LinkStop → Type 0
IsShort (stop.Memory _) = Unit {0}
IsShort (stop.TooMany _) = Unit {0}
IsShort (stop.Unknown u) = ⊥

-- the same as a fault of the type at this position
abbrev pub fault_in : ℕ → LinkStop → CheckFault
fault_in i (stop.Memory refused) = OutOfMemory refused
fault_in i (stop.TooMany many) = TooLarge many
fault_in i (stop.Unknown u) = UnknownType (record { 0 = i }) (record { 0 = u })

-- the fault is the unknown reference; any other is only where there is none
abbrev pub IsFaultOf : CheckFault → Option (ℕ × ℕ) → Type 0
IsFaultOf (UnknownType from to) unknown = unknown ≡ Some (from.0, to.0)
IsFaultOf (TooLarge _) unknown = unknown ≡ None
IsFaultOf (OutOfMemory _) unknown = unknown ≡ None

-- each type was looked at no more than twice, and each reference of the definitions no more than
-- once, in order; no list was looked at
pub record HasFewLooksUntil (r : List TypeInfo) (l : Looks) : Type 0 where
  pub types : (t : ℕ) → times t l.opened.entries ≤ 2
  pub back : List ℕ
  pub read : flat_map (λ i. references i.shape) r ≡ reverse l.read.entries ++ back
  pub listed : l.listed.entries ≡ []

-- k types were opened, and all their references were read except these, the last ones of the last
-- type
abbrev pub IsReadTo : List TypeInfo → ℕ → List ℕ → List ℕ → Type 0
IsReadTo r zero read left = (read ≡ []) × (left ≡ [])
IsReadTo r (suc i) read left = (d : TypeDef) × (shape r i ≡ Some d) × (front : List ℕ)
    × (read ≡ flat_map (λ x. references x.shape) (take i r) ++ front)
    × (references d ≡ front ++ left)

-- the types are being read for the second time, in order, with few looks so far
pub record IsReading (r : List TypeInfo) (g : Graph) : Type 0 where
  pub types : g.registry ≡ r
  pub read : IsReadTo r g.cursor.types (refs g) (left g)
  pub opened : (t : ℕ) → (times t g.looks.opened.entries ≤ 2)
      × (g.cursor.types ≤ t → times t g.looks.opened.entries ≤ 1)
  pub listed : g.looks.listed.entries ≡ []

-- and all references that were read are positions
pub record IsUnderWay (r : List TypeInfo) (g : Graph) : Type 0 where
  pub reading : IsReading r g
  pub known : AreKnown (length r) (refs g)

-- an unknown reference is the first one, found with few looks; after another fault, the types can
-- be read on
abbrev pub IsRefusedFor : List TypeInfo → Graph → CheckFault → Type 0
IsRefusedFor r g (UnknownType from to) = (first_fault r ≡ Some (from.0, to.0))
    × HasFewLooksUntil r g.looks × (g.registry ≡ r)
IsRefusedFor r g (TooLarge _) = IsUnderWay r g
IsRefusedFor r g (OutOfMemory _) = IsUnderWay r g

-- the fault says nothing of the references
abbrev pub IsGivenUp : CheckFault → Type 0
IsGivenUp (UnknownType from to) = ⊥
IsGivenUp (TooLarge _) = Unit {0}
IsGivenUp (OutOfMemory _) = Unit {0}

-- the fault, found with few looks
pub record IsFaultWithin (r : List TypeInfo) (g : Graph) (fault : CheckFault) : Type 0 where
  pub types : g.registry ≡ r
  pub fault_is : IsFaultOf fault (first_fault r)
  pub looks : HasFewLooksUntil r g.looks

-- an unknown reference was found with few looks
abbrev pub HasFewLooksFor : List TypeInfo → Looks → CheckFault → Type 0
HasFewLooksFor r l (UnknownType from to) = HasFewLooksUntil r l
HasFewLooksFor r l (TooLarge _) = HasFewLooksUntil r l
HasFewLooksFor r l (OutOfMemory _) = Unit {0}

-- the fault that is returned; an unknown reference was found with few looks
pub record IsAnsweredFault (r : List TypeInfo) (g : Graph) (fault : CheckFault) : Type 0 where
  pub types : g.registry ≡ r
  pub fault_is : IsFaultOf fault (first_fault r)
  pub looks : HasFewLooksFor r g.looks fault
