-- What was found so far, and how each step changes it.
use Rattle.std.specs.Prelude.{ℕ, ◌<◌, length, ◌-◌, List, ◌∷◌, [], ◌++◌, Bool, true, false, ◌||◌}
use Rattle.std.specs.Prelude.{◌==◌, Option, Some, None, slice_index_or, slice_set, if◌then◌else◌}
use Rattle.scale_core.specs.declared.compact.Target.{Target}
use Rattle.widths_core.specs.declared.class.Class.{Class}
use Rattle.widths_core.specs.declared.class.Class.TheVariants as class
use Rattle.widths_core.specs.declared.counter.Found.{Found}
use Rattle.widths_core.specs.declared.counter.Kind.TheVariants as kind
use Rattle.widths_core.specs.declared.counter.Counter.{Counter}
use Rattle.widths_core.specs.declared.rows.Rows.{Rows}
use Rattle.widths_core.specs.declared.settling.Settling.{Settling}
use Rattle.widths_core.specs.declared.type_step.TypeStep.{TypeStep}
use Rattle.widths_core.specs.ClassTables.{known_class, has_value}
use Rattle.widths_core.specs.Completing.{settled_step, step_at, told_step, written}
use Rattle.widths_core.specs.Rules.{outcome}

pub record Progress : Type 0 where
  pub counters : List Counter
  pub classes : List Class
  pub targets : List (Option Target)
  pub settled : List ℕ
  pub steps : List TypeStep
  pub rows : Rows

abbrev pub progress_of : Settling → Progress
progress_of s = record {
  counters = s.counters.items;
  classes = s.classes.items;
  targets =
      s.targets.items;
  settled = s.settled.items;
  steps = s.steps.items;
  rows = s.rows;
}

abbrev pub no_counter : Counter
no_counter = record { owner = 0; kind = kind.Idle; left = 0; sized = false }

abbrev pub counter_at : Progress → ℕ → Counter
counter_at s k = slice_index_or s.counters k no_counter

abbrev pub is_sized : Class → Bool
is_sized class.NoValue = false
is_sized class.Empty = false
is_sized class.Sized = true

-- this was found for type t, which settles unless it already has; its step becomes `o`, if there is
-- one
abbrev pub settled_as : Progress → ℕ → Found → Option TypeStep → Progress
settled_as s t f o = if has_value (known_class s.classes t) then s else record {
  counters = s.counters;
  classes = slice_set s.classes t f.class;
  targets =
      slice_set s.targets t f.target;
  settled = s.settled ++ t ∷ [];
  steps = written s.steps t o;
  rows = s.rows;
}

abbrev pub settled_by : Progress → Counter → Option Found → Option Target → Bool → Progress
settled_by s c None last byte = s
settled_by s c (Some f) last byte = settled_as s c.owner f
    (settled_step c.kind f.class last byte (step_at s.steps c.owner))

-- all parts of this counter have settled; `last` is the target of the last one, and `byte` says
-- whether it is u8 itself
abbrev pub completed : Progress → Counter → Option Target → Bool → Progress
completed s c last byte = settled_by s c (outcome c.kind c.sized last) last byte

abbrev pub counter_after : Counter → Class → Counter
counter_after c part = record {
  owner = c.owner;
  kind = c.kind;
  left = c.left - 1;
  sized =
      c.sized || is_sized part;
}

-- counter k counts a part of this class, and the step of its owner is updated; `byte` says whether
-- the part is u8 itself
abbrev pub counted : Progress → ℕ → Counter → Class → Bool → Progress
counted s k c part byte = record {
  counters = slice_set s.counters k c;
  classes = s.classes;
  targets =
      s.targets;
  settled = s.settled;
  steps = written s.steps c.owner (told_step c.kind part byte);
  rows = s.rows;
}

-- a part of counter k has settled with this result; `byte` says whether it is u8 itself
abbrev pub part_settled : Progress → ℕ → Found → Bool → Progress
part_settled s k f byte = let c = counter_after (counter_at s k) f.class in
    let n = counted s k c f.class byte in
    if c.left == 0 then completed n c f.target byte else n

-- the tables have an entry for type t
abbrev pub KnowsType : Progress → ℕ → Type 0
KnowsType s t = (t < length s.classes) × (t < length s.targets) × (t < length s.steps)
