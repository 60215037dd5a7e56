-- What contracts see of a decoder in progress, and the machine state that it stands for.
use Rattle.std.specs.Prelude.{◌≡◌, ℕ, ◌+◌, ◌-◌, ◌<◌, ◌≤◌, List, [], ◌∷◌, ◌++◌, length, map, Option}
use Rattle.std.specs.Prelude.{Some, None, Ok}
use Rattle.widths_core.specs.declared.run_kind.RunKind.{RunKind}
use Rattle.grammar_core.specs.Runs.{run_form, run_front, run_length_at}
use Rattle.value_core.specs.Built.{Built, IsClean, Pieces, settled_in}
use Rattle.value_core.specs.Walked.{next_of, start_of}
use Rattle.grammar_core.specs.declared.form.Form.{Form}
use Rattle.grammar_core.specs.declared.form.Next.TheVariants as next
use Rattle.outcome_core.specs.Machine.{State}
use Rattle.form_core.specs.Needs.{need, AreOwn, HasBytes}

-- the value being built, and the bytes of a node that the end of a piece cut
pub record Running : Type 0 where
  pub built : Built
  pub carry : List ℕ

-- the nodes so far, the levels left, and the parts that are left of the open nodes
abbrev pub state_of : Built → State
state_of b = record {
  nodes = b.entries;
  room = b.walk.limit + 2 - length b.walk.frames;
  pending =
      map (λ f. f.left) b.walk.frames;
}

-- the bytes that were taken but belong to no node yet: those of an open run, or the carry
abbrev pub run_held : Option Pieces → List ℕ → List ℕ
run_held (Some t) carry = run_front t.kind t.len ++ t.bytes
run_held None carry = carry

abbrev pub held_of : Running → List ℕ
held_of s = run_held s.built.run s.carry

-- carried bytes are some of the next node's own bytes, but not all
abbrev pub IsCarry : Built → List ℕ → Type 0
IsCarry b [] = Unit {0}
IsCarry b (first ∷ rest) = (f : Form) × (next_of b.walk ≡ next.Wants f) × HasBytes f
    × (b.run ≡ None) × (length (first ∷ rest) < need f first)

-- the length of a run, read from its bytes or given by its type
pub record IsLength (k : RunKind) (n : ℕ) : Type 0 where
  pub own : HasBytes (run_form k) → AreOwn (run_form k) (run_front k n)
  pub read : run_length_at k (run_front k n) ≡ Ok (n, [])

-- if a run is open, it is next, its length is known, nothing is carried, and no unused bit came as
-- 1
abbrev pub IsRunNext : Built → List ℕ → Option Pieces → Type 0
IsRunNext b carry None = Unit {0}
IsRunNext b carry (Some t) = (next_of b.walk ≡ next.Wants (run_form t.kind)) × (carry ≡ [])
    × IsLength t.kind t.len × IsClean t.kind t.len t.bytes

pub record IsRunning (b : Built) (carry : List ℕ) : Type 0 where
  pub rooted : 1 ≤ length b.walk.frames
  pub deep : length b.walk.frames ≤ b.walk.limit + 2
  pub settled : settled_in b.walk.frames ≡ b.walk.frames
  pub carried : IsCarry b carry
  pub run_next : IsRunNext b carry b.run

-- no node of the value was added yet, and no run is open
pub record IsFresh (b : Built) : Type 0 where
  pub walk : b.walk ≡ start_of b.walk.types b.ty b.walk.limit
  pub closed : b.run ≡ None
