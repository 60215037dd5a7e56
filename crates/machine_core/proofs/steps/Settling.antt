-- A value that is built keeps to its shape: what is whole is closed, and something is open.
use Rattle.std.proofs.Common.{◌≡◌, ℕ, ◌+◌, ◌≤◌, List, [], ◌∷◌, ◌++◌, length, Option, Some, None}
use Rattle.std.proofs.Common.{refl, sym, ap, subst, ◌∙◌, arith}
use Rattle.value_core.specs.Built.{Built, next_entry, settled_in, settled}
use Rattle.grammar_core.specs.Parts.{Part, first_of}
use Rattle.grammar_core.specs.Preorder.{Head}
use Rattle.value_core.specs.Walked.{OpenPart, advanced_in}
use Rattle.value_core.proofs.Begun.{settled_short}
use Rattle.value_core.proofs.Closing.{advanced_length, settled_twice}
use Rattle.machine_core.specs.NodeAdds.{IsAdded, with_own}
use Rattle.machine_core.specs.Running.{IsRunning}
use Rattle.machine_core.proofs.steps.MachineTurn.{AtNext}

-- something stays open when what is whole is closed, if it does around the innermost part
some_by : (f g : OpenPart) (fs : List OpenPart) → 1 ≤ length (settled_in (g ∷ fs)) →
    (o : Option ℕ) → 1 ≤ length {A = OpenPart}
    (elim o [ Some t ↦ f ∷ g ∷ fs | None ↦ settled_in (g ∷ fs) ])
some_by f g fs h (Some t) = omega arith
some_by f g fs h None = h

-- where something is open, something stays open when what is whole is closed
pub settled_some : (fs : List OpenPart) → 1 ≤ length fs → 1 ≤ length (settled_in fs)
settled_some [] h = h
settled_some (f ∷ []) h = h
settled_some (f ∷ g ∷ fs) h = some_by f g fs (settled_some (g ∷ fs) (omega arith)) (first_of f.left)

-- nothing of it is carried, and no run is open
settled_running : (s : Built) → 1 ≤ length s.walk.frames → length s.walk.frames ≤ s.walk.limit + 2 →
    s.run ≡ None → IsRunning (settled s) []
settled_running s some deep closed = record {
  rooted = settled_some s.walk.frames some;
  deep = omega (arith, settled_short s.walk.frames, deep);
  settled = settled_twice s.walk.frames;
  carried = tt;
  run_next = rw closed tt;
}

-- with the next node added and nothing carried, a decoder is in progress
own_running : (b : Built) (n : AtNext b) (x : Head × Option Part) → b.run ≡ None →
    IsRunning (with_own b x) []
own_running b n (h, None) closed =
    let s : Built = record {
      ty = b.ty;
      walk =
          record { types = b.walk.types; limit = b.walk.limit; frames = advanced_in b.walk.frames };
      entries = b.entries ++ next_entry b h ∷ [];
      run = b.run;
      turns = b.turns;
    } in
    settled_running s (omega (arith, advanced_length b.walk.frames, ap length n.frames))
    (omega (arith, advanced_length b.walk.frames, n.bound)) closed
own_running b n (h, Some p) closed =
    let opened_part : OpenPart = record { node = length b.entries; left = p } in
    let s : Built = record {
      ty = b.ty;
      walk =
          record {
            types = b.walk.types;
            limit = b.walk.limit;
            frames =
                opened_part ∷ advanced_in b.walk.frames;
          };
      entries = b.entries ++ next_entry b h ∷ [];
      run = b.run;
      turns = b.turns;
    } in
    settled_running s (omega arith) (omega (arith, advanced_length b.walk.frames, n.bound)) closed

-- a node is added
pub added_running : (b new : Built) (own : List ℕ) → AtNext b → b.run ≡ None → IsAdded b new own →
    IsRunning new []
added_running b new own n closed h =
    subst (λ (s : Built). IsRunning s []) (sym h.2) (own_running b n h.0 closed)

-- to add a node leaves the open run as it is
pub own_run : (b : Built) (x : Head × Option Part) → (with_own b x).run ≡ b.run
own_run b (h, None) = refl
own_run b (h, Some p) = refl

-- where no run was open, none is after a node is added
pub added_run : (b new : Built) (own : List ℕ) → b.run ≡ None → IsAdded b new own →
    new.run ≡ None
added_run b new own closed h = ap (λ (s : Built). s.run) h.2 ∙ own_run b h.0 ∙ closed
