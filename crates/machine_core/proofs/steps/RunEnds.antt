-- A run of bytes that ends in the turn that takes its last bytes.
use Rattle.std.proofs.Common.{None, ◌≡◌, ℕ, ◌+◌, ◌-◌, ◌≤◌, List, [], ◌++◌, length, take, Err, sym}
use Rattle.std.proofs.Common.{ap}
use Rattle.std.proofs.Common.{subst, ◌∙◌, append_assoc, arith, refl, inl, inr, length-append}
use Rattle.std.proofs.lemmas.List.{append-nil}
use Rattle.std.proofs.Math.Seq.{take-append_seam}
use Rattle.grammar_core.specs.Runs.{run_front}
use Rattle.value_core.specs.Built.{Built, unused_in, with_piece}
use Rattle.value_core.specs.Refusals.{RunLacks}
use Rattle.outcome_core.specs.Decided.{Decided}
use Rattle.outcome_core.specs.Machine.{remain}
use Rattle.outcome_core.specs.Reported.{reported}
use Rattle.machine_core.specs.Running.{IsRunNext, Running, held_of, state_of}
use Rattle.machine_core.specs.Turned.{EndReports, EndsTurns, StepReports, Steps}
use Rattle.outcome_core.specs.Machine.{TurnLeads}
use Rattle.machine_core.specs.declared.reason.DecodeReason.{DecodeReason}
use Rattle.machine_core.specs.declared.turned.Stopped.TheVariants as stop
use Rattle.machine_core.specs.Turned.{Turned}
use Rattle.machine_core.proofs.steps.OpenRuns.{IsRunOpen, held_open, open_of, piece_wants}
use Rattle.machine_core.proofs.steps.TurnReports.{of_fields}
use Rattle.std.specs.Prelude.{Ok}

-- what is held of an open run that took bytes ends with these
pub taken_held : (b : Built) (c : List ℕ) (missing : ℕ) (rest : List ℕ) → IsRunOpen b c missing →
    held_of (of_fields (with_piece b rest) c) ≡ held_of (of_fields b c) ++ rest
taken_held b c missing rest n =
    let t = n.pieces in
    let more : List ℕ = t.bytes ++ rest in
    held_open (with_piece b rest) c (record { kind = t.kind; len = t.len; bytes = more })
    (rw n.open_is refl)
    ∙ sym (append_assoc (run_front t.kind t.len) t.bytes rest)
    ∙ ap (λ (l : List ℕ). l ++ rest) (sym (held_open b c t n.open_is))

-- where it ends then, its node was added by what was held before and these
rest_steps : (b : Built) (c rest : List ℕ) (new : Running) →
    held_of (of_fields (with_piece b rest) c) ≡ held_of (of_fields b c) ++ rest →
    Steps (of_fields (with_piece b rest) c) new [] → Steps (of_fields b c) new rest
rest_steps b c rest new held (inl h) = absurd (omega (arith, h.0))
rest_steps b c rest new held (inr h) = inr (
  h.0,
  subst (TurnLeads b.walk.types (state_of b) (state_of new.built))
      (append-nil (held_of (of_fields (with_piece b rest) c)) ∙ held) h.1,
  h.2,
)

-- where it is refused then, it is by what was held before, these and what follows
rest_refused : (b : Built) (c rest later : List ℕ) (held at len : ℕ) (reason : DecodeReason) →
    held_of (of_fields (with_piece b rest) c) ≡ held_of (of_fields b c) ++ rest →
    EndsTurns (of_fields (with_piece b rest) c) later
    (stop.Refused (length rest + held) reason at len) →
    EndsTurns (of_fields b c) (rest ++ later) (stop.Refused held reason at len)
rest_refused b c rest later held at len reason held_is h =
    let e = h.0 in
    let left = h.1 in
    let before = held_of (of_fields b c) in
    let same : held_of (of_fields (with_piece b rest) c) ++ later ≡ before ++ (rest ++ later) =
    ap (λ (l : List ℕ). l ++ later) held_is ∙ append_assoc before rest later in
    let r = subst (λ (x : List ℕ). (at ≡ length x - length left)
    × (remain b.walk.types (state_of b) x ≡ reported [] (Err ((e, left), x)))
    × Decided b.walk.types (state_of b) x e left len) same (h.5, h.6, h.7) in (
      e,
      left,
      h.2,
      h.3,
      omega (arith, h.4, ap length held_is, length-append before rest),
      r.0,
      r.1,
      r.2,
      omega (arith, h.8),
    )

-- to take the last bytes of an open run and to end it is one turn
pub rest_reports : (b mid : Built) (c : List ℕ) (new : Running) (rest later : List ℕ)
    (result : Turned) → IsRunOpen b c (length rest) → 1 ≤ length rest →
    unused_in b.run rest ≡ None → mid ≡ with_piece b rest →
    EndReports (of_fields mid c) new (length rest) result →
    StepReports (of_fields b c) new (rest ++ later) result
rest_reports b mid c new rest later result n some clean is h =
    by result (subst (λ (s : Built). EndReports (of_fields s c) new (length rest) result) is h)
  where
    held : held_of (of_fields (with_piece b rest) c) ≡ held_of (of_fields b c) ++ rest
    held = taken_held b c (length rest) rest n

    by : (t : Turned) → EndReports (of_fields (with_piece b rest) c) new (length rest) t →
        StepReports (of_fields b c) new (rest ++ later) t
    by (Ok k) h = (
      omega (arith, h.0, length-append rest later),
      record { types = h.1.types; limit = h.1.limit; ty = h.1.ty },
      subst (λ (m : ℕ). Steps (of_fields b c) new (take m (rest ++ later))) (sym h.0)
          (subst (Steps (of_fields b c) new) (sym (take-append_seam rest later))
          (rest_steps b c rest new held h.2)),
    )
    by (Err (stop.Refused k reason at len)) h =
        rest_refused b c rest later k at len reason held (h later)
    by (Err stop.Finished) h = absurd h
    by (Err stop.Wants) h = absurd h
    by (Err (stop.OutOfMemory _)) h =
        piece_wants b c (length rest) (rest ++ later) (length rest) n (omega arith)
        (omega (arith, length-append rest later)) some
        (ap (unused_in b.run) (take-append_seam rest later) ∙ clean)

-- to end a run of which no byte came in this turn is a turn too
pub end_reports : (old new : Running) (piece : List ℕ) (result : Turned) →
    EndReports old new 0 result → StepReports old new piece result
end_reports old new piece (Ok n) h = (
  omega (arith, h.0),
  h.1,
  subst (λ (m : ℕ). Steps old new (take m piece)) (sym h.0) h.2,
)
end_reports old new piece (Err (stop.Refused held reason at len)) h =
    subst (λ (m : ℕ). EndsTurns old piece (stop.Refused m reason at len)) (omega arith) (h piece)
end_reports old new piece (Err stop.Finished) h = absurd h
end_reports old new piece (Err stop.Wants) h = absurd h
end_reports old new piece (Err (stop.OutOfMemory _)) h = h piece

-- an open run lacks just these bytes, which hold no unused bit that is 1
pub record RestComes (b : Built) (c rest : List ℕ) : Type 0 where
  pub opened : IsRunOpen b c (length rest)
  pub clean : unused_in b.run rest ≡ None

-- the same of a decoder that has these fields
pub rest_comes : (b : Built) (c rest : List ℕ) (s : Running) → record { built = b; carry = c } ≡ s →
    IsRunNext s.built s.carry s.built.run → RunLacks s.built.run (length rest) →
    unused_in s.built.run rest ≡ None → RestComes b c rest
rest_comes b c rest s is next lacks clean = record {
  opened = open_of b c (length rest) s is next lacks;
  clean = subst (λ (x : Running). unused_in x.built.run rest ≡ None) (sym is) clean;
}
