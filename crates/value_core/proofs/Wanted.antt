-- What a form reports that is wanted for a whole node.
use Rattle.std.proofs.Common.{◌≡◌, ◌∙◌, ◌-◌, ℕ, List, length, Option, Some, None, Ok, Err, refl, ap}
use Rattle.std.specs.Prelude.{Result}
use Rattle.widths_core.specs.declared.run_kind.RunKind.{RunKind}
use Rattle.widths_core.specs.declared.run_kind.RunKind.TheVariants as kind
use Rattle.types_core.specs.declared.bits.BitForm.{BitForm}
use Rattle.widths_core.specs.RunBytes.{run_bytes}
use Rattle.value_core.specs.declared.build_fault.BuildFault.{BuildFault}
use Rattle.value_core.specs.declared.build_fault.BuildFault.TheVariants as fault
use Rattle.grammar_core.specs.declared.form.Form.{Form}
use Rattle.grammar_core.specs.declared.form.Next.{Next}
use Rattle.grammar_core.specs.declared.form.Next.TheVariants as next
use Rattle.value_core.specs.Built.{Built, IsClean, IsCleanRun, Pieces}
use Rattle.value_core.specs.Refusals.{IsRunComplete, missing_at, missing_bytes, missing_of}
use Rattle.value_core.specs.Refusals.{missing_text}
use Rattle.value_core.specs.Refusals.{of_byte_run}
use Rattle.value_core.specs.Refusals.{of_text, while_closed, wanted_from, wanted_of}
use Rattle.value_core.specs.Walked.{next_of}

-- where a form is wanted for a whole node, it is the one that is next, and no run is open
closed_by : (run : Option Pieces) (f g : Form) → while_closed run f ≡ Ok g → (f ≡ g)
    × (run ≡ None)
closed_by None f g e = (cc, refl)
closed_by (Some t) f g e = absurd cc

-- where a form is wanted for a whole node, it comes next, and no run is open
by_next : (run : Option Pieces) (n : Next) (g : Form) → wanted_from run n ≡ Ok g →
    (n ≡ next.Wants g) × (run ≡ None)
by_next run next.Finished g e = absurd cc
by_next run (next.Stop r) g e = absurd cc
by_next run (next.Wants f) g e = let h = closed_by run f g e in (ap next.Wants h.0, h.1)

-- the form that a builder wants for a whole node is what its walk says comes next
pub wanted_next : (b : Built) (g : Form) → wanted_of b ≡ Ok g → next_of b.walk ≡ next.Wants g
wanted_next b g e = (by_next b.run (next_of b.walk) g e).0

-- where a builder wants a form for a whole node, no run is open
pub wanted_closed : (b : Built) (g : Form) → wanted_of b ≡ Ok g → b.run ≡ None
wanted_closed b g e = (by_next b.run (next_of b.walk) g e).1

-- a run of bytes that lacks nothing is whole, and so is a text
pub bytes_whole : (b : Built) → missing_bytes b ≡ Ok 0 → IsRunComplete b
bytes_whole b e = by (missing_of b) refl e where
  of : (k : RunKind) (n : ℕ) → of_byte_run k n ≡ Ok 0 → n ≡ 0
  of kind.Text n e = absurd cc
  of (kind.Bits f) n e = absurd cc
  of kind.Bytes n e = cc
  of (kind.ByteArray m) n e = cc

  by : (m : Result (RunKind × ℕ) BuildFault) → missing_of b ≡ m →
      ◌≡◌ {A = Result ℕ BuildFault} (elim m [ Ok x ↦ of_byte_run x.0 x.1 | Err e ↦ Err e ]) (Ok 0) →
      IsRunComplete b
  by (Ok x) f e = (x.0, f ∙ ap (λ (n : ℕ). Ok (x.0, n)) (of x.0 x.1 e))
  by (Err fault) f e = absurd cc

-- where a text is open and lacks no byte, the open run lacks nothing
pub text_whole : (b : Built) → missing_text b ≡ Ok 0 → IsRunComplete b
text_whole b e = by (missing_of b) refl e where
  of : (k : RunKind) (n : ℕ) → of_text k n ≡ Ok 0 → n ≡ 0
  of kind.Text n e = cc
  of kind.Bytes n e = absurd cc
  of (kind.ByteArray m) n e = absurd cc
  of (kind.Bits f) n e = absurd cc

  by : (m : Result (RunKind × ℕ) BuildFault) → missing_of b ≡ m →
      ◌≡◌ {A = Result ℕ BuildFault} (elim m [ Ok x ↦ of_text x.0 x.1 | Err e ↦ Err e ]) (Ok 0) →
      IsRunComplete b
  by (Ok x) f e = (x.0, f ∙ ap (λ (n : ℕ). Ok (x.0, n)) (of x.0 x.1 e))
  by (Err fault) f e = absurd cc

-- neither has unused bits
of_kind : (b : Built) (of : RunKind → ℕ → Result ℕ BuildFault) →
    ((f : BitForm) (n : ℕ) → of (kind.Bits f) n ≡ Err fault.WrongKind) → (n : ℕ) →
    ◌≡◌ {A = Result ℕ BuildFault} (elim (missing_of b) [ Ok x ↦ of x.0 x.1 | Err e ↦ Err e ])
    (Ok n) →
    IsCleanRun b.run
of_kind b of none n e = by b.run (next_of b.walk) e where
  kinds : (k : RunKind) (m len : ℕ) (s : List ℕ) → of k m ≡ Ok n → IsClean k len s
  kinds (kind.Bits f) m len s e = let no = none f m in absurd cc
  kinds kind.Text m len s e = tt
  kinds kind.Bytes m len s e = tt
  kinds (kind.ByteArray i) m len s e = tt

  by : (run : Option Pieces) (x : Next) → ◌≡◌ {A = Result ℕ BuildFault}
      (elim (missing_at run x) [ Ok y ↦ of y.0 y.1 | Err e ↦ Err e ]) (Ok n) → IsCleanRun run
  by None x e = tt
  by (Some t) next.Finished e = absurd cc
  by (Some t) (next.Stop r) e = absurd cc
  by (Some t) (next.Wants f) e =
      kinds t.kind (run_bytes t.kind t.len - length t.bytes) t.len t.bytes e

-- an open run of bytes has no unused bits
pub bytes_clean : (b : Built) (n : ℕ) → missing_bytes b ≡ Ok n → IsCleanRun b.run
bytes_clean b n e = of_kind b of_byte_run (λ f m. refl) n e

-- nor has an open text
pub text_clean : (b : Built) (n : ℕ) → missing_text b ≡ Ok n → IsCleanRun b.run
text_clean b n e = of_kind b of_text (λ f m. refl) n e
