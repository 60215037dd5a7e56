-- Turns on an array of u8: read whole, or of which no byte came.
use Rattle.grammar_core.specs.Runs.{run_leaf}
use Rattle.std.proofs.Common.{◌≡◌, ℕ, ◌≤◌, List, [], ◌++◌, take, None}
use Rattle.std.proofs.Common.{sym, ap, subst, ◌∙◌, arith, inl, inr}
use Rattle.std.specs.Prelude.{◌⊎◌}
use Rattle.widths_core.specs.Layouts.{Layout}
use Rattle.widths_core.specs.declared.run_kind.RunKind.TheVariants as kind
use Rattle.grammar_core.specs.Runs.{run_length_at}
use Rattle.grammar_core.specs.declared.form.Form.TheVariants as form
use Rattle.grammar_core.specs.declared.form.Next.TheVariants as next
use Rattle.value_core.specs.Built.{Built, next_layout, with_run_opened}
use Rattle.value_core.specs.Walked.{next_of}
use Rattle.machine_core.specs.Running.{Running, IsCarry, IsRunning, held_of}
use Rattle.outcome_core.specs.Reported.{own_at}
use Rattle.machine_core.specs.Turned.{KeepsNode, KeepsRun, PieceReports, StepReports}
use Rattle.machine_core.specs.Turned.{WantsBytes}
use Rattle.machine_core.specs.Turned.{Turned}
use Rattle.machine_core.proofs.steps.NodeAdding.{next_run}
use Rattle.std.proofs.Common.{length, refl}
use Rattle.grammar_core.specs.Preorder as head
use Rattle.machine_core.proofs.steps.OpenRuns.{run_missing, run_whole}
use Rattle.machine_core.specs.Running.{IsLength}
use Rattle.machine_core.proofs.steps.TurnReports.{carry_none}
use Rattle.machine_core.proofs.steps.TurnEffects.{held_closed}
use Rattle.std.specs.Prelude.{Err, Ok}
use Rattle.machine_core.specs.declared.turned.Stopped.TheVariants as stop

-- an array of u8 has its length by its type
pub byte_array_length : (n : ℕ) → IsLength (kind.ByteArray n) n
byte_array_length n = record { own = λ has. absurd has; read = refl }

-- it is read from all its bytes
pub byte_array_read : (b : Built) (n : ℕ) (own : List ℕ) →
    next_of b.walk ≡ next.Wants (form.ByteArray n) → length own ≡ n →
    own_at (next_layout b) own
    ≡ Ok ((head.leaf (run_leaf (kind.ByteArray n) (n, own)), None), [])
byte_array_read b n own h all =
    ap (λ (f : Layout). own_at f own) (next_run b (kind.ByteArray n) h)
    ∙ run_whole (kind.ByteArray n) n own (byte_array_length n) all refl tt

-- what is known of a decoder to which the array is next, by its fields
pub record AtArray (b : Built) (c : List ℕ) (n : ℕ) : Type 0 where
  pub running : IsRunning b c
  pub wants : next_of b.walk ≡ next.Wants (form.ByteArray n)
  pub closed : b.run ≡ None

-- what is known of a decoder that waits for an array of u8 is known of its fields
pub at_array : (b : Built) (c : List ℕ) (n : ℕ) (s : Running) →
    record { built = b; carry = c } ≡ s → IsRunning b c →
    next_of s.built.walk ≡ next.Wants (form.ByteArray n) → s.built.run ≡ None → AtArray b c n
at_array b c n s is h wants closed = record {
  running = h;
  wants = subst (λ (x : Running). next_of x.built.walk ≡ next.Wants (form.ByteArray n)) (sym is)
      wants;
  closed =
      subst (λ (x : Running). x.built.run ≡ None) (sym is) closed;
}

-- a decoder that waits for an array of u8 carries no byte
none_carried : (b : Built) (c : List ℕ) (n : ℕ) → AtArray b c n → c ≡ []
none_carried b c n a = carry_none b c (form.ByteArray n) a.running.carried a.wants (λ no. no)

-- a decoder that waits for an array of u8, of which no byte came, holds nothing
none_held : (b : Built) (c : List ℕ) (n : ℕ) → AtArray b c n →
    held_of (record { built = b; carry = c }) ≡ []
none_held b c n a = held_closed b c a.closed ∙ none_carried b c n a

-- it waits for its first byte
pub array_waits : (b : Built) (c : List ℕ) (n : ℕ) → IsCarry b c →
    next_of b.walk ≡ next.Wants (form.ByteArray n) → b.run ≡ None → 1 ≤ n →
    WantsBytes (record { built = b; carry = c })
array_waits b c n carried wants closed some =
    let held : held_of (record { built = b; carry = c }) ≡ [] = held_closed b c closed
    ∙ carry_none b c (form.ByteArray n) carried wants (λ no. no) in
    record {
      form = form.ByteArray n;
      next = wants;
      left = [];
      short = ap (own_at (next_layout b)) held
          ∙ ap (λ (f : Layout). own_at f []) (next_run b (kind.ByteArray n) wants)
          ∙ run_missing (kind.ByteArray n) n [] (byte_array_length n) (omega (arith, some)) tt;
    }

-- to open it changes nothing of what the bytes say
pub array_piece : (b : Built) (c : List ℕ) (n : ℕ) (new : Running) (piece : List ℕ)
    (result : Turned) → AtArray b c n →
    PieceReports (record { built = with_run_opened b (kind.ByteArray n) n; carry = c }) new piece
    result → StepReports (record { built = b; carry = c }) new piece result
array_piece b c n new piece (Ok m) a h = (
  h.0,
  record { types = h.1.types; limit = h.1.limit; ty = h.1.ty },
  inl (
    h.2,
    h.3,
    h.4 ∙ ap (λ (l : List ℕ). l ++ take m piece) (sym (none_held b c n a)),
  ),
)
array_piece b c n new piece (Err stop.Finished) a h = absurd h
array_piece b c n new piece (Err stop.Wants) a h = absurd h
array_piece b c n new piece (Err (stop.Refused held reason at len)) a h = absurd h
array_piece b c n new piece (Err (stop.OutOfMemory _)) a h = record {
  form = h.form;
  next = h.next;
  bytes = h.bytes;
  later = h.later;
  is = h.is;
  keeps = by h.keeps;
} where
  s : Running
  s = record { built = b; carry = c }

  opened : Running
  opened = record { built = with_run_opened b (kind.ByteArray n) n; carry = c }

  by : KeepsNode opened h.bytes ⊎ KeepsRun opened h.bytes → KeepsNode s h.bytes ⊎ KeepsRun s h.bytes
  by (inl k) = inl (
    k.0,
    ap (λ (l : List ℕ). own_at (next_layout b) (l ++ h.bytes)) (none_held b c n a) ∙ k.1,
  )
  by (inr k) = inr (
    k.0,
    k.1,
    k.2,
    (
      k.3.0,
      k.3.1,
      ap (λ (l : List ℕ). run_length_at k.0 (l ++ h.bytes)) (none_held b c n a) ∙ k.3.2,
      k.3.3,
      k.3.4,
    ),
  )
