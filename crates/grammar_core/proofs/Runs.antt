-- Runs of bytes: what is spelled is read, and what is read is spelled.
use Rattle.std.proofs.Common.{◌≡◌, ℕ, true, List, [], ◌++◌, length, take, drop, Option, Some, None}
use Rattle.std.proofs.Common.{Bool, cond, false, ◌≤◌, Ok, Err, refl, append_assoc, sym, ◌∙◌, ap}
use Rattle.std.proofs.Common.{arith, inl, inr, ◌-◌}
use Rattle.std.specs.Str.{is_utf8}
use Rattle.std.specs.Str.Lossy.{utf8_valid_len}
use Rattle.std.proofs.lemmas.Bool.{cases_lt, lt-ltb}
use Rattle.std.proofs.Math.Seq.{take-append-add}
use Rattle.std.proofs.lemmas.List.{append-nil, drop-append-le, length-take}
use Rattle.std.proofs.lemmas.List.{take-append-le, take_all}
use Rattle.std.specs.Prelude.{nat_lt}
use Rattle.scale_core.specs.Read.{Read, ◌>>=◌, bytes_at}
use Rattle.scale_core.specs.declared.compact.Target.TheVariants as target
use Rattle.scale_core.specs.declared.fault.Reason.{Reason}
use Rattle.scale_core.specs.declared.fault.Reason.TheVariants as reason
use Rattle.scale_core.proofs.Again.{bytes_again, compact_again}
use Rattle.scale_core.proofs.Results.{Takes, bind_takes, bytes_takes, compact_takes, cond_takes}
use Rattle.scale_core.proofs.Results.{Extends, bind_extends, bytes_extends, compact_extends}
use Rattle.scale_core.proofs.Results.{judged_extends, mapped}
use Rattle.types_core.specs.Bits.{bits_bytes, first_unused}
use Rattle.types_core.specs.declared.bits.BitForm.{BitForm}
use Rattle.types_core.proofs.BitWords.{unused_more, unused_within}
use Rattle.widths_core.specs.RunBytes.{run_bytes}
use Rattle.widths_core.specs.declared.run_kind.RunKind.{RunKind}
use Rattle.widths_core.specs.declared.run_kind.RunKind.TheVariants as kind
use Rattle.grammar_core.specs.Runs.{IsRunLength, IsRun, SpellsRun, run_front, run_length_at}
use Rattle.grammar_core.specs.Runs.{body_at, run_judged, run_at, words_at}

-- ---- what is read is spelled

-- the length of a run that is read stood on the front of the input
pub length_takes : (k : RunKind) (b : List ℕ) → Takes (IsRunLength k) b (run_length_at k b)
length_takes (kind.ByteArray n) b = ([], refl, (refl, refl))
length_takes kind.Text b = compact_takes target.U32 b
length_takes kind.Bytes b = compact_takes target.U32 b
length_takes (kind.Bits f) b = compact_takes target.U32 b

-- the length before a run has one spelling
pub length_is : (k : RunKind) (n : ℕ) (c : List ℕ) → IsRunLength k n c → c ≡ run_front k n
length_is kind.Text n c h = h.1
length_is kind.Bytes n c h = h.1
length_is (kind.ByteArray m) n c h = h.1
length_is (kind.Bits f) n c h = h.1

-- these are the bytes of a run of this length
abbrev pub IsBody : RunKind → ℕ → List ℕ → List ℕ → Type 0
IsBody k n s d = (d ≡ s) × (length s ≡ run_bytes k n) × IsRun k n s

-- bytes that are read and judged to be a run are one of this kind
judged_takes : (k : RunKind) (n m : ℕ) (b : List ℕ) → run_bytes k n ≡ m →
    ((s : List ℕ × List ℕ) → Takes (λ x d. (d ≡ []) × (x ≡ s.0) × IsRun k n x) s.1
    (run_judged k b s)) →
    Takes (IsBody k n) b (bytes_at m b >>= λ s. run_judged k b s)
judged_takes k n m b len judged =
    bind_takes (λ x d. (d ≡ x) × (length d ≡ m)) (IsBody k n) b (bytes_at m b) _ (bytes_takes m b)
    (λ s d at. mapped _ (λ x e. IsBody k n x (d ++ e)) s.1 (run_judged k b s) (judged s)
    (λ x e is. (
      rw (is.0, append-nil, is.1) at.0,
      rw is.1 (ap length (sym at.0) ∙ at.1 ∙ sym len),
      is.2,
    )))

-- the next k bytes are the first ones
bytes_front : (k : ℕ) (b : List ℕ) (x : List ℕ × List ℕ) → bytes_at k b ≡ Ok x → x.0 ≡ take k b
bytes_front k b x is = go (nat_lt (length b) k) is where
  go : (t : Bool) →
      cond {A = Read Reason (List ℕ)} t (Err (reason.Truncated, [])) (Ok (take k b, drop k b))
      ≡ Ok x → x.0 ≡ take k b
  go true h = absurd cc
  go false h = let same : x ≡ (take k b, drop k b) = cc in ap (λ p. p.0) same

-- the bytes of a run that are read stood on the front of the input
body_takes : (k : RunKind) (n : ℕ) (b : List ℕ) → Takes (IsBody k n) b (body_at k n b)
unfolding body_at
body_takes kind.Text n b = judged_takes kind.Text n n b refl (λ s.
    cond_takes (λ x d. (d ≡ []) × (x ≡ s.0) × (is_utf8 x ≡ true)) s.1 (is_utf8 s.0) (Ok s)
    (Err (reason.BadUtf8, drop (utf8_valid_len s.0) b))
    (λ valid. ([], refl, (refl, refl, valid))) (λ no. tt))
body_takes kind.Bytes n b =
    judged_takes kind.Bytes n n b refl (λ s. ([], refl, (refl, refl, tt)))
body_takes (kind.ByteArray m) n b =
    judged_takes (kind.ByteArray m) n n b refl (λ s. ([], refl, (refl, refl, tt)))
body_takes (kind.Bits f) n b = go (first_unused f n 0 (take (bits_bytes f n) b)) refl where
  go : (o : Option ℕ) → first_unused f n 0 (take (bits_bytes f n) b) ≡ o →
      Takes (IsBody (kind.Bits f) n) b (words_at o (bits_bytes f n) b)
  go (Some i) e = tt
  go None e = words (bytes_at (bits_bytes f n) b) (bytes_takes (bits_bytes f n) b)
      (bytes_front (bits_bytes f n) b) where
        words : (read : Read Reason (List ℕ)) →
            Takes (λ x d. (d ≡ x) × (length d ≡ bits_bytes f n)) b read →
            ((x : List ℕ × List ℕ) → read ≡ Ok x → x.0 ≡ take (bits_bytes f n) b) →
            Takes (IsBody (kind.Bits f) n) b read
        words (Err r) h front = tt
        words (Ok x) h front = (
          h.0,
          h.1,
          (h.2.0, rw (← h.2.0) h.2.1, ap (first_unused f n 0) (front x refl) ∙ e),
        )

-- a run that is read stood on the front of the input, in its spelling
pub run_takes : (k : RunKind) (b : List ℕ) → Takes (λ x c. SpellsRun k x.0 x.1 c) b (run_at k b)
unfolding run_at
run_takes k b = bind_takes (IsRunLength k) (λ x c. SpellsRun k x.0 x.1 c) b (run_length_at k b) _
    (length_takes k b) (λ n c is.
    bind_takes (IsBody k n.0) (λ x d. SpellsRun k x.0 x.1 (c ++ d)) n.1 (body_at k n.0 n.1) _
    (body_takes k n.0 n.1) (λ s d at.
    ([], refl, (c, is, at.1, at.2, ap (λ x. c ++ x) (append-nil d ∙ at.0)))))

-- ---- more bytes after it

-- bytes after a length that is read, and after one that is refused, change nothing of it
pub length_extends : (k : RunKind) (b more : List ℕ) →
    Extends reason.Truncated more (run_length_at k b) (run_length_at k (b ++ more))
length_extends kind.Text b more = compact_extends target.U32 b more
length_extends kind.Bytes b more = compact_extends target.U32 b more
length_extends (kind.ByteArray n) b more = refl
length_extends (kind.Bits f) b more = compact_extends target.U32 b more

-- bytes that are judged alike whatever they are, are read so from a longer input, unless cut
plain_extends : (k : RunKind) (n : ℕ) (b more : List ℕ) →
    ((from : List ℕ) (s : List ℕ × List ℕ) → run_judged k from s ≡ Ok s) →
    Extends reason.Truncated more (bytes_at n b >>= λ s. run_judged k b s)
    (bytes_at n (b ++ more) >>= λ s. run_judged k (b ++ more) s)
plain_extends k n b more plain =
    bind_extends reason.Truncated more (bytes_at n b) (bytes_at n (b ++ more)) _ _
    (bytes_extends n b more)
    (λ s. rw (plain b s, plain (b ++ more) (s.0, s.1 ++ more)) refl)

-- the first bytes of a longer input, if the shorter one has no more of them, begin with that
longer_front : (k : ℕ) (b more : List ℕ) → length b ≤ k →
    take k (b ++ more) ≡ b ++ take (k - length b) more
longer_front k b more le =
    ap (λ (i : ℕ). take i (b ++ more)) (omega (arith, le)) ∙ take-append-add b more (k - length b)

-- an unused bit of 1 among the first bytes is there in a longer input too
unused_longer : (f : BitForm) (n k : ℕ) (b more : List ℕ) (i : ℕ) →
    first_unused f n 0 (take k b) ≡ Some i → first_unused f n 0 (take k (b ++ more)) ≡ Some i
unused_longer f n k b more i e = elim (cases_lt (length b) k) [
  | inl lt ↦ rw (longer_front k b more (omega (arith, lt)))
      (unused_more f n 0 b (take (k - length b) more) i
      (ap (first_unused f n 0) (sym (take_all k b (omega (arith, lt)))) ∙ e))
  | inr le ↦ rw (take-append-le k b more le) e
]

-- the bytes of a run are read, or refused other than for a cut, alike from a longer input
pub body_extends : (k : RunKind) (n : ℕ) (b more : List ℕ) →
    Extends reason.Truncated more (body_at k n b) (body_at k n (b ++ more))
unfolding body_at
body_extends kind.Text n b more = judged_extends n b more
body_extends kind.Bytes n b more = plain_extends kind.Bytes n b more (λ from s. refl)
body_extends (kind.ByteArray m) n b more =
    plain_extends (kind.ByteArray m) n b more (λ from s. refl)
body_extends (kind.Bits f) n b more =
    go (first_unused f n 0 (take (bits_bytes f n) b)) refl where
      go : (o : Option ℕ) → first_unused f n 0 (take (bits_bytes f n) b) ≡ o →
          Extends reason.Truncated more (words_at o (bits_bytes f n) b)
          (words_at (first_unused f n 0 (take (bits_bytes f n) (b ++ more))) (bits_bytes f n)
          (b ++ more))
      go (Some i) e = let within = unused_within f n 0 (take (bits_bytes f n) b) i e in
          λ ne. rw (
            unused_longer f n (bits_bytes f n) b more i e,
            drop-append-le i b more (omega (arith, within, length-take (bits_bytes f n) b)),
          ) refl
      go None e = elim (cases_lt (length b) (bits_bytes f n)) [
        | inl lt ↦ rw (lt-ltb (length b) (bits_bytes f n) lt) (λ ne. absurd (ne refl))
        | inr le ↦ rw (take-append-le (bits_bytes f n) b more le, e)
            (bytes_extends (bits_bytes f n) b more)
      ]

-- a run is read, or refused other than for a cut, in the same way from a longer input
pub run_extends : (k : RunKind) (b more : List ℕ) →
    Extends reason.Truncated more (run_at k b) (run_at k (b ++ more))
unfolding run_at
run_extends k b more = bind_extends reason.Truncated more (run_length_at k b)
    (run_length_at k (b ++ more)) _ _ (length_extends k b more) (λ n.
    bind_extends reason.Truncated more (body_at k n.0 n.1) (body_at k n.0 (n.1 ++ more)) _ _
    (body_extends k n.0 n.1 more) (λ s. refl))

-- ---- what is spelled is read

-- the length of a run that is spelled is read, whatever follows
pub length_again : (k : RunKind) (n : ℕ) (c rest : List ℕ) → IsRunLength k n c →
    run_length_at k (c ++ rest) ≡ Ok (n, rest)
length_again kind.Text n c rest h = compact_again target.U32 n c rest h
length_again kind.Bytes n c rest h = compact_again target.U32 n c rest h
length_again (kind.ByteArray k) n c rest h = rw (h.0, h.1) refl
length_again (kind.Bits f) n c rest h = compact_again target.U32 n c rest h

-- bytes that are a run of this kind are read as one, whatever follows
pub body_again : (k : RunKind) (n : ℕ) (s rest : List ℕ) → length s ≡ run_bytes k n →
    IsRun k n s → body_at k n (s ++ rest) ≡ Ok (s, rest)
unfolding body_at
body_again kind.Text n s rest len h = rw (bytes_again n s rest len, h) refl
body_again kind.Bytes n s rest len h = rw (bytes_again n s rest len) refl
body_again (kind.ByteArray m) n s rest len h = rw (bytes_again n s rest len) refl
body_again (kind.Bits f) n s rest len h = rw (
  take-append-le (bits_bytes f n) s rest (omega (arith, len)),
  take_all (bits_bytes f n) s (omega (arith, len)),
  h,
) (bytes_again (bits_bytes f n) s rest len)

-- a run that is spelled is read, whatever follows
pub run_again : (k : RunKind) (n : ℕ) (s b rest : List ℕ) → SpellsRun k n s b →
    run_at k (b ++ rest) ≡ Ok ((n, s), rest)
unfolding run_at
run_again k n s b rest h = rw (
  h.4,
  append_assoc,
  length_again k n h.0 (s ++ rest) h.1,
  body_again k n s rest h.2 h.3,
) refl
