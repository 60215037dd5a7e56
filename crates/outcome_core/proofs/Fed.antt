-- What a state that bytes led to reports of them: where the reading ends there, that is the
-- outcome.
use Rattle.std.proofs.Common.{◌≡◌, ℕ, suc, ◌+◌, ◌-◌, ◌<◌, ◌≤◌, List, [], ◌++◌, length, take, drop}
use Rattle.std.proofs.Common.{Ok, Err, refl, sym, ap, ◌∙◌, append_assoc, arith, inl, inr}
use Rattle.std.proofs.Common.{length-append, length-drop}
use Rattle.std.specs.Prelude.{◌≢◌}
use Rattle.std.proofs.lemmas.Bool.{cases_lt}
use Rattle.std.proofs.lemmas.List.{append-nil, length-take}
use Rattle.std.proofs.Math.Seq.{take-append-add}
use Rattle.scale_core.specs.Read.{Read, place}
use Rattle.types_core.specs.declared.type_info.TypeInfo.{TypeInfo}
use Rattle.grammar_core.specs.Tree.{Tree}
use Rattle.grammar_core.specs.Preorder.{preorder, tree_of, tree_of-preorder}
use Rattle.grammar_core.specs.Reading.{value_at, Refusal, truncated}
use Rattle.grammar_core.proofs.Proved.{read_is_value}
use Rattle.outcome_core.specs.Outcome.{done, refused, Query}
use Rattle.outcome_core.specs.Outcome.{FailsAt, IsOutcome}
use Rattle.grammar_core.specs.Preorder.{Entry}
use Rattle.outcome_core.specs.Reported.{shown, Ending, Fault, Reported, reported, added, ending}
use Rattle.outcome_core.specs.Reported.{after, then}
use Rattle.outcome_core.specs.Reported.{times_reported, reported_at, rest_reported, Agrees}
use Rattle.outcome_core.specs.Machine.{State, remain, start}
use Rattle.outcome_core.proofs.Reports.{after-nil, then-end, reported_agrees}
use Rattle.outcome_core.specs.Machine.{TurnsLead}
use Rattle.outcome_core.specs.Decided.{Decided}

-- what a fresh state will add of bytes is what reading a value of them reports
start_reported : (r : List TypeInfo) (depth t : ℕ) (b : List ℕ) →
    remain r (start depth t) b ≡ reported_at r (suc depth) t b
unfolding rest_reported
start_reported r depth t b =
    then-end (then (reported_at r (suc depth) t b) (times_reported (reported_at r (suc depth)) 0 t))
    ∙ then-end (reported_at r (suc depth) t b)

-- the bytes that led here, and those that follow
pub whole_reported : (r : List TypeInfo) (depth t : ℕ) (s : State) (own rest : List ℕ) →
    TurnsLead r (start depth t) s own →
    reported_at r (suc depth) t (own ++ rest) ≡ after s.nodes (remain r s rest)
whole_reported r depth t s own rest h = sym (start_reported r depth t (own ++ rest))
    ∙ sym (after-nil (remain r (start depth t) (own ++ rest))) ∙ h.reports rest

-- an ending has one fault
pair_is : (x y : Fault) (end : Ending) → end ≡ Err x → end ≡ Err y → x ≡ y
pair_is x y end h k = let both = sym h ∙ k in cc

-- an ending has one fault, wherever the node that is refused begins
err_is : (x y : Refusal × List ℕ) (n m : List ℕ) (end : Ending) → end ≡ Err (x, n) →
    end ≡ Err (y, m) → x ≡ y
err_is x y n m end h k = ap (λ (p : Fault). p.0) (pair_is (x, n) (y, m) end h k)

-- where reading node by node ends in a fault, reading the value whole ends in the same
fault_of : (read : Read Refusal Tree) (y : Reported) (xs : List Entry) (e : Refusal × List ℕ)
    (met : List ℕ) → Agrees read y → y ≡ reported xs (Err (e, met)) → read ≡ Err e
fault_of (Ok x) y xs e met h is = let both = sym h.1 ∙ ap ending is in absurd cc
fault_of (Err x) y xs e met h is =
    ap (λ (z : Refusal × List ℕ). Err z) (err_is x e h.0 met (ending y) h.1 (ap ending is))

-- the same for a value of a type with its room
pub fault_value : (r : List TypeInfo) (room t : ℕ) (b : List ℕ) (xs : List Entry) (e : Refusal)
    (left met : List ℕ) → reported_at r room t b ≡ reported xs (Err ((e, left), met)) →
    value_at r room t b ≡ Err (e, left)
fault_value r room t b xs e left met is =
    fault_of (value_at r room t b) (reported_at r room t b) xs (
      e,
      left,
    ) met (reported_agrees r room t b) is

-- an ending that is no fault leaves one list of bytes
ok_is : (x y : List ℕ) (end : Ending) → end ≡ Ok x → end ≡ Ok y → x ≡ y
ok_is x y end h k = let both = sym h ∙ k in cc

-- where reading node by node ends well, the value is read of which these are the nodes
pub value_of : (read : Read Refusal Tree) (y : Reported) (xs : List Entry) (rest : List ℕ) →
    Agrees read y → y ≡ reported xs (Ok rest) → (v : Tree) × (read ≡ Ok (v, rest))
    × (shown xs ≡ preorder v)
value_of (Err x) y xs rest h is = let both = sym h.1 ∙ ap ending is in absurd cc
value_of (Ok x) y xs rest h is = (
  x.0,
  ap (λ (z : List ℕ). Ok (x.0, z)) (ok_is x.1 rest (ending y) h.1 (ap ending is)),
  sym (ap (λ (z : Reported). shown (added z)) is) ∙ h.0,
)

-- where a run stands in the input
pub record Here (j : Query) (input : List ℕ) (s : State) (rest : List ℕ) : Type 0 where
  pub own : List ℕ
  pub led : TurnsLead j.registry (start j.depth j.ty) s own
  pub is : take j.bytes input ≡ own ++ rest

-- where bytes led to a state that wants nothing, the outcome is the value of its nodes
pub done_here : (j : Query) (input : List ℕ) (s : State) (rest : List ℕ) (m : ℕ) →
    Here j input s rest → remain j.registry s rest ≡ reported [] (Ok rest) →
    m ≡ length (take j.bytes input) →
    IsOutcome j input (done (tree_of (shown s.nodes))) (m - length rest)
done_here j input s rest m h k len =
    let all : reported_at j.registry (suc j.depth) j.ty (h.own ++ rest)
    ≡ reported s.nodes (Ok rest) =
    whole_reported j.registry j.depth j.ty s h.own rest h.led ∙ ap (after s.nodes) k
    ∙ ap (λ (xs : List Entry). reported xs (Ok rest)) (append-nil s.nodes) in
    let v = value_of (value_at j.registry (suc j.depth) j.ty (h.own ++ rest))
    (reported_at j.registry (suc j.depth) j.ty (h.own ++ rest)) s.nodes rest
    (reported_agrees j.registry (suc j.depth) j.ty (h.own ++ rest)) all in
    let tree : v.0 ≡ tree_of (shown s.nodes) = sym (ap tree_of v.2 ∙ tree_of-preorder v.0) in
    let st = read_is_value j.registry (suc j.depth) j.ty (h.own ++ rest) v.0 rest v.1 in
    rw (← tree) (
      st.0,
      rest,
      h.is ∙ st.1,
      st.2,
      st.3,
      omega (arith, len, ap length h.is, ap length st.1, length-append st.0 rest),
    )

-- where a state fails on bytes, those that led to it and these fail so as a value
fault_here : (j : Query) (input : List ℕ) (s : State) (rest new : List ℕ) (e : Refusal)
    (left : List ℕ) (h : Here j input s rest) →
    remain j.registry s new ≡ reported [] (Err ((e, left), new)) →
    value_at j.registry (suc j.depth) j.ty (h.own ++ new) ≡ Err (e, left)
fault_here j input s rest new e left h k =
    fault_value j.registry (suc j.depth) j.ty (h.own ++ new) (s.nodes ++ []) e left new
    (whole_reported j.registry j.depth j.ty s h.own new h.led ∙ ap (after s.nodes) k)

-- where bytes led to a state that lacks some, the input within its limit lacks them
pub cut_here : (j : Query) (input : List ℕ) (s : State) (rest left : List ℕ) → Here j input s rest →
    remain j.registry s rest ≡ reported [] (Err ((truncated, left), rest)) → (at : ℕ)
    × FailsAt j truncated at (take j.bytes input)
cut_here j input s rest left h k = (
  place (take j.bytes input) left,
  (left, rw h.is (fault_here j input s rest rest truncated left h k), refl),
)

-- a reading that fails has one fault
reason_is : (x y : Refusal × List ℕ) (read : Read Refusal Tree) → read ≡ Err x → read ≡ Err y →
    x ≡ y
reason_is x y read h k = let both = sym h ∙ k in cc

-- where bytes led to a state that refuses the rest for good, the outcome is this refusal
pub refused_here : (j : Query) (input : List ℕ) (s : State) (rest : List ℕ) (m n : ℕ) (e : Refusal)
    (left : List ℕ) → (h : Here j input s rest) → m ≡ length (take j.bytes input) → e ≢ truncated →
    Decided j.registry s rest e left n →
    remain j.registry s rest ≡ reported [] (Err ((e, left), rest)) →
    IsOutcome j input (refused e (m - length left)) (m - length rest + n)
refused_here j input s rest m n e left h len ne d k =
    (ne, at_front, record { there = there; holds = holds; least = least }) where
      front : List ℕ
      front = take j.bytes input

      all : length front ≡ length h.own + length rest
      all = ap length h.is ∙ length-append h.own rest

      at_front : FailsAt j e (m - length left) front
      at_front = (left, rw h.is (fault_here j input s rest rest e left h k), rw len refl)

      count : m - length rest + n ≡ length h.own + n
      count = omega (arith, len, all)

      there : m - length rest + n ≤ length front
      there = omega (arith, count, all, d.within)

      parts : (i : ℕ) → take (length h.own + i) front ≡ h.own ++ take i rest
      parts i = ap (take (length h.own + i)) h.is ∙ take-append-add h.own rest i

      holds : FailsAt j e (m - length left) (take (m - length rest + n) front)
      holds = (
        d.back,
        ap (value_at j.registry (suc j.depth) j.ty) (ap (λ (i : ℕ). take i front) count ∙ parts n)
            ∙ fault_here j input s rest (take n rest) e d.back h d.holds,
        omega (
          arith,
          len,
          all,
          d.low,
          d.within,
          ap length d.is,
          length-append d.back (drop n rest),
          length-drop n rest,
          length-take (m - length rest + n) front,
          count,
        ),
      )

      least : (i : ℕ) → i < m - length rest + n → ¬ FailsAt j e (m - length left) (take i front)
      least i lt = elim (cases_lt i (length h.own)) [
        | inl low ↦ λ f. omega (arith, f.2, length-take i front, len, all, d.low)
        | inr ge ↦ λ f.
            let same : length h.own + (i - length h.own) ≡ i = omega arith in
            let cut = d.least (i - length h.own) (omega (arith, count)) in
            let short = ap (value_at j.registry (suc j.depth) j.ty)
            (ap (λ (i : ℕ). take i front) (sym same) ∙ parts (i - length h.own))
            ∙ fault_here j input s rest (take (i - length h.own) rest) truncated cut.0 h cut.1 in
            ne (ap (λ (p : Refusal × List ℕ). p.0)
            (reason_is (e, f.0) (truncated, cut.0)
            (value_at j.registry (suc j.depth) j.ty (take i front)) f.1 short))
      ]

-- one way after the other
pub led_on : (r : List TypeInfo) (s s' s'' : State) (c d : List ℕ) → TurnsLead r s s' c →
    TurnsLead r s' s'' d → TurnsLead r s s'' (c ++ d)
led_on r s s' s'' c d h k =
    record {
      reports = λ rest. ap (λ (b : List ℕ). after s.nodes (remain r s b))
          (append_assoc c d rest) ∙ h.reports (d ++ rest) ∙ k.reports rest;
      level = k.level ∙ h.level;
    }
