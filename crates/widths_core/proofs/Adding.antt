-- Counters and references that are added for rules.
use Rattle.std.proofs.Common.{◌≡◌, ℕ, suc, ◌+◌, ◌-◌, List, [], ◌∷◌, ◌++◌, length, map, drop, false}
use Rattle.std.proofs.Common.{refl, sym, ap, ◌∙◌, arith}
use Rattle.std.proofs.lemmas.List.{append_assoc, append-nil, map-append, length-append, length-map}
use Rattle.std.proofs.lemmas.List.{take_all}
use Rattle.std.proofs.lemmas.Grind.{flat_map-append}
use Rattle.graph_core.specs.declared.graph.Graph.{Graph}
use Rattle.widths_core.specs.declared.counter.Counter.{Counter}
use Rattle.widths_core.specs.declared.counter.Kind.{Kind}
use Rattle.widths_core.specs.Rules.{Rule, rule, counter_of, all_parts, numbers_from}
use Rattle.graph_core.specs.Cursors.{parts_left}
use Rattle.graph_core.specs.Graphs.{refs, BeginsArm, IsLinked}
use Rattle.widths_core.specs.Linking.{AddsRules}
use Rattle.widths_core.specs.Steps.{AreParts}
use Rattle.graph_core.proofs.Linked.{reads_none, reads_on, reads_begun, ReadsParts, parts_all}

-- ---- rules that are added

-- the rule numbers of the parts of two lists joined are those of the first and then of the second
pub numbers_from-append : (s : ℕ) (xs ys : List Rule) →
    numbers_from s (xs ++ ys) ≡ numbers_from s xs ++ numbers_from (s + length xs) ys
numbers_from-append s [] ys = ap (λ (k : ℕ). numbers_from k ys) (omega arith)
numbers_from-append s (x ∷ xs) ys =
    let step : s + 1 + length xs ≡ s + suc (length xs) = omega arith in
    ap (λ (zs : List ℕ). map (λ _. s) x.parts ++ zs)
    (numbers_from-append (s + 1) xs ys
    ∙ ap (λ (k : ℕ). numbers_from (s + 1) xs ++ numbers_from k ys) step)
    ∙ sym (append_assoc (map (λ _. s) x.parts) (numbers_from (s + 1) xs)
    (numbers_from (s + suc (length xs)) ys))

-- no rule is added where neither the counters nor the graph change
pub adds_none : (cs : List Counter) (a : Graph) → IsLinked a → AddsRules [] cs cs a a
adds_none cs a h = record { counters = sym (append-nil cs); reads = reads_none a h }

-- rules that are added one list after the other are added as one list
pub adds_on : (xs ys : List Rule) (cs ds es : List Counter) (a b c : Graph) →
    AddsRules xs cs ds a b → AddsRules ys ds es b c → AddsRules (xs ++ ys) cs es a c
adds_on xs ys cs ds es a b c h k =
    let len : length ds ≡ length cs + length xs = ap length h.counters
    ∙ length-append cs (map counter_of xs)
    ∙ ap (λ (n : ℕ). length cs + n) (length-map xs counter_of) in
    let ns : numbers_from (length cs) (xs ++ ys) ≡ numbers_from (length cs)
    xs ++ numbers_from (length ds) ys = numbers_from-append (length cs) xs ys
    ∙ ap (λ (n : ℕ). numbers_from (length cs) xs ++ numbers_from n ys) (sym len) in
    let ps : all_parts (xs ++ ys) ≡ all_parts xs ++ all_parts ys =
    flat_map-append (λ (x : Rule). x.parts) xs ys in
    record {
      counters = k.counters ∙ ap (λ (zs : List Counter). zs ++ map counter_of ys) h.counters
          ∙ append_assoc cs (map counter_of xs) (map counter_of ys)
          ∙ ap (λ (zs : List Counter). cs ++ zs) (sym (map-append counter_of xs ys));
      reads = rw (ns, ps) (reads_on a b c (all_parts xs) (all_parts ys)
          (numbers_from (length cs) xs) (numbers_from (length ds) ys) h.reads k.reads);
    }

-- rules that are added after an arm was begun are added from before it
pub adds_begun : (xs : List Rule) (cs ds : List Counter) (a b c : Graph) (index count : ℕ) →
    IsLinked a → BeginsArm a b index count → AddsRules xs cs ds b c → AddsRules xs cs ds a c
adds_begun xs cs ds a b c index count h k adds =
    adds_on [] xs cs cs ds a b c (record {
      counters = sym (append-nil cs);
      reads = reads_begun a b index count h k;
    }) adds

-- ---- parts that were read together

-- the references that were read as parts were added with a rule of them
pub parts_added : (t : ℕ) (κ : Kind) (cs ds : List Counter) (a b : Graph) (s i n : ℕ) →
    ReadsParts a b s i → i ≡ length (parts_left a) → n ≡ length (parts_left a) → s ≡ length cs →
    ds ≡ cs ++ record { owner = t; kind = κ; left = n; sized = false } ∷ [] →
    AddsRules (rule t κ (parts_left a) ∷ []) cs ds a b
parts_added t κ cs ds a b s i n h e m k is =
    let all = parts_all a b s i h e in
    let parts : all_parts (rule t κ (parts_left a) ∷ []) ≡ parts_left a =
    append-nil (parts_left a) in
    let numbers : numbers_from (length cs) (rule t κ (parts_left a) ∷ [])
    ≡ map (λ _. s) (parts_left a) = append-nil (map (λ _. length cs) (parts_left a))
    ∙ ap (λ (j : ℕ). map (λ _. j) (parts_left a)) (sym k) in
    record { counters = rw (← m) is; reads = rw (parts, numbers) all.reads }

-- a list after another starts where that ends
drop_front : (xs ys : List ℕ) → drop (length xs) (xs ++ ys) ≡ ys
drop_front [] ys = refl
drop_front (x ∷ xs) ys = drop_front xs ys

-- the references that were read are there among all
pub parts_there : (a b : Graph) (s i from to : ℕ) → ReadsParts a b s i →
    i ≡ length (parts_left a) → from ≡ length (refs a) → to ≡ length (refs b) →
    AreParts (refs b) from (to - from) (parts_left a)
parts_there a b s i from to h e first last =
    let all = parts_all a b s i h e in
    let read : refs b ≡ refs a ++ parts_left a = all.reads.on.read in
    let len : length (refs b) ≡ length (refs a) + length (parts_left a) =
    ap length read ∙ length-append (refs a) (parts_left a) in
    let count : to - from ≡ length (parts_left a) = omega (arith, first, last, len) in
    record {
      within = omega (arith, first, last, len);
      are = rw (count, first, read, drop_front (refs a) (parts_left a))
          (take_all (length (parts_left a)) (parts_left a) (omega arith));
    }
