-- Where linking stops: the first reference that is no position, and what was looked at until then.
use Rattle.std.proofs.Common.{◌≡◌, ℕ, ◌+◌, ◌<◌, List, [], ◌∷◌, ◌++◌, length, get_or, drop, flat_map}
use Rattle.std.proofs.Common.{Result, Ok, Err, sym, ap, ◌∙◌}
use Rattle.std.specs.Prelude.{IfErr}
use Rattle.std.proofs.lemmas.List.{append-nil, at_drop_more}
use Rattle.std.proofs.lemmas.Grind.{flat_map-append}
use Rattle.types_core.specs.declared.definition.Arm.{Arm}
use Rattle.graph_core.specs.declared.graph.Graph.{Graph}
use Rattle.widths_core.specs.declared.counter.Kind.{Kind}
use Rattle.widths_core.specs.declared.counter.Counter.{Counter}
use Rattle.graph_core.specs.declared.link_stop.LinkStop.{LinkStop}
use Rattle.graph_core.specs.Types.{field_types}
use Rattle.widths_core.specs.Rules.{Rule, rule, arm_rules, all_parts}
use Rattle.graph_core.specs.Graphs.{BeginsArm, ReadsReferences}
use Rattle.graph_core.specs.Stops.{IsShort, StopsBetween, StopsLinking}
use Rattle.graph_core.specs.declared.link_stop.LinkStop.TheVariants as stop
use Rattle.graph_core.proofs.Linked.{reads_begun, reads_on}
use Rattle.widths_core.proofs.PartsOf.{parts_of_arms}
use Rattle.graph_core.proofs.Stopped.{stops_after, stops_read}
use Rattle.widths_core.proofs.ArmRules.{AddsArms}

-- at a field of one of these arms
pub stops_arms : (t i : ℕ) (k : Kind) (arms : List Arm) (x : Arm) (cs ds : List Counter)
    (a b m c : Graph) (index count : ℕ) (o : LinkStop) → i < length arms → x ≡ get_or arms i x →
    AddsArms t i arms cs ds a b → BeginsArm b m index count →
    StopsLinking (all_parts (rule t k (field_types x.fields) ∷ [])) m c o →
    StopsLinking (all_parts (arm_rules t [] arms)) a c o
stops_arms t i k arms x cs ds a b m c index count o lt at h begins stopped =
    let rest = flat_map (λ (y : Arm). field_types y.fields) (drop (i + 1) arms) in
    let joined : all_parts (arm_rules t [] arms)
    ≡ all_parts h.done ++ all_parts (arm_rules t h.seen (drop i arms)) = ap all_parts h.left
    ∙ flat_map-append (λ (y : Rule). y.parts) h.done (arm_rules t h.seen (drop i arms)) in
    let left : all_parts (arm_rules t h.seen (drop i arms)) ≡ field_types x.fields ++ rest =
    parts_of_arms t h.seen (drop i arms)
    ∙ at_drop_more (flat_map (λ (y : Arm). field_types y.fields)) arms i x lt
    ∙ ap (λ (y : Arm). field_types y.fields ++ rest) (sym at) in
    let stops : StopsLinking (field_types x.fields ++ []) b c o =
    stops_after [] (field_types x.fields ++ []) [] (field_types x.fields ++ []) [] b m c o
    (sym (append-nil (field_types x.fields ++ [])))
    (reads_begun b m index count h.adds.reads.linked begins) stopped in
    let next : field_types x.fields ++ rest ≡ (field_types x.fields ++ []) ++ rest =
    ap (λ (ws : List ℕ). ws ++ rest) (sym (append-nil (field_types x.fields))) in
    stops_after (all_parts h.done) (field_types x.fields ++ []) rest
    (all_parts (arm_rules t [] arms)) _ a b c o
    (joined ∙ ap (λ (ws : List ℕ). all_parts h.done ++ ws) (left ∙ next)) h.adds.reads stops

-- where an allocation fails after the fields of an arm were read
pub stops_memory_after : (a b m c : Graph) (xs ks ys ls : List ℕ) (index count : ℕ) →
    ReadsReferences a b xs ks → BeginsArm b m index count → ReadsReferences m c ys ls →
    StopsBetween a c
stops_memory_after a b m c xs ks ys ls index count h begins k =
    stops_read a c (xs ++ ([] ++ ys)) (ks ++ ([] ++ ls)) (reads_on a b c xs ([] ++ ys) ks ([] ++ ls)
    h (reads_on b m c [] ys [] ls (reads_begun b m index count h.linked begins) k))

-- a stop at no reference may come after any of them
stops_short : (s : LinkStop) (tos : List ℕ) (a b : Graph) → IsShort s → StopsBetween a b →
    StopsLinking tos a b s
stops_short (stop.Memory _) tos a b short h = h
stops_short (stop.TooMany _) tos a b short h = h
stops_short (stop.Unknown u) tos a b short h = absurd short

-- where a stop at no reference is answered
pub stops_short_is : {X : Type 0} (o : Result X LinkStop) (s : LinkStop) (tos : List ℕ)
    (a b : Graph) → o ≡ Err s → IsShort s → StopsBetween a b → IfErr o (StopsLinking tos a b)
stops_short_is (Ok x) s tos a b e short h = absurd cc
stops_short_is (Err o) s tos a b e short h =
    let is : o ≡ s = cc in rw is (stops_short s tos a b short h)
