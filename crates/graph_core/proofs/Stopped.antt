-- Where the reading of references stops: the first that is no position.
use Rattle.std.proofs.Common.{◌≡◌, ℕ, ◌<◌, List, [], ◌∷◌, ◌++◌, length, map, Result, Ok, Err}
use Rattle.std.proofs.Common.{sym, ap, subst, ◌∙◌}
use Rattle.std.specs.Prelude.{IfErr}
use Rattle.std.specs.Result.{IsErrAnd}
use Rattle.std.specs.List.{AllByRecursion}
use Rattle.std.proofs.lemmas.List.{append_assoc, append-nil}
use Rattle.graph_core.specs.declared.graph.Graph.{Graph}
use Rattle.graph_core.specs.declared.link_stop.LinkStop.{LinkStop}
use Rattle.graph_core.specs.declared.link_stop.LinkStop.TheVariants as stop
use Rattle.graph_core.specs.References.{AreKnown}
use Rattle.graph_core.specs.Cursors.{parts_left}
use Rattle.graph_core.specs.Graphs.{refs, ReadsReferences}
use Rattle.graph_core.specs.Stops.{StopsLinking, StopsAt, StopsBetween}
use Rattle.graph_core.proofs.Linked.{ReadsParts, on_more}

-- what is handed on is why linking stopped
pub stop_kept : {X : Type 0} (r : Result X LinkStop) (o : LinkStop) (P : LinkStop → Type 0) →
    IsErrAnd r (λ s. s ≡ o) → P o → IfErr r P
stop_kept (Ok x) o P e h = absurd e
stop_kept (Err s) o P e h = subst P (sym e) h

-- ---- one reference

-- ---- references one after the other

-- what holds of each of two lists one after the other
pub all_front : {X : Type 0} (P : X → Type 0) (xs ys : List X) → AllByRecursion P (xs ++ ys) →
    AllByRecursion P xs × AllByRecursion P ys
all_front P [] ys h = (tt, h)
all_front P (x ∷ xs) ys h = let more = all_front P xs ys h.1 in ((h.0, more.0), more.1)

-- what holds of all in two lists holds of all in both joined
pub all_joined : {X : Type 0} (P : X → Type 0) (xs ys : List X) → AllByRecursion P xs →
    AllByRecursion P ys → AllByRecursion P (xs ++ ys)
all_joined P [] ys h k = k
all_joined P (x ∷ xs) ys h k = (h.0, all_joined P xs ys h.1 k)

-- those that were read before are known
pub read_known : (a b : Graph) (xs ks : List ℕ) → ReadsReferences a b xs ks →
    AreKnown (length a.registry) xs
read_known a b xs ks h =
    let known : AreKnown (length a.registry) (refs a ++ xs) =
    rw (h.on.types, h.on.read) at h.linked.known in
    (all_front (λ t. t < length a.registry) (refs a) xs known).1

-- after references were read memory may be refused
pub stops_read : (a b : Graph) (xs ks : List ℕ) → ReadsReferences a b xs ks → StopsBetween a b
stops_read a b xs ks h = record { front = xs; known = read_known a b xs ks h; on = h.on }

-- where references were read and the reading stopped after them, it stopped in all of them
stops_beyond : (xs ys zs tos ks : List ℕ) (a b c : Graph) (u : ℕ) → tos ≡ xs ++ (ys ++ zs) →
    ReadsReferences a b xs ks → StopsAt ys b c u → StopsAt tos a c u
stops_beyond xs ys zs tos ks a b c u e h k = record {
  front = xs ++ k.front;
  back = k.back ++ zs;
  tos_are = e ∙ ap (λ (ws : List ℕ). xs ++ (ws ++ zs)) k.tos_are
      ∙ ap (λ (ws : List ℕ). xs ++ ws) (append_assoc k.front (u ∷ k.back) zs)
      ∙ sym (append_assoc xs k.front (u ∷ (k.back ++ zs)));
  known = all_joined (λ t. t < length a.registry) xs k.front (read_known a b xs ks h)
      (rw h.on.types at k.known);
  unknown = rw h.on.types at k.unknown;
  on = rw (append_assoc xs k.front (u ∷ [])) (on_more a b c xs (k.front ++ u ∷ []) h.on k.on);
}

-- the same where an allocation failed
stops_later : (xs ks : List ℕ) (a b c : Graph) → ReadsReferences a b xs ks → StopsBetween b c →
    StopsBetween a c
stops_later xs ks a b c h k = record {
  front = xs ++ k.front;
  known = all_joined (λ t. t < length a.registry) xs k.front (read_known a b xs ks h)
      (rw h.on.types at k.known);
  on = on_more a b c xs k.front h.on k.on;
}

-- the same whatever the reason is
pub stops_after : (xs ys zs tos ks : List ℕ) (a b c : Graph) (o : LinkStop) →
    tos ≡ xs ++ (ys ++ zs) →
    ReadsReferences a b xs ks → StopsLinking ys b c o → StopsLinking tos a c o
stops_after xs ys zs tos ks a b c (stop.Memory _) e h k = stops_later xs ks a b c h k
stops_after xs ys zs tos ks a b c (stop.TooMany _) e h k = stops_later xs ks a b c h k
stops_after xs ys zs tos ks a b c (stop.Unknown u) e h k =
    stops_beyond xs ys zs tos ks a b c u e h k

-- where some of the references that were open were read, and the reading stopped in the others
pub stops_parts : (a b c : Graph) (s i : ℕ) (o : LinkStop) → ReadsParts a b s i →
    StopsLinking (parts_left b) b c o → StopsLinking (parts_left a ++ []) a c o
stops_parts a b c s i o h k =
    stops_after h.front (parts_left b) [] (parts_left a ++ []) (map (λ _. s) h.front) a b c o
    (append-nil (parts_left a) ∙ h.parts
    ∙ ap (λ (ws : List ℕ). h.front ++ ws) (sym (append-nil (parts_left b)))) h.reads k
