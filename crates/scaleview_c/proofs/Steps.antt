-- The steps of a path, put one after the other.
use Rattle.std.proofs.Common.{◌≡◌, ℕ, zero, suc, ◌+◌, ◌<◌, List, [], ◌∷◌, ◌++◌, length, take, drop}
use Rattle.std.proofs.Common.{map, sym, ap, ◌∙◌, arith, slice_set, Some, None}
use Rattle.std.specs.Prelude.{slice_get}
use Rattle.std.proofs.lemmas.List.{map-append, length-map, take_more, take_more_set, drop-drop}
use Rattle.std.proofs.lemmas.List.{drop-set-lt, take-append-drop, take_all}
use Rattle.std.proofs.lemmas.Option.{get_or_from_slice_get, slice_get_within}
use Rattle.record_core.specs.Written.{StandsIn}
use Rattle.value_core.specs.declared.open_nodes.PathStep.{PathStep}
use Rattle.scaleview_c.specs.Paths.{step_record}
use Rattle.scaleview_c.specs.declared.paths.StepRecord.{StepRecord}

-- the first steps stand in front, and the rest stays
pub record ArePut (xs : List PathStep) (old new : List StepRecord) (i : ℕ) : Type 0 where
  pub front : take i new ≡ map step_record (take i xs)
  pub rest : drop i new ≡ drop i old

-- one step more is taken
taken : (xs : List PathStep) (i : ℕ) (s : PathStep) → slice_get xs i ≡ Some s →
    take (i + 1) xs ≡ take i xs ++ s ∷ []
taken xs i s found = take_more xs i s (slice_get_within xs i s found)
    ∙ ap (λ (x : PathStep). take i xs ++ x ∷ []) (get_or_from_slice_get xs i s s found)

-- one more is put
pub put_next : (xs : List PathStep) (old new : List StepRecord) (i : ℕ) (s : PathStep)
    (r : StepRecord) → ArePut xs old new i → i < length new → slice_get xs i ≡ Some s →
    r ≡ step_record s → ArePut xs old (slice_set new i r) (i + 1)
put_next xs old new i s r so_far room found is = record {
  front = take_more_set new i r room
      ∙ ap (λ (rs : List StepRecord). rs ++ r ∷ []) so_far.front
      ∙ ap (λ (x : StepRecord). map step_record (take i xs) ++ x ∷ []) is
      ∙ sym (ap (map step_record) (taken xs i s found)
      ∙ map-append step_record (take i xs) (s ∷ []));
  rest = drop-set-lt (i + 1) new i r (omega arith)
      ∙ sym (drop-drop 1 i new) ∙ ap (drop 1) so_far.rest ∙ drop-drop 1 i old;
}

-- there is a step at each place before the end
pub not_past : {X : Type 0} (xs : List PathStep) (i : ℕ) → None ≡ slice_get xs i →
    i < length xs → X
not_past [] i e h = absurd (omega (arith, h))
not_past (x ∷ xs) zero e h = absurd cc
not_past (x ∷ xs) (suc i) e h = not_past xs i e (omega (arith, h))

-- when all are put, they stand in front
pub all_stand : (xs : List PathStep) (old new : List StepRecord) (i : ℕ) → ArePut xs old new i →
    i ≡ length xs → StandsIn (map step_record xs) old new
all_stand xs old new i put e =
    let all : take i xs ≡ xs = take_all i xs (omega (arith, e)) in
    let long : i ≡ length (map step_record xs) = e ∙ sym (length-map xs step_record) in
    sym (take-append-drop i new)
    ∙ ap (λ (rs : List StepRecord). rs ++ drop i new)
    (put.front ∙ ap (λ (ys : List PathStep). map step_record ys) all)
    ∙ ap (λ (rs : List StepRecord). map step_record xs ++ rs) put.rest
    ∙ ap (λ (k : ℕ). map step_record xs ++ drop k old) long
