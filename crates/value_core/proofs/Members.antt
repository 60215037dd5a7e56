-- The references that are left of an open node, one after the other.
use Rattle.std.proofs.Common.{◌≡◌, ℕ, zero, suc, ◌+◌, ◌-◌, ◌<◌, ◌≤◌, List, [], ◌∷◌, ◌++◌, length}
use Rattle.std.proofs.Common.{take, drop, refl, ap, ◌∙◌, arith}
use Rattle.std.proofs.Common.{drop-cons}
use Rattle.std.specs.Prelude.{map, reverse, IsSome}
use Rattle.std.proofs.lemmas.List.{length-drop, length-map, length-reverse, length-take-le}
use Rattle.std.proofs.lemmas.List.{reverse-append}
use Rattle.std.proofs.lemmas.Option.{slice_get-get_or}
use Rattle.types_core.specs.declared.type_info.TypeInfo.{TypeInfo}
use Rattle.grammar_core.specs.Parts.{each, first_of}
use Rattle.widths_core.specs.Steps.{AreParts}
use Rattle.value_core.specs.Frames.{frames_of}
use Rattle.node_core.specs.Remaining.{left_by, members_before, members_of}
use Rattle.value_core.specs.Frames.{open_part_of, AreWithin}
use Rattle.node_core.specs.Remaining.{parts_by, IsWithin}
use Rattle.node_core.specs.Remaining.{after_first}
use Rattle.node_core.specs.declared.remaining.Remaining.{Remaining}
use Rattle.node_core.specs.declared.remaining.Frame.{Frame}

-- where a type is next, at least one part is counted
pub some_counted : (refs : List ℕ) (l : Remaining) → IsSome (first_of (left_by refs l)) →
    1 ≤ l.count
some_counted refs l h = go l.count l.end h where
  go : (n end : ℕ) → IsSome (first_of (parts_by refs n l.element end)) → 1 ≤ n
  go zero zero f = absurd cc
  go zero (suc end) f = absurd cc
  go (suc n) end f = omega arith

-- and so where a part follows the next one
pub more_counted : (refs : List ℕ) (l : Remaining) → 1 ≤ after_first (left_by refs l) → 1 ≤ l.count
more_counted refs l h = go l.count l.end h where
  go : (n end : ℕ) → 1 ≤ after_first (parts_by refs n l.element end) → 1 ≤ n
  go zero zero f = absurd (omega (arith, f))
  go zero (suc end) f = absurd (omega (arith, f))
  go (suc n) end f = omega arith

-- and so where one more node is open
pub within_append : (refs : List ℕ) (fs : List Frame) (f : Frame) → AreWithin refs fs →
    IsWithin refs f.left → AreWithin refs (fs ++ f ∷ [])
within_append refs [] f all one = (one, tt)
within_append refs (g ∷ fs) f all one = (all.0, within_append refs fs f all.1 one)

-- where the last is taken away, both it and the others were
pub within_popped : (refs : List ℕ) (fs : List Frame) (f : Frame) → AreWithin refs (fs ++ f ∷ []) →
    AreWithin refs fs × IsWithin refs f.left
within_popped refs [] f all = (tt, all.0)
within_popped refs (g ∷ fs) f all = let rest = within_popped refs fs f all.1 in
    ((all.0, rest.0), rest.1)

-- those that are left are a piece of all references
pub members_are : (refs : List ℕ) (end n : ℕ) → n ≤ end → end ≤ length refs →
    members_before refs end n ≡ take n (drop (end - n) refs)
members_are refs end zero h w = refl
members_are refs end (suc n) h w =
    let inside : end - suc n < length refs = omega (arith, h, w) in
    let up : suc (end - suc n) ≡ end - n = omega (arith, h) in
    rw (
      slice_get-get_or refs (end - suc n) 0 inside,
      drop-cons refs (end - suc n) 0 inside,
      up,
      members_are refs end n (omega (arith, h)) w,
    ) refl

-- so many from there on are left as these types are
pub parts_left : (refs : List ℕ) (from count : ℕ) (ts : List ℕ) → AreParts refs from count ts →
    left_by refs (members_of from count) ≡ each ts
parts_left refs from count ts h =
    let at : from + count - count ≡ from = omega arith in
    ap each (members_are refs (from + count) count (omega arith) h.within
    ∙ ap (λ (k : ℕ). take count (drop k refs)) at ∙ h.are)

-- and there are so many of them
pub parts_counted : (refs : List ℕ) (from count : ℕ) (ts : List ℕ) → AreParts refs from count ts →
    length ts ≡ count
parts_counted refs from count ts h =
    rw (← h.are) (length-take-le count (drop from refs)
    (omega (arith, length-drop from refs, h.within)))

-- there are as many open parts around the innermost one as are kept
pub frames_counted : (r : List TypeInfo) (around : List Frame) →
    length (map (open_part_of r) (reverse around)) ≡ length around
frames_counted r around =
    length-map (reverse around) (open_part_of r) ∙ length-reverse around

-- where the last of the frames around is taken away, it is the innermost of those that are left
pub frames_popped : (r : List TypeInfo) (top last : Frame) (around rest : List Frame) →
    around ≡ rest ++ last ∷ [] → frames_of r top around ≡ open_part_of r top ∷ frames_of r last rest
frames_popped r top last around rest e =
    ap (λ (fs : List Frame). open_part_of r top ∷ map (open_part_of r) fs)
    (ap reverse e ∙ reverse-append rest (last ∷ []))
