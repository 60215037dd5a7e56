-- The steps of the types that were linked.
use Rattle.std.proofs.Common.{◌≡◌, ℕ, zero, suc, ◌+◌, ◌<◌, ◌≤◌, List, [], ◌∷◌, ◌++◌, length, Some}
use Rattle.std.proofs.Common.{refl, sym, ap, ◌∙◌, arith, inl, inr}
use Rattle.std.specs.Prelude.{slice_get}
use Rattle.std.proofs.lemmas.Bool.{cases_lt}
use Rattle.std.proofs.lemmas.List.{length_push}
use Rattle.std.proofs.lemmas.Option.{slice_get_within}
use Rattle.types_core.specs.declared.definition.TypeDef.{TypeDef}
use Rattle.types_core.specs.declared.type_info.TypeInfo.{TypeInfo}
use Rattle.widths_core.specs.declared.rows.Rows.{Rows}
use Rattle.widths_core.specs.declared.type_step.TypeStep.{TypeStep}
use Rattle.graph_core.specs.Types.{shape}
use Rattle.widths_core.specs.Rows.{IsPaired, Keeps}
use Rattle.widths_core.specs.Steps.{IsRow, IsDraft}
use Rattle.widths_core.proofs.Kept.{draft_kept}
use Rattle.widths_core.proofs.RuleRight.{shape-bound}

-- a draft that is put at the end leaves the others where they are
get_left : (xs : List TypeStep) (y : TypeStep) (t : ℕ) → t < length xs →
    slice_get (xs ++ y ∷ []) t ≡ slice_get xs t
get_left [] y t lt = absurd (omega (arith, lt))
get_left (x ∷ xs) y zero lt = refl
get_left (x ∷ xs) y (suc t) lt = get_left xs y t (omega (arith, lt))

-- a draft that is put at the end is read there
get_last : (xs : List TypeStep) (y : TypeStep) → slice_get (xs ++ y ∷ []) (length xs) ≡ Some y
get_last [] y = refl
get_last (x ∷ xs) y = get_last xs y

-- the first i types have their drafts
pub record DraftsTo (r : List TypeInfo) (refs : List ℕ) (rows : Rows) (i : ℕ)
    (drafts : List TypeStep) : Type 0 where
  pub paired : IsPaired rows
  pub count : length drafts ≡ i
  pub within : i ≤ length r
  pub own : (t : ℕ) (d : TypeDef) (s : TypeStep) → shape r t ≡ Some d →
      slice_get drafts t ≡ Some s →
      IsDraft refs (IsRow refs rows) d s

-- with the draft of the next type, its references and its row, one type more has its draft
pub drafts_more : (r : List TypeInfo) (xs ys zs : List ℕ) (a b : Rows) (i : ℕ)
    (drafts : List TypeStep)
    (d : TypeDef) (s : TypeStep) → shape r i ≡ Some d → zs ≡ xs ++ ys → IsPaired b → Keeps a b →
    IsDraft zs (IsRow zs b) d s → DraftsTo r xs a i drafts →
    DraftsTo r zs b (i + 1) (drafts ++ s ∷ [])
drafts_more r xs ys zs a b i drafts d s e read paired k new h = record {
  paired = paired;
  count = length_push drafts s ∙ ap (λ (n : ℕ). n + 1) h.count;
  within = let below = shape-bound r i d e in omega (arith, below);
  own = own;
} where
  own : (t : ℕ) (d' : TypeDef) (s' : TypeStep) → shape r t ≡ Some d' →
      slice_get (drafts ++ s ∷ []) t ≡ Some s' → IsDraft zs (IsRow zs b) d' s'
  own t d' s' is at = elim (cases_lt t i) [
    | inl below ↦ rw read (draft_kept xs ys a b d' s' k
        (h.own t d' s' is (sym (get_left drafts s t (omega (arith, below, h.count))) ∙ at)))
    | inr ge ↦
        let lt = slice_get_within (drafts ++ s ∷ []) t s' at in
        let same : t ≡ length drafts = omega (arith, ge, lt, length_push drafts s, h.count) in
        let last : Some s ≡ Some s' = sym (get_last drafts s)
        ∙ ap (λ (n : ℕ). slice_get (drafts ++ s ∷ []) n) (sym same) ∙ at in
        let shapes : Some d ≡ Some d' = sym e ∙ ap (λ (n : ℕ). shape r n) (sym (same ∙ h.count))
        ∙ is in
        let same_draft : s ≡ s' = cc in
        let def : d ≡ d' = cc in
        rw (← same_draft, ← def) new
  ]
