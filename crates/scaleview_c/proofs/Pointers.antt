-- The machine value of the parts of a box: a pointer beside an allocator. Assumes `Logic`.
use Rattle.std.proofs.Common.{◌≡◌, ℕ, List, [], ◌∷◌, ◌++◌, refl, subst}
use mathlib.Core.Bool.{true, ◌&&◌}
use lib.Dec.{T}
use seplogic.Ra.Ura.{Ura}
use mir.Syntax.{impl, tnil, dnil}
use mir.Raw.{raw as bare}
use mir.Val.{Val, vptr, vstruct, vcons, vnil, of_list, has_ty, WT}
use base.Fml.{Fml}
use base.Logic.{never, fst∗}
use types.Logic.{Logic, sem}
use types.Kit.{Item, Goal, Seq, Step, step, ‵, ◌$◌, move, drop, fsplit, fjoin, fpick, fpack, feq_i}
use types.Kit.{feq_l}
use denote.RattleType.{RattleType, Valss}
use denote.Builtin.{RawPtr}
use denote.Memory.{lone}
use denote.RawPtr.{Ptr, block_ptr, null_ptr, ptr_val, in_a_block}
use denote.Steps.{nothing}
use denote.Param.{layout}
use denote.Param.Laws.{Laws}
use denote.Struct.Struct.{within}
use denote.Struct.Owning.{shape}
use Rattle.core.specs.declared.alloc.Allocator.{Ghosts}
use Rattle.core.proofs.alloc.Calls.{Al, handle_tells}
use Rattle.core.proofs.cell.Inside.{Good}
use Rattle.std_alloc.specs.Box.Ownership.{box_owns}
use Rattle.std_alloc.proofs.ResultValues.{and_tt}
use Rattle.scaleview_c.specs.contracts.box_parts.BoxParts as parts

-- a struct of two fields
abbrev pub pair : Val → Val → Val
pair v w = vstruct (vcons v (vcons w vnil))

module _ (R Z : RattleType) (L : Laws Z) (g : Ghosts Z.Denot) where
  abbrev pub BoxPartsRow : RattleType
  BoxPartsRow = parts.the_row R Z g

  abbrev allocator : Al
  allocator = record { row = Z; laws = L; g = g; d = impl [] tnil dnil; drops = impl [] tnil dnil }

  -- what the box at p owns
  abbrev pub Owns : Z.Denot → Ptr → R.Denot → Fml
  Owns a p x = box_owns (g.dealloc_token a) R p x

  -- a pointer beside an allocator's bits is a value of the struct's machine type
  pub pair_good : (b o : ℕ) (h : Val) → Good (layout Z) h
      → T (has_ty (layout Z) h && true) × WT (pair (vptr b o) h)
  pair_good b o h fits = (and_tt (has_ty (layout Z) h) fits.0, (tt, (fits.1, tt)))

  module _ {M : Type 1} {𝓤 : Ura M} {𝓛 : Logic 𝓤} {K : Type 0} {Γ : List (Item 𝓤)}
      {G : Goal 𝓤 𝓛.H} where
    -- the parts are a pointer that is not null, the allocator's bits, and what the box owns
    pub parts_out : K → (d : BoxPartsRow.Denot) (vs : List Val)
        → ((b o : ℕ) (h : Val) → d.at ≡ block_ptr b o → vs ≡ pair (vptr b o) h ∷ [] →
        Good (layout Z) h
        → Seq K 𝓛 (‵ (Owns d.alloc (block_ptr b o) d.held) ∷ ‵ (Z.own_val d.alloc (h ∷ [])) ∷ Γ) G)
        → Seq K 𝓛 (‵ (BoxPartsRow.own_val d vs) ∷ Γ) G
    parts_out t d vs next =
        let fields : Val → Val → List Val = λ p h. vstruct (of_list (p ∷ h ∷ [])) ∷ [] in
        fsplit t $ fpick t (λ vss. fsplit t $
        feq_l t (λ laid. fsplit t $ feq_l t (λ first. fsplit t $
        handle_tells allocator t d.alloc vss.1.0 (λ h second fits.
        move t (1 ∷ []) $ drop t $ move t (1 ∷ []) $
        in_a_block t d.at (λ p. Owns d.alloc p d.held)
        (fst∗ 𝓤 (never 𝓤) (sem 𝓛 (g.dealloc_token d.alloc (bare (lone R.mir)) null_ptr)))
        (λ b o e.
        let with_first = subst (λ (ps : List Val).
        vs ≡ vstruct (of_list (ps ++ (vss.1.0 ++ []))) ∷ []) first laid in
        let with_both = subst (λ (hs : List Val).
        vs ≡ vstruct (of_list (ptr_val d.at ∷ (hs ++ []))) ∷ []) second with_first in
        next b o h e (subst (λ (p : Ptr). vs ≡ fields (ptr_val p) h) e with_both) fits)))))

    -- of a pointer, an allocator and what the box at the pointer owns, parts can be made
    pub parts_in : K → (b o : ℕ) (h : Val) (a : Z.Denot) (x : R.Denot)
        → Step K 𝓛 (‵ (BoxPartsRow.own_val (record { at = block_ptr b o; alloc = a; held = x })
        (pair (vptr b o) h ∷ [])) ∷ Γ) G
        (‵ (Owns a (block_ptr b o) x) ∷ ‵ (Z.own_val a (h ∷ [])) ∷ Γ) G
    parts_in t b o h a x = step (λ rest.
        let w : List Val = pair (vptr b o) h ∷ [] in let p : List Val = vptr b o ∷ [] in
        nothing t $ move t (2 ∷ 0 ∷ []) $ fjoin t $ feq_i t (List Val) p p refl $ fjoin t $
        feq_i t (List Val) w w refl $ fjoin t $
        fpack t (Valss (RawPtr ∷ Z ∷ [])) (within (shape (parts.the_type R Z g)) (
          block_ptr b o,
          (a, tt),
        ) w) (p, (h ∷ [], tt)) $
        fjoin t $ rest)
