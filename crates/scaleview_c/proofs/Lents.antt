-- The machine value of a `Lent`. Assumes `Logic`.
use Rattle.std.proofs.Common.{◌≡◌, ℕ, List, [], ◌∷◌, ◌++◌, subst, refl, Option, Some, None}
use seplogic.Ra.Ura.{Ura}
use mir.Val.{Val, vstruct, of_list}
use base.Logic.{never, fst∗}
use types.Logic.{Logic, sem}
use types.Kit.{Item, Goal, Seq, ‵, ◌$◌, drop, fsplit, fpick, feq_l}
use denote.Memory.{hidden_shr, shared_of}
use denote.Opens.{hide}
use denote.RawPtr.{Ptr, block_ptr, null_ptr, ptr_val, in_a_block, Testable}
use denote.Struct.Lending.{lent_at}
use Rattle.scaleview_c.proofs.Handles.{word, null_word}
use Rattle.scaleview_c.specs.Owned.{lent}
use Rattle.scaleview_c.specs.contracts.resource.Resource.{the_row as R}
use Rattle.scaleview_c.specs.contracts.lent.Lent as lents

module _ {M : Type 1} {𝓤 : Ura M} {𝓛 : Logic 𝓤} {K : Type 0} {Γ : List (Item 𝓤)}
    {G : Goal 𝓤 𝓛.H} where
  -- what is lent lies at a pointer that may be compared with null, and else the pointer is null
  either : K → (p : Ptr) (v : Option R.Denot) → (v ≡ None → p ≡ null_ptr → Seq K 𝓛 Γ G)
      → ((b o : ℕ) (x : R.Denot) → v ≡ Some x → p ≡ block_ptr b o → Testable (block_ptr b o) →
      Seq K 𝓛 (‵ (hidden_shr R [] x b o) ∷ Γ) G)
      → Seq K 𝓛 (‵ (lent R p v) ∷ Γ) G
  either t p None none one = fpick t (λ e. drop t $ none refl e)
  either t p (Some x) none one =
      fsplit t $ fpick t (λ may. drop t $
      in_a_block t p (λ q. lent_at R q x [])
      (fst∗ 𝓤 (never 𝓤) (sem 𝓛 (shared_of R x 0 0 []))) (λ b o e.
      fsplit t $ drop t $ hide t $ one b o x refl e (subst Testable e may)))

  -- a lent pointer is null and lends nothing, or is a pointer to what is shared for good
  pub lent_out : K → (d : lents.the_row.Denot) (vs : List Val)
      → (d.value ≡ None → vs ≡ null_word ∷ [] → Seq K 𝓛 Γ G)
      → ((b o : ℕ) (x : R.Denot) → d.value ≡ Some x → Testable (block_ptr b o) →
      vs ≡ word b o ∷ [] → Seq K 𝓛 (‵ (hidden_shr R [] x b o) ∷ Γ) G)
      → Seq K 𝓛 (‵ (lents.the_row.own_val d vs) ∷ Γ) G
  lent_out t d vs none one =
      fsplit t $ fpick t (λ vss. fsplit t $ feq_l t (λ ev. fsplit t $ feq_l t (λ ep. drop t $
      let laid : (p : Ptr) → d.at ≡ p → vs ≡ vstruct (of_list (ptr_val p ∷ [])) ∷ [] =
      λ p e. subst (λ (q : Ptr). vs ≡ vstruct (of_list (ptr_val q ∷ [])) ∷ []) e
      (subst (λ (ps : List Val). vs ≡ vstruct (of_list (ps ++ [])) ∷ []) ep ev) in
      either t d.at d.value (λ empty e. none empty (laid null_ptr e))
      (λ b o x full e may. one b o x full may (laid (block_ptr b o) e)))))
