-- The machine value of a `Handle`. Assumes `Logic`.
use Rattle.std.proofs.Common.{◌≡◌, ℕ, List, [], ◌∷◌, ◌++◌, refl, subst, Option, Some, None}
use seplogic.Ra.Ura.{Ura}
use mir.Raw.{raw as bare}
use mir.Val.{Val, vptr, vnull, vstruct, vcons, vnil, of_list}
use base.Fraction.{full_share}
use base.Logic.{never, fst∗, snd∗, via, guard_i}
use contract.Monad.{fact_use}
use types.Logic.{Logic, sem}
use types.Kit.{Item, Goal, Seq, Step, step, ‵, given, ◌$◌, drop, fsplit, fjoin, fpick, fpack, feq_i}
use types.Kit.{feq_l, use1, learn}
use denote.RattleType.{Valss}
use denote.Builtin.{RawPtr}
use denote.Memory.{lone}
use denote.RawPtr.{Ptr, block_ptr, null_ptr, ptr_val, in_a_block, lies_at, Testable}
use base.Fml.{ftrue}
use denote.Steps.{nothing}
use denote.Struct.Struct.{within}
use denote.Struct.Owning.{shape}
use Rattle.std_heap.proofs.GlobalToken.{dealloc_token-Testable}
use Rattle.std_alloc.specs.Box.Ownership.{box_owns}
use Rattle.std_heap.specs.declared.Global.{Global}
use Rattle.scaleview_c.specs.Owned.{owned, heap_token}
use Rattle.scaleview_c.specs.contracts.resource.Resource.{the_row as R}
use Rattle.scaleview_c.specs.contracts.handle.Handle as handle

abbrev pub word : ℕ → ℕ → Val
word b o = vstruct (vcons (vptr b o) vnil)

abbrev pub null_word : Val
null_word = vstruct (vcons vnull vnil)

module _ {M : Type 1} {𝓤 : Ura M} {𝓛 : Logic 𝓤} {K : Type 0} {Γ : List (Item 𝓤)}
    {G : Goal 𝓤 𝓛.H} where
  -- of a pointer and what the box at it owns a handle of this box can be made
  pub handle_in : K → (b o : ℕ) (x : R.Denot)
      → Step K 𝓛 (‵ (handle.the_row.own_val (record { at = block_ptr b o; value = Some x })
      (word b o ∷ [])) ∷ Γ) G (‵ (box_owns heap_token R (block_ptr b o) x) ∷ Γ) G
  handle_in t b o x = step (λ s.
      nothing t $ feq_i t (List Val) (vptr b o ∷ []) (vptr b o ∷ []) refl $ fjoin t $
      feq_i t (List Val) (word b o ∷ []) (word b o ∷ []) refl $ fjoin t $
      fpack t (Valss (RawPtr ∷ [])) (within (shape handle.the_type) (
        block_ptr b o,
        tt,
      ) (word b o ∷ [])) (vptr b o ∷ [], tt) $ fjoin t $ s)

  -- the null pointer is nothing
  pub none_in : K → Step K 𝓛 (‵ (handle.the_row.own_val (record { at = null_ptr; value = None })
      (null_word ∷ [])) ∷ Γ) G Γ G
  none_in t = step (λ s.
      nothing t $ fpack t (null_ptr ≡ null_ptr) (λ _. ftrue) refl $ nothing t $
      feq_i t (List Val) (vnull ∷ []) (vnull ∷ []) refl $ fjoin t $
      feq_i t (List Val) (null_word ∷ []) (null_word ∷ []) refl $ fjoin t $
      fpack t (Valss (RawPtr ∷ [])) (within (shape handle.the_type) (null_ptr, tt) (null_word ∷ []))
      (vnull ∷ [], tt) $ fjoin t $ s)

  -- what is owned is behind a pointer that may be compared with null, and else the pointer is null
  either : K → (a : Global) → (p : Ptr) (v : Option R.Denot) →
      (v ≡ None → p ≡ null_ptr → Seq K 𝓛 Γ G)
      → ((b o : ℕ) (x : R.Denot) → v ≡ Some x → p ≡ block_ptr b o → Testable (block_ptr b o) →
      Seq K 𝓛 (‵ (box_owns heap_token R (block_ptr b o) x) ∷ Γ) G)
      → Seq K 𝓛 (‵ (owned R p v) ∷ Γ) G
  either t a p None none one = fpick t (λ e. drop t $ none refl e)
  either t a p (Some x) none one =
      use1 𝓛 (given (Testable p) (‵ (box_owns heap_token R p x)))
      (fact_use 𝓤 (Testable p)
      (via 𝓤 _ (snd∗ 𝓤 (sem 𝓛 (lies_at R full_share p x))
      (sem 𝓛 (heap_token (bare (lone R.mir)) p))) (dealloc_token-Testable 𝓛 a
      (bare (lone R.mir)) p)) (guard_i 𝓤 (Testable p) (sem 𝓛 (box_owns heap_token R p x)))) $
      learn t (λ may. in_a_block t p (λ q. box_owns heap_token R q x)
      (fst∗ 𝓤 (never 𝓤) (sem 𝓛 (heap_token (bare (lone R.mir)) null_ptr)))
      (λ b o e. one b o x refl e (subst Testable e may)))

  -- a handle is null and owns nothing, or is a pointer and what the box at it owns
  pub handle_out : K → (a : Global) → (d : handle.the_row.Denot) (vs : List Val)
      → (d.value ≡ None → vs ≡ null_word ∷ [] → Seq K 𝓛 Γ G)
      → ((b o : ℕ) (x : R.Denot) → d.value ≡ Some x → Testable (block_ptr b o) →
      vs ≡ word b o ∷ [] → Seq K 𝓛 (‵ (box_owns heap_token R (block_ptr b o) x) ∷ Γ) G)
      → Seq K 𝓛 (‵ (handle.the_row.own_val d vs) ∷ Γ) G
  handle_out t a d vs none one =
      fsplit t $ fpick t (λ vss. fsplit t $ feq_l t (λ ev. fsplit t $ feq_l t (λ ep. drop t $
      let laid : (p : Ptr) → d.at ≡ p → vs ≡ vstruct (of_list (ptr_val p ∷ [])) ∷ [] =
      λ p e. subst (λ (q : Ptr). vs ≡ vstruct (of_list (ptr_val q ∷ [])) ∷ []) e
      (subst (λ (ps : List Val). vs ≡ vstruct (of_list (ps ++ [])) ∷ []) ep ev) in
      either t a d.at d.value (λ empty e. none empty (laid null_ptr e))
      (λ b o x full e may. one b o x full may (laid (block_ptr b o) e)))))
