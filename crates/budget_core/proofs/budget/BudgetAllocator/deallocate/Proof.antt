-- The bytes are given back, and then the block goes back to the allocator that it came from.
-- Assumes `Logic`.
use Rattle.std.proofs.Common.{◌≡◌, ℕ, ◌^◌, ◌<◌, List, [], ◌∷◌, refl, w64, Bor}
use seplogic.Ra.Ura.{Ura}
use mir.Syntax.{Ty, Fn}
use mir.Val.{Val, vint, vptr, vunit}
use mir.MapTy.{inst_fn}
use base.Logic.{SProp, ent, id⊢, never_e}
use base.Fml.{Lft, Share, ffalse, ftrue, fsep, flft, froom}
use prog.Memory.{Memory, size, align, capped}
use prog.Routine.{Routine}
use prog.Wp.{WpFn, Tables}
use types.Logic.{Logic}
use types.ByLocal.{alloc_all, pass_all, free_all, look_at, get, through, sets, lands_as}
use types.Kit.{Item, ‵, raw, ◌⊛◌, later, given, ◌$◌, ◌∵◌, !, qed, by, move, keep, use1, use3, split}
use types.Kit.{split3, join, learn, fsplit, fjoin, feq_i, suffices, await, done}
use types.Run.{stop, fld, addr, no_more, and_then, of_opd, unit_lit, returns, enter}
use contract.BorrowLft.{◌⊑◌, ⊑_trans}
use contract.Monad.{Fun, fact}
use contract.Running.{tables, tables_of}
use sound.WpLaws.{fm_of, WpFn-mono}
use denote.Builtin.{usize, RawPtr}
use denote.Exit.{yes}
use denote.Opens.{unhide}
use denote.Plain.{uint_vals, uint_Tells}
use denote.RattleType.{owns}
use denote.RawPtr.{Ptr, block_ptr, null_ptr, ptr_val, rawptr_vals, rawptr_Tells}
use denote.Ref.{shr_vals}
use denote.Signature.{plain, types_at}
use denote.Steps.{heard, nothing}
use denote.Triple.Call.{calls_at}
use denote.Triple.Clauses.{Ended, Clauses}
use denote.Triple.Spec.{triple_of}
use denote.Triple.Statement.{Triple}
use denote.Triple.Table.{entered}
use denote.Triple.Walked.{Stays, stay_dropped, walk_of, ends_at, walked, Goes-dropped, walk_Meets}
use Rattle.std.proofs.alloc.Calls.{Al, seen, token, gives_key, Gives, at_gives, Gives-goes}
use Rattle.std.proofs.alloc.Calls.{Gives-Gives}
use Rattle.budget_core.proofs.Budgeting.{Whole, lent, at_its_type, inner_of, left_of}
use Rattle.budget_core.proofs.Budgeting.{Returned, at_returned, returned_goes, returned_gives}
use Rattle.budget_core.proofs.budget.give_back.Met as returned_met
use Rattle.budget_core.proofs.budget.give_back.Symbol as returned_key
use Rattle.budget_core.specs.contracts.budget.BudgetAllocator.deallocate as contract_of
use Rattle.budget_core.specs.contracts.budget.BudgetAllocator.deallocate.Key as key
use Rattle.budget_core.proofs.budget.BudgetAllocator.deallocate.Code as code
use Rattle.budget_core.proofs.budget.BudgetAllocator.deallocate.Statement as stated

module _ (Z : Al) where
  abbrev itself : Fn
  itself = inst_fn (at_its_type Z) code.function

  abbrev ended : Ended
  ended = contract_of.ended Z.row Z.g Z.d Z.drops

  abbrev stayed : Stays ended.signature.params ended.kept
  stayed = (
    stay_dropped (lent Z) yes,
    (
      stay_dropped (plain (λ _. RawPtr)) yes,
      (stay_dropped (plain (λ _. usize)) yes, (stay_dropped (plain (λ _. usize)) yes, tt)),
    ),
  )

module _ (Z : Al) {M : Type 1} {𝓤 : Ura M} (𝓛 : Logic 𝓤) (at_mem : Memory → SProp 𝓤)
    (run : Routine → Fun 𝓤) (𝓣 : Tables 𝓤 𝓛.H)
    (gives : Triple 𝓤 (𝓣.C (gives_key Z)) (Gives Z 𝓛 at_mem run))
    (returned : Triple 𝓤 (𝓣.C (returned_key.name (at_its_type Z))) (Returned Z 𝓛 at_mem run)) where
  open 𝓛 use {H}

  abbrev clauses : Clauses 𝓤 (ended Z)
  clauses = contract_of.clauses Z.row Z.g Z.d Z.drops 𝓛 at_mem run

  module _ (κ₁ κ₂ : Lft) (q₁ q₂ : Share) (inside : κ₁ ⊑ κ₂) (self : Bor (Whole Z).Denot)
      (bytes aligned : ℕ) (τ : Ty) where
    abbrev bound : Ptr → (walk_of 𝓛 (ended Z) (stayed Z) clauses).Ghost
    bound ptr = (
      (
        (κ₁, (κ₂, tt)),
        (q₁, (q₂, tt)),
        (inside, tt),
        (self, (ptr, (bytes, (aligned, tt)))),
        (shr_vals self, (rawptr_vals ptr, (vint w64 bytes ∷ [], (vint w64 aligned ∷ [], tt)))),
      ),
      τ,
    )

    abbrev handed : Ptr → List Val
    handed ptr = vptr self.ref_ptr.0 self.ref_ptr.1 ∷ ptr_val ptr ∷ vint w64 bytes ∷ vint w64
        aligned ∷ []

    abbrev Post : Ptr → Val → SProp 𝓤
    Post ptr = (walk_of 𝓛 (ended Z) (stayed Z) clauses).post (bound ptr)

    abbrev entry : Ptr → Item 𝓤
    entry ptr = (‵ (flft κ₁ q₁) ⊛ ‵ (flft κ₂ q₂) ⊛ ‵ ftrue) ⊛ ‵
        (owns (types_at (ended Z).signature.params (bound ptr).0.0) (bound ptr).0.3 (bound ptr).0.4)

    abbrev Fitting : Type 0
    Fitting = (capped (size τ) ≡ bytes) × (capped (align τ) ≡ aligned)

    -- the body gives a block back, at sizes that are words, and there is none to give at null
    walk : bytes < 2 ^ 64 → aligned < 2 ^ 64 → (ptr : Ptr) →
        ent 𝓤 ((walk_of 𝓛 (ended Z) (stayed Z) clauses).pre (bound ptr))
        (WpFn 𝓤 H 𝓣.C 𝓣.Λ (itself Z) (handed ptr) (Post ptr))
    walk few small null_ptr =
        qed 𝓛 (entry null_ptr ∷ (raw (fact 𝓤 (κ₂ ⊑ Z.row.lives)) ⊛ raw (fact 𝓤 Fitting) ⊛ ‵
        (fsep ffalse (token Z self.now.inner τ null_ptr))) ∷ []) ∵
        move ! (1 ∷ []) $ split3 ! $ move ! (2 ∷ []) $ fsplit ! $ keep ! (0 ∷ []) $ by !
        (never_e 𝓤 _)
    walk few small (block_ptr block offset) =
        let ptr : Ptr = block_ptr block offset in
        let to : ℕ × ℕ = inner_of Z self.ref_ptr in
        let left : ℕ × ℕ = left_of Z self.ref_ptr in
        let given_back = at_gives Z 𝓛 at_mem run κ₁ q₁ to self.now.inner block offset bytes aligned
        τ in
        let counted = at_returned Z 𝓛 at_mem run κ₁ κ₂ q₁ q₂ inside left self.now.shared bytes in
        qed 𝓛 (entry ptr ∷ (raw (fact 𝓤 (κ₂ ⊑ Z.row.lives)) ⊛ raw (fact 𝓤 Fitting) ⊛ ‵
        (fsep (froom τ block offset) (token Z self.now.inner τ ptr))) ∷ []) ∵
        move ! (1 ∷ []) $ split3 ! $ heard ! (κ₂ ⊑ Z.row.lives)
        (λ lives. heard ! Fitting (λ fitting.
        -- the count, the tokens of both lifetimes, the inner allocator, and the block
        move ! (1 ∷ []) $ split ! $ split ! $ move ! (2 ∷ []) $ fsplit ! $ fsplit ! $ move !
        (1 ∷ []) $ unhide ! $ fsplit ! $ fsplit ! $
        use1 𝓛 (‵ (seen Z κ₁ to self.now.inner)) (id⊢ 𝓤 _) $ move ! (1 ∷ []) $ fsplit ! $
        keep ! (0 ∷ 6 ∷ 7 ∷ 2 ∷ 8 ∷ []) $
        enter ! 𝓣.C 𝓣.Λ (itself Z) (handed ptr) _ $ alloc_all !
        (λ l. pass_all ! refl (
          (tt, tt),
          ((tt, tt), ((tt, record { fits = few }), ((tt, record { fits = small }), tt))),
        ) $
        -- the bytes are given back
        sets ! (addr ! (through ! refl (fld ! refl (stop !)))) refl (tt, tt) $
        use3 𝓛 (raw ((Returned Z 𝓛 at_mem run).pre counted))
        (returned_goes Z 𝓛 at_mem run κ₁ κ₂ q₁ q₂ inside left self.now.shared bytes lives few) $
        calls_at ! (fm_of 𝓤 H 𝓛.laws 𝓣) (Returned Z 𝓛 at_mem run) returned counted
        (and_then ! (get ! refl) (and_then ! (get ! refl) (no_more !))) (λ u.
        use1 𝓛 (later (given (u ≡ vunit) (‵ (flft κ₁ q₁) ⊛ ‵ (flft κ₂ q₂) ⊛ ‵ ftrue)))
        (returned_gives Z 𝓛 at_mem run κ₁ κ₂ q₁ q₂ inside left self.now.shared bytes u) $
        await ! tt $ learn ! (λ eu. lands_as ! eu refl (tt, tt) $ split ! $
        move ! (2 ∷ 0 ∷ 1 ∷ 3 ∷ []) $
        -- the inner allocator, the tokens of both lifetimes, and the block
        sets ! (addr ! (through ! refl (fld ! refl (stop !)))) refl (tt, tt) $
        -- the call
        join ! $ move ! (2 ∷ []) $ fsplit ! $ move ! (1 ∷ 2 ∷ []) $ join ! $ move ! (1 ∷ 0 ∷ []) $
        join ! $
        use1 𝓛 (raw ((Gives Z 𝓛 at_mem run).pre given_back))
        (Gives-goes Z 𝓛 at_mem run κ₁ q₁ to self.now.inner
        (⊑_trans κ₁ κ₂ Z.row.lives inside lives) block offset bytes aligned τ fitting.0
        fitting.1 few small) $
        calls_at ! (fm_of 𝓤 H 𝓛.laws 𝓣) (Gives Z 𝓛 at_mem run) gives given_back
        (and_then ! (get ! refl)
        (and_then ! (get ! refl)
        (and_then ! (get ! refl) (and_then ! (get ! refl) (no_more !))))) (λ v.
        use1 𝓛 (later (given (v ≡ vunit) (‵ (flft κ₁ q₁))))
        (Gives-Gives Z 𝓛 at_mem run κ₁ q₁ to self.now.inner block offset bytes aligned τ v) $
        await ! tt $ learn ! (λ e.
        -- the return
        lands_as ! e refl (tt, tt) $ sets ! (of_opd ! (unit_lit !)) refl (tt, tt) $ returns !
        (look_at ! 0 refl) $ free_all ! refl $
        suffices ! _ (ends_at 𝓛 (ended Z) (stayed Z) clauses (bound ptr) vunit tt
        (tt, (tt, (tt, (tt, tt)))) (tt, (tt, (tt, (tt, tt))))) $
        nothing ! $ feq_i ! (List Val) (vunit ∷ []) (vunit ∷ []) refl $ nothing ! $ nothing ! $
        fjoin ! $ nothing ! $ fjoin ! $ nothing ! $ fjoin ! $ nothing ! $ fjoin ! $ join ! $
        move ! (2 ∷ 3 ∷ []) $ join ! $ join ! $ done !)))))))

-- the code of this method keeps the contract that every allocator's has
pub deallocate_spec : {M : Type 1} → stated.statement M
unfolding tables_of
deallocate_spec 𝓤 𝓛 𝓜 𝓡 wired row laws ghosts methods drops met dropped =
    let Z : Al = record { row = row; laws = laws; g = ghosts; d = methods; drops = drops } in
    let 𝓣 : Tables 𝓤 𝓛.H = tables_of 𝓤 𝓛.H 𝓜 (tables 𝓤 𝓛.H 𝓜 𝓡 𝓡.env) in
    let clauses = contract_of.clauses row ghosts methods drops 𝓛 𝓜.mem 𝓡.returns in
    let number = plain (λ _. usize) in
    let Body = WpFn 𝓤 𝓛.H 𝓣.C 𝓣.Λ (itself Z) in
    let returned = returned_met.met 𝓤 𝓛 𝓜 𝓡 (code.calls-budget_core::budget::give_back 𝓡.env wired)
    row laws ghosts methods drops met dropped in
    entered 𝓤 𝓛.H (triple_of 𝓛 (contract_of.signature row ghosts methods drops)
    (contract_of.spec row ghosts methods drops 𝓛 𝓜.mem 𝓡.returns)) 𝓣.C 𝓣.Λ
    (key.name (at_its_type Z)) (itself Z)
    (code.unfolded 𝓤 𝓛.H 𝓜 𝓡 wired (row, tt) methods drops)
    (walk_Meets 𝓛 (ended Z) (stayed Z) (
      Goes-dropped 𝓛 2 (lent Z) yes (λ κs x f. refl),
      (
        Goes-dropped 𝓛 2 (plain (λ _. RawPtr)) yes (λ κs x f. refl),
        (
          Goes-dropped 𝓛 2 number yes (λ κs x f. refl),
          (Goes-dropped 𝓛 2 number yes (λ κs x f. refl), tt),
        ),
      ),
    )
    clauses Body (WpFn-mono 𝓤 𝓛.H 𝓛.laws 𝓣 (itself Z))
    (walked 𝓛 (ended Z) (stayed Z) clauses Body
    (λ κs. (shr_vals, (rawptr_vals, (uint_vals w64, (uint_vals w64, tt)))))
    (λ κs. ((λ r vs s. s.0), (rawptr_Tells, (uint_Tells w64, (uint_Tells w64, tt)))))
    (λ κs qs bounds a τ are. walk Z 𝓛 𝓜.mem 𝓡.returns 𝓣 (met.deallocate drops) returned κs.0 κs.1.0
    qs.0 qs.1.0 bounds.0 a.0 a.1.1.0 a.1.1.1.0 τ are.1.1.0.1 are.1.1.1.0.1 a.1.0)))
