-- The bytes that the block grows by are taken, or the request is refused. The inner allocator
-- answers it then, and if there is no memory the bytes are given back. Assumes `Logic`.
use Rattle.std.proofs.Common.{◌≡◌, ℕ, ◌^◌, ◌<◌, true, false, Bool, List, [], ◌∷◌, refl, w64, Bor}
use seplogic.Ra.Ura.{Ura}
use mir.Syntax.{Args, Fn, a_type, dnil, dcons}
use mir.Val.{Val, vbool, vint, vptr, vunit}
use mir.MapTy.{inst_fn}
use base.Logic.{SProp, ent, ex, emp, id⊢, never_e}
use base.Fml.{Lft, Share, Fml, ftrue, flft}
use prog.Capped.{capped_fits}
use prog.Memory.{Memory, size, capped}
use prog.Routine.{Routine}
use prog.Wp.{WpFn, Tables, Env, Wp, after_seq, at_return}
use types.Logic.{Logic}
use types.ByLocal.{alloc_all, pass_all, free_all, look_at, get, get_in, get_tag, through, sets}
use types.ByLocal.{sets_last, lands_as, env}
use types.Kit.{Post as After, Item, any_q, ‵, raw, ◌⊛◌, ⋆, some, later, given, at_ret, ◌$◌, ◌∵◌}
use types.Kit.{ !, qed, by, move, keep, drop, use0, use1, use3, split, split3, join, learn, pick}
use types.Kit.{fsplit, fjoin, suffices, await, done}
use types.Match.{vrt, in_variant}
use types.Part.{agg, whole}
use types.Run.{stop, fld, addr, of_opd, un, lit, size_word, no_more, and_then, first, branches}
use types.Run.{skips, exec, switches_on, returns, returns_within, enter}
use contract.BorrowLft.{◌⊑◌, ⊑_trans}
use contract.Monad.{Fun}
use contract.Running.{tables, tables_of}
use sound.WpLaws.{fm_of, WpFn-mono}
use denote.Builtin.{usize, RawPtr, RefOf}
use denote.Exit.{yes}
use denote.Opens.{unhide, shr_dup}
use denote.Param.{bounded, layout, param}
use denote.Param.Laws.{param_laws}
use denote.Plain.{uint_vals, uint_Tells}
use denote.RattleType.{RattleType, owns}
use denote.RawPtr.{Ptr, block_ptr, null_ptr, ptr_val, rawptr_vals, rawptr_Tells}
use denote.Ref.{shr_vals}
use denote.Signature.{Slot, plain, types_at}
use denote.Steps.{nothing}
use denote.Triple.Call.{calls_at}
use denote.Triple.Clauses.{Ended, Clauses}
use denote.Triple.Spec.{triple_of}
use denote.Triple.Statement.{Triple, Contract}
use denote.Triple.Table.{entered}
use denote.Triple.Walked.{Stays, stay_dropped, walk_of, ends_at, walked, Goes-dropped, walk_Meets}
use Rattle.std.specs.Allocator.{block_with_items, resized_if_ok}
use Rattle.std.proofs.alloc.Calls.{Al, seen, token, Answer, answer_val, Answer-typed}
use Rattle.std.proofs.alloc.Resizes.{Grows, resize_key, Resizes, at_resizes, Flagged, flagged}
use Rattle.std.proofs.alloc.Resizes.{Resizes-goes, Resizes-gives, result_of, result_own, asked}
use Rattle.std.proofs.alloc.Resizes.{heard_all}
use Rattle.std.proofs.alloc.Shapes.{after, front, arm_body}
use Rattle.budget_core.proofs.Budgeting.{Whole, at_its_type, inner_of, left_of, Taken, at_taken}
use Rattle.budget_core.proofs.Budgeting.{taken_goes, taken_gives, Returned, at_returned}
use Rattle.budget_core.proofs.Budgeting.{returned_goes, returned_gives, Grown, at_grown}
use Rattle.budget_core.proofs.Budgeting.{grown_goes, grown_gives}
use Rattle.budget_core.proofs.budget.Budget.TheLaws.{the_row_laws}
use Rattle.budget_core.proofs.budget.give_back.Met as returned_met
use Rattle.budget_core.proofs.budget.give_back.Symbol as returned_key
use Rattle.budget_core.proofs.budget.growth.Met as grown_met
use Rattle.budget_core.proofs.budget.growth.Symbol as grown_key
use Rattle.budget_core.proofs.budget.take.Met as taken_met
use Rattle.budget_core.proofs.budget.take.Symbol as taken_key
use Rattle.budget_core.specs.contracts.budget.BudgetAllocator.grow as contract_of
use Rattle.budget_core.specs.contracts.budget.BudgetAllocator.grow.Key as key
use Rattle.budget_core.proofs.budget.BudgetAllocator.grow.Code as code
use Rattle.budget_core.proofs.budget.BudgetAllocator.grow.Statement as stated

module _ (Z : Al) (X : RattleType) where
  abbrev at_its_types : Args
  at_its_types = bounded (a_type ∷ a_type ∷ []) (Z.row, (X, tt)) (dcons Z.d (dcons Z.drops dnil))

  abbrev itself : Fn
  itself = inst_fn at_its_types code.function

  abbrev lent : Slot 3
  lent = RefOf (0 ∷ []) tt (plain (λ _. Whole Z)) (λ _. tt)

  abbrev ended : Ended
  ended = contract_of.ended Z.row X Z.g Z.d Z.drops

  abbrev stayed : Stays ended.signature.params ended.kept
  stayed = (
    stay_dropped lent yes,
    (
      stay_dropped (plain (λ _. RawPtr)) yes,
      (
        stay_dropped (plain (λ _. usize)) yes,
        (stay_dropped (plain (λ _. usize)) yes, (stay_dropped (plain (λ _. usize)) yes, tt)),
      ),
    ),
  )

module _ (Z : Al) (X : RattleType) {M : Type 1} {𝓤 : Ura M} (𝓛 : Logic 𝓤)
    (at_mem : Memory → SProp 𝓤) (run : Routine → Fun 𝓤) (𝓣 : Tables 𝓤 𝓛.H)
    (resizes : Triple 𝓤 (𝓣.C (resize_key Z X 2)) (Resizes Z X (Grows X) 𝓛 at_mem run))
    (grown : Triple 𝓤 (𝓣.C grown_key.name) (Grown 𝓛 at_mem run))
    (taken : Triple 𝓤 (𝓣.C (taken_key.name (at_its_type Z))) (Taken Z 𝓛 at_mem run))
    (returned : Triple 𝓤 (𝓣.C (returned_key.name (at_its_type Z))) (Returned Z 𝓛 at_mem run)) where
  open 𝓛 use {H}

  abbrev clauses : Clauses 𝓤 (ended Z X)
  clauses = contract_of.clauses Z.row X Z.g Z.d Z.drops 𝓛 at_mem run

  abbrev Called : Contract 𝓤
  Called = Resizes Z X (Grows X) 𝓛 at_mem run

  abbrev each : ℕ
  each = capped (size (layout X))

  module _ (κ₁ κ₂ κₓ : Lft) (q₁ q₂ qₓ : Share) (inside : κ₁ ⊑ κ₂) (self : Bor (Whole Z).Denot)
      (len old new : ℕ) (items : List X.Denot) where
    abbrev bound : Ptr → (walk_of 𝓛 (ended Z X) (stayed Z X) clauses).Ghost
    bound ptr = (
      (
        (κ₁, (κ₂, (κₓ, tt))),
        (q₁, (q₂, (qₓ, tt))),
        (inside, tt),
        (self, (ptr, (len, (old, (new, tt))))),
        (
          shr_vals self,
          (
            rawptr_vals ptr,
            (vint w64 len ∷ [], (vint w64 old ∷ [], (vint w64 new ∷ [], tt))),
          ),
        ),
      ),
      items,
    )

    abbrev handed : Ptr → List Val
    handed ptr = vptr self.ref_ptr.0 self.ref_ptr.1 ∷ ptr_val ptr ∷ vint w64 len ∷ vint w64 old ∷
        vint w64 new ∷ []

    abbrev Owed : Ptr → Val → SProp 𝓤
    Owed ptr = (walk_of 𝓛 (ended Z X) (stayed Z X) clauses).post (bound ptr)

    abbrev entry : Ptr → Item 𝓤
    entry ptr = (‵ (flft κ₁ q₁) ⊛ ‵ (flft κ₂ q₂) ⊛ ‵ (flft κₓ qₓ) ⊛ ‵ ftrue) ⊛ ‵
        (owns (types_at (ended Z X).signature.params (bound ptr).0.0) (bound ptr).0.3
        (bound ptr).0.4)

    abbrev block : Ptr → Fml
    block ptr = block_with_items (token Z self.now.inner) (param 1 X) ptr len old items

    abbrev outcome : Ptr → Answer.Denot → Fml
    outcome ptr = resized_if_ok (token Z self.now.inner) (param 1 X) ptr len old new items

    -- what is owed at the end, with a block and without one
    exits : (ptr : Ptr) (served : Bool) (at offset : ℕ) →
        ent 𝓤 (⋆ 𝓛 (‵ (outcome ptr (result_of served at offset)) ∷ ‵ (flft κ₁ q₁) ∷
        (‵ (flft κ₂ q₂) ⊛ ‵ ftrue) ∷ ‵ (flft κₓ qₓ) ∷ []))
        (Owed ptr (answer_val served at offset))
    exits ptr served at offset =
        qed 𝓛 (‵ (outcome ptr (result_of served at offset)) ∷ ‵ (flft κ₁ q₁) ∷
        (‵ (flft κ₂ q₂) ⊛ ‵ ftrue) ∷ ‵ (flft κₓ qₓ) ∷ []) ∵
        suffices ! _ (ends_at 𝓛 (ended Z X) (stayed Z X) clauses (bound ptr)
        (answer_val served at offset) (result_of served at offset) (tt, (tt, (tt, (tt, (tt, tt)))))
        (tt, (tt, (tt, (tt, (tt, tt)))))) $
        use0 𝓛 (‵ (Answer.own_val (result_of served at offset) (answer_val served at offset ∷ [])))
        (result_own 𝓛 served at offset) $ nothing ! $ nothing ! $ fjoin ! $ nothing ! $ fjoin ! $
        nothing ! $ fjoin ! $ nothing ! $ fjoin ! $ nothing ! $ fjoin ! $ join ! $
        -- what is left of the parameters with the result, the block, and the three tokens
        move ! (3 ∷ []) $ split ! $ move ! (5 ∷ 1 ∷ []) $ join ! $
        move ! (1 ∷ 0 ∷ []) $ join ! $ move ! (3 ∷ 0 ∷ []) $ join ! $ join ! $ done !

    -- the body gives what is owed of a growth, at numbers that are words, and at null is no block
    walk : len < 2 ^ 64 → old < 2 ^ 64 → new < 2 ^ 64 → (ptr : Ptr) →
        ent 𝓤 ((walk_of 𝓛 (ended Z X) (stayed Z X) clauses).pre (bound ptr))
        (WpFn 𝓤 H 𝓣.C 𝓣.Λ (itself Z X) (handed ptr) (Owed ptr))
    walk len_fits old_fits new_fits null_ptr =
        qed 𝓛 (entry null_ptr ∷ raw (asked 𝓛 (κ₂ ⊑ Z.row.lives) (κₓ ⊑ X.lives)
        (Grows X len old new) (block null_ptr)) ∷ []) ∵
        move ! (1 ∷ []) $
        heard_all ! (κ₂ ⊑ Z.row.lives) (κₓ ⊑ X.lives) (Grows X len old new) (block null_ptr)
        (λ _ _ _. fsplit ! $ keep ! (0 ∷ []) $ by ! (never_e 𝓤 _))
    walk len_fits old_fits new_fits (block_ptr at offset) =
        let ptr : Ptr = block_ptr at offset in
        let from : ℕ × ℕ = inner_of Z self.ref_ptr in
        let left : ℕ × ℕ = left_of Z self.ref_ptr in
        let resized = at_resizes Z X (Grows X) 𝓛 at_mem run κ₁ κₓ q₁ qₓ from self.now.inner at
        offset len old new items in
        let counted = at_grown 𝓛 at_mem run old new each in
        qed 𝓛 (entry ptr ∷ raw (asked 𝓛 (κ₂ ⊑ Z.row.lives) (κₓ ⊑ X.lives)
        (Grows X len old new) (block ptr)) ∷ []) ∵
        move ! (1 ∷ []) $
        heard_all ! (κ₂ ⊑ Z.row.lives) (κₓ ⊑ X.lives) (Grows X len old new) (block ptr)
        (λ lives live said. move ! (1 ∷ []) $ split ! $ split3 ! $ move ! (2 ∷ []) $ split ! $
        move ! (3 ∷ 1 ∷ []) $ join ! $ move ! (3 ∷ []) $ fsplit ! $ fsplit ! $ move ! (1 ∷ []) $
        shr_dup ! (Whole Z)
        (the_row_laws (param 0 Z.row) Z.g (param_laws 0 Z.row Z.laws)).shr_laws self.now
        self.ref_ptr.0 self.ref_ptr.1 κ₁ $
        unhide ! $ fsplit ! $ fsplit ! $
        use1 𝓛 (‵ (seen Z κ₁ from self.now.inner)) (id⊢ 𝓤 _) $ move ! (1 ∷ []) $ fsplit ! $
        move ! (4 ∷ []) $ unhide ! $ fsplit ! $ fsplit ! $ move ! (1 ∷ []) $ fsplit ! $
        -- the count, the first two tokens, the inner allocator, the count again, the block, and
        -- the token of its items
        keep ! (4 ∷ 12 ∷ 10 ∷ 6 ∷ 0 ∷ 13 ∷ 11 ∷ []) $
        enter ! 𝓣.C 𝓣.Λ (itself Z X) (handed ptr) _ $ alloc_all !
        (λ l. pass_all ! refl (
          (tt, tt),
          (
            (tt, tt),
            (
              (tt, record { fits = len_fits }),
              ((tt, record { fits = old_fits }), ((tt, record { fits = new_fits }), tt)),
            ),
          ),
        ) $
        let En : Env 𝓤 H = env (itself Z X).locals l in
        let Then : After 𝓤 H = any_q (after_seq 𝓤 H
        (Wp 𝓤 H 𝓣.C 𝓣.Λ En (after 8 (itself Z X).body) (at_return 𝓤 H En (Owed ptr)))
        (at_return 𝓤 H En (Owed ptr))) in
        -- the bytes are counted
        use0 𝓛 (raw ((Grown 𝓛 at_mem run).pre counted))
        (grown_goes 𝓛 at_mem run old new each old_fits new_fits (capped_fits (size (layout X)))) $
        calls_at ! (fm_of 𝓤 H 𝓛.laws 𝓣) (Grown 𝓛 at_mem run) grown counted
        (and_then ! (get ! refl) (and_then ! (get ! refl) (and_then ! (size_word !) (no_more !))))
        (λ t.
        use1 𝓛 (later (some (λ (bytes : ℕ). given ((t ≡ vint w64 bytes) × (bytes < 2 ^ 64))
        (raw (emp 𝓤))))) (grown_gives 𝓛 at_mem run old new each t) $
        await ! tt $ pick ! (λ bytes. learn ! (λ et. drop ! $
        lands_as ! et.0 refl (tt, record { fits = et.1 }) $
        let told = at_taken Z 𝓛 at_mem run κ₁ κ₂ q₁ q₂ inside left self.now.shared bytes in
        let untold = at_returned Z 𝓛 at_mem run κ₁ κ₂ q₁ q₂ inside left self.now.shared bytes in
        -- the bytes are taken
        sets ! (addr ! (through ! refl (fld ! refl (stop !)))) refl (tt, tt) $
        use3 𝓛 (raw ((Taken Z 𝓛 at_mem run).pre told))
        (taken_goes Z 𝓛 at_mem run κ₁ κ₂ q₁ q₂ inside left self.now.shared bytes lives et.1) $
        calls_at ! (fm_of 𝓤 H 𝓛.laws 𝓣) (Taken Z 𝓛 at_mem run) taken told
        (and_then ! (get ! refl) (and_then ! (get ! refl) (no_more !))) (λ u.
        use1 𝓛 (later (some (λ (is_it : Bool). given (u ≡ vbool is_it)
        (‵ (flft κ₁ q₁) ⊛ ‵ (flft κ₂ q₂) ⊛ ‵ ftrue))))
        (taken_gives Z 𝓛 at_mem run κ₁ κ₂ q₁ q₂ inside left self.now.shared bytes u) $
        await ! tt $ pick ! (λ is_it. learn ! (λ eu. lands_as ! eu refl (tt, tt) $ split ! $
        sets ! (un ! (get ! refl) tt) refl (tt, tt) $ first ! $ branches ! (get ! refl)
        -- too few are left
        (λ _. sets ! (agg ! (no_more !)) refl (tt, tt) $ sets !
        (agg ! (and_then ! (lit ! tt) (and_then ! (get ! refl) (no_more !)))) refl
        (Answer-typed false 0 0) $
        returns_within ! (Owed ptr) refl (look_at ! 0 refl) $ free_all ! refl $
        keep ! (4 ∷ 0 ∷ 1 ∷ 5 ∷ []) $ by ! (exits ptr false 0 0))
        -- the inner allocator answers
        (λ _. skips ! $ exec ! 𝓣.C 𝓣.Λ En (after 5 (itself Z X).body) (at_ret En (Owed ptr)) $
        move ! (2 ∷ 0 ∷ []) $ sets ! (addr ! (through ! refl (fld ! refl (stop !)))) refl (tt, tt) $
        move ! (1 ∷ 5 ∷ []) $ join ! $ move ! (1 ∷ 0 ∷ []) $ join ! $ move ! (3 ∷ 0 ∷ []) $ join ! $
        use1 𝓛 (raw (Called.pre resized))
        (Resizes-goes Z X (Grows X) 𝓛 at_mem run κ₁ κₓ q₁ qₓ from self.now.inner at offset len old
        new items (⊑_trans κ₁ κ₂ Z.row.lives inside lives) live said len_fits old_fits new_fits) $
        calls_at ! (fm_of 𝓤 H 𝓛.laws 𝓣) Called resizes resized
        (and_then ! (get ! refl)
        (and_then ! (get ! refl)
        (and_then ! (get ! refl)
        (and_then ! (get ! refl) (and_then ! (get ! refl) (no_more !)))))) (λ v.
        use1 𝓛 (later (raw (ex 𝓤 (Flagged 𝓛 (outcome ptr) v)) ⊛ ‵ (flft κ₁ q₁) ⊛ ‵
        (flft κₓ qₓ)))
        (Resizes-gives Z X (Grows X) 𝓛 at_mem run κ₁ κₓ q₁ qₓ from self.now.inner at offset len old
        new items v) $ await ! tt $ split3 ! $
        flagged ! v (outcome ptr)
        -- with a block
        (λ to place e. lands_as ! e refl (Answer-typed true to place) $ first ! $
        switches_on ! (get_tag ! (vrt ! refl (fld ! refl (stop !))) (whole !)) $
        exec ! 𝓣.C 𝓣.Λ En (arm_body 0 (front (after 7 (itself Z X).body))) Then $
        sets ! (of_opd ! (get_in ! (vrt ! refl (fld ! refl (stop !)))
        (in_variant ! 0 0 refl refl (whole !)))) refl (tt, tt) $
        sets_last ! (agg ! (and_then ! (lit ! tt) (and_then ! (get ! refl) (no_more !)))) refl
        (Answer-typed true to place) $
        exec ! 𝓣.C 𝓣.Λ En (after 8 (itself Z X).body) (at_ret En (Owed ptr)) $
        sets ! (of_opd ! (get ! refl)) refl (Answer-typed true to place) $ returns !
        (look_at ! 0 refl) $ free_all ! refl $ keep ! (0 ∷ 1 ∷ 3 ∷ 2 ∷ []) $
        by ! (exits ptr true to place))
        -- with none: the bytes are given back
        (λ e. lands_as ! e refl (Answer-typed false 0 0) $ first ! $
        switches_on ! (get_tag ! (vrt ! refl (fld ! refl (stop !))) (whole !)) $
        exec ! 𝓣.C 𝓣.Λ En (arm_body 1 (front (after 7 (itself Z X).body))) Then $
        sets ! (addr ! (through ! refl (fld ! refl (stop !)))) refl (tt, tt) $
        move ! (4 ∷ 1 ∷ 3 ∷ []) $
        use3 𝓛 (raw ((Returned Z 𝓛 at_mem run).pre untold))
        (returned_goes Z 𝓛 at_mem run κ₁ κ₂ q₁ q₂ inside left self.now.shared bytes lives et.1) $
        calls_at ! (fm_of 𝓤 H 𝓛.laws 𝓣) (Returned Z 𝓛 at_mem run) returned untold
        (and_then ! (get ! refl) (and_then ! (get ! refl) (no_more !))) (λ w.
        use1 𝓛 (later (given (w ≡ vunit) (‵ (flft κ₁ q₁) ⊛ ‵ (flft κ₂ q₂) ⊛ ‵ ftrue)))
        (returned_gives Z 𝓛 at_mem run κ₁ κ₂ q₁ q₂ inside left self.now.shared bytes w) $
        await ! tt $ learn ! (λ ew. lands_as ! ew refl (tt, tt) $ split ! $
        sets ! (agg ! (no_more !)) refl (tt, tt) $
        sets_last ! (agg ! (and_then ! (lit ! tt) (and_then ! (get ! refl) (no_more !)))) refl
        (Answer-typed false 0 0) $
        exec ! 𝓣.C 𝓣.Λ En (after 8 (itself Z X).body) (at_ret En (Owed ptr)) $
        sets ! (of_opd ! (get ! refl)) refl (Answer-typed false 0 0) $ returns ! (look_at ! 0 refl)
        $ free_all ! refl $ keep ! (2 ∷ 0 ∷ 1 ∷ 3 ∷ []) $ by ! (exits ptr false 0 0))))))))))))))

-- the code of this method keeps the contract that every allocator's has
pub grow_spec : {M : Type 1} → stated.statement M
unfolding tables_of
grow_spec 𝓤 𝓛 𝓜 𝓡 wired row item laws item_laws ghosts methods drops met dropped =
    let Z : Al = record { row = row; laws = laws; g = ghosts; d = methods; drops = drops } in
    let 𝓣 : Tables 𝓤 𝓛.H = tables_of 𝓤 𝓛.H 𝓜 (tables 𝓤 𝓛.H 𝓜 𝓡 𝓡.env) in
    let clauses = contract_of.clauses row item ghosts methods drops 𝓛 𝓜.mem 𝓡.returns in
    let number = plain (λ _. usize) in
    let Body = WpFn 𝓤 𝓛.H 𝓣.C 𝓣.Λ (itself Z item) in
    let grown = grown_met.met 𝓤 𝓛 𝓜 𝓡 (code.calls-budget_core::budget::growth 𝓡.env wired) in
    let taken = taken_met.met 𝓤 𝓛 𝓜 𝓡 (code.calls-budget_core::budget::take 𝓡.env wired)
    row laws ghosts methods drops met dropped in
    let returned = returned_met.met 𝓤 𝓛 𝓜 𝓡 (code.calls-budget_core::budget::give_back 𝓡.env wired)
    row laws ghosts methods drops met dropped in
    entered 𝓤 𝓛.H (triple_of 𝓛 (contract_of.signature row item ghosts methods drops)
    (contract_of.spec row item ghosts methods drops 𝓛 𝓜.mem 𝓡.returns)) 𝓣.C 𝓣.Λ
    (key.name (at_its_types Z item)) (itself Z item)
    (code.unfolded 𝓤 𝓛.H 𝓜 𝓡 wired (row, (item, tt)) methods drops)
    (walk_Meets 𝓛 (ended Z item) (stayed Z item) (
      Goes-dropped 𝓛 3 (lent Z item) yes (λ κs x f. refl),
      (
        Goes-dropped 𝓛 3 (plain (λ _. RawPtr)) yes (λ κs x f. refl),
        (
          Goes-dropped 𝓛 3 number yes (λ κs x f. refl),
          (
            Goes-dropped 𝓛 3 number yes (λ κs x f. refl),
            (Goes-dropped 𝓛 3 number yes (λ κs x f. refl), tt),
          ),
        ),
      ),
    )
    clauses Body (WpFn-mono 𝓤 𝓛.H 𝓛.laws 𝓣 (itself Z item))
    (walked 𝓛 (ended Z item) (stayed Z item) clauses Body
    (λ κs. (shr_vals, (rawptr_vals, (uint_vals w64, (uint_vals w64, (uint_vals w64, tt))))))
    (λ κs. (
      (λ r vs s. s.0),
      (rawptr_Tells, (uint_Tells w64, (uint_Tells w64, (uint_Tells w64, tt)))),
    ))
    (λ κs qs bounds a items are. walk Z item 𝓛 𝓜.mem 𝓡.returns 𝓣 (met.grow drops item item_laws)
    grown taken returned κs.0 κs.1.0 κs.1.1.0 qs.0 qs.1.0 qs.1.1.0 bounds.0 a.0 a.1.1.0 a.1.1.1.0
    a.1.1.1.1.0 items are.1.1.0.1 are.1.1.1.0.1 are.1.1.1.1.0.1 a.1.0)))
