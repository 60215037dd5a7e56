-- The bytes are taken, or the request is refused. The inner allocator answers it then, and if there
-- is no memory the bytes are given back. Assumes `Logic`.
use Rattle.std.proofs.Common.{◌≡◌, ℕ, ◌^◌, ◌<◌, true, false, Bool, List, [], ◌∷◌, Ok, Err, refl}
use Rattle.std.proofs.Common.{w64, Bor}
use seplogic.Ra.Ura.{Ura}
use mir.Syntax.{Ty, Fn}
use mir.Val.{Val, vbool, vint, vptr, vunit}
use mir.MapTy.{inst_fn}
use base.Logic.{SProp, ent, sep, id⊢}
use base.Fml.{Lft, Share, ftrue, flft}
use prog.Memory.{Memory, size, align, capped}
use prog.Routine.{Routine}
use prog.Wp.{WpFn, Tables, Env, Wp, after_seq, at_return}
use types.Logic.{Logic, sem}
use types.ByLocal.{alloc_all, pass_all, free_all, look_at, get, get_in, get_tag, through, sets}
use types.ByLocal.{sets_last, lands_as, env}
use types.Kit.{Post as After, any_q, ‵, raw, ◌⊛◌, some, later, given, at_ret, ◌$◌, ◌∵◌}
use types.Kit.{ !, qed, move, keep, use0, use1, use2, use3, split, join, learn, pick, fsplit, fjoin}
use types.Kit.{suffices, await, done}
use types.Match.{vrt, in_variant}
use types.Part.{agg, whole}
use types.Run.{stop, fld, addr, of_opd, un, lit, no_more, and_then, first, branches, skips, exec}
use types.Run.{switches_on, returns, returns_within, enter}
use contract.BorrowLft.{◌⊑◌, ⊑_trans}
use contract.Monad.{Fun, fact}
use contract.Running.{tables, tables_of}
use sound.WpLaws.{fm_of, WpFn-mono}
use denote.Builtin.{usize}
use denote.Exit.{yes}
use denote.Opens.{unhide, shr_dup}
use denote.Param.{param}
use denote.Param.Laws.{param_laws}
use denote.Plain.{uint_vals, uint_Tells}
use denote.RattleType.{owns}
use denote.RawPtr.{block_ptr}
use denote.Ref.{shr_vals}
use denote.Signature.{plain, types_at}
use denote.Steps.{heard, nothing}
use denote.Triple.Call.{calls_at}
use denote.Triple.Clauses.{Ended, Clauses}
use denote.Triple.Spec.{triple_of}
use denote.Triple.Statement.{Triple}
use denote.Triple.Table.{entered}
use denote.Triple.Walked.{Stays, stay_dropped, walk_of, ends_at, walked, Goes-dropped, walk_Meets}
use Rattle.std.proofs.alloc.Calls.{Al, seen, token, got, Answer, answer_val, Answer-typed}
use Rattle.std.proofs.alloc.Calls.{Answer-Ok, Answer-err, takes_key, Takes, at_takes, Answered}
use Rattle.std.proofs.alloc.Calls.{Takes-goes, Takes-gives, answers}
use Rattle.std.proofs.alloc.Shapes.{after, front, arm_body}
use Rattle.budget_core.proofs.Budgeting.{Whole, lent, at_its_type, inner_of, left_of, Taken}
use Rattle.budget_core.proofs.Budgeting.{at_taken, taken_goes, taken_gives, Returned, at_returned}
use Rattle.budget_core.proofs.Budgeting.{returned_goes, returned_gives}
use Rattle.budget_core.proofs.budget.Budget.TheLaws.{the_row_laws}
use Rattle.budget_core.proofs.budget.give_back.Met as returned_met
use Rattle.budget_core.proofs.budget.give_back.Symbol as returned_key
use Rattle.budget_core.proofs.budget.take.Met as taken_met
use Rattle.budget_core.proofs.budget.take.Symbol as taken_key
use Rattle.budget_core.specs.contracts.budget.BudgetAllocator.allocate as contract_of
use Rattle.budget_core.specs.contracts.budget.BudgetAllocator.allocate.Key as key
use Rattle.budget_core.proofs.budget.BudgetAllocator.allocate.Code as code
use Rattle.budget_core.proofs.budget.BudgetAllocator.allocate.Statement as stated

module _ (Z : Al) where
  abbrev itself : Fn
  itself = inst_fn (at_its_type Z) code.function

  abbrev ended : Ended
  ended = contract_of.ended Z.row Z.g Z.d Z.drops

  abbrev stayed : Stays ended.signature.params ended.kept
  stayed = (
    stay_dropped (lent Z) yes,
    (stay_dropped (plain (λ _. usize)) yes, (stay_dropped (plain (λ _. usize)) yes, tt)),
  )

module _ (Z : Al) {M : Type 1} {𝓤 : Ura M} (𝓛 : Logic 𝓤) (at_mem : Memory → SProp 𝓤)
    (run : Routine → Fun 𝓤) (𝓣 : Tables 𝓤 𝓛.H)
    (takes : Triple 𝓤 (𝓣.C (takes_key Z)) (Takes Z 𝓛 at_mem run))
    (taken : Triple 𝓤 (𝓣.C (taken_key.name (at_its_type Z))) (Taken Z 𝓛 at_mem run))
    (returned : Triple 𝓤 (𝓣.C (returned_key.name (at_its_type Z))) (Returned Z 𝓛 at_mem run)) where
  open 𝓛 use {H, A}

  abbrev clauses : Clauses 𝓤 (ended Z)
  clauses = contract_of.clauses Z.row Z.g Z.d Z.drops 𝓛 at_mem run

  module _ (κ₁ κ₂ : Lft) (q₁ q₂ : Share) (inside : κ₁ ⊑ κ₂) (self : Bor (Whole Z).Denot)
      (bytes aligned : ℕ) (τ : Ty) where
    abbrev bound : (walk_of 𝓛 (ended Z) (stayed Z) clauses).Ghost
    bound = (
      (
        (κ₁, (κ₂, tt)),
        (q₁, (q₂, tt)),
        (inside, tt),
        (self, (bytes, (aligned, tt))),
        (shr_vals self, (vint w64 bytes ∷ [], (vint w64 aligned ∷ [], tt))),
      ),
      τ,
    )

    abbrev handed : List Val
    handed = vptr self.ref_ptr.0 self.ref_ptr.1 ∷ vint w64 bytes ∷ vint w64 aligned ∷ []

    abbrev Owed : Val → SProp 𝓤
    Owed = (walk_of 𝓛 (ended Z) (stayed Z) clauses).post bound

    abbrev Fitting : Type 0
    Fitting = (capped (size τ) ≡ bytes) × (capped (align τ) ≡ aligned)

    abbrev Tokens : SProp 𝓤
    Tokens = sep 𝓤 (A.lft κ₁ q₁) (sep 𝓤 (A.lft κ₂ q₂) (sem 𝓛 ftrue))

    -- what is owed at the end, where there is no memory
    refused : ent 𝓤 Tokens (Owed (answer_val false 0 0))
    refused =
        qed 𝓛 (‵ (flft κ₁ q₁) ∷ (‵ (flft κ₂ q₂) ⊛ ‵ ftrue) ∷ []) ∵
        suffices ! _ (ends_at 𝓛 (ended Z) (stayed Z) clauses bound (answer_val false 0 0)
        (Err (record {})) (tt, (tt, (tt, tt))) (tt, (tt, (tt, tt)))) $
        nothing ! $ use0 𝓛 (‵ (Answer.own_val (Err (record {})) (answer_val false 0 0 ∷ [])))
        (Answer-err 𝓛) $ nothing ! $ nothing ! $ fjoin ! $ nothing ! $ fjoin ! $ nothing ! $
        fjoin ! $ join ! $
        move ! (2 ∷ 3 ∷ []) $ join ! $ join ! $ done !

    -- and where there is a block
    served : (block offset : ℕ) →
        ent 𝓤 (sep 𝓤 (sem 𝓛 (got (token Z self.now.inner) τ true block offset)) Tokens)
        (Owed (answer_val true block offset))
    served block offset =
        qed 𝓛 (‵ (got (token Z self.now.inner) τ true block offset) ∷ ‵
        (flft κ₁ q₁) ∷ (‵ (flft κ₂ q₂) ⊛ ‵ ftrue) ∷ []) ∵
        suffices ! _ (ends_at 𝓛 (ended Z) (stayed Z) clauses bound (answer_val true block offset)
        (Ok (block_ptr block offset)) (tt, (tt, (tt, tt))) (tt, (tt, (tt, tt)))) $
        use0 𝓛 (‵ (Answer.own_val (Ok (block_ptr block offset))
        (answer_val true block offset ∷ []))) (Answer-Ok 𝓛 block offset) $ nothing ! $ nothing !
        $ fjoin ! $ nothing ! $ fjoin ! $ nothing ! $ fjoin ! $ join ! $
        move ! (2 ∷ 3 ∷ []) $ join ! $ join ! $ done !

    -- the body gives what is owed of a request, at sizes that are words
    walk : bytes < 2 ^ 64 → aligned < 2 ^ 64 →
        ent 𝓤 ((walk_of 𝓛 (ended Z) (stayed Z) clauses).pre bound)
        (WpFn 𝓤 H 𝓣.C 𝓣.Λ (itself Z) handed Owed)
    walk few small =
        let from : ℕ × ℕ = inner_of Z self.ref_ptr in
        let left : ℕ × ℕ = left_of Z self.ref_ptr in
        let asked = at_takes Z 𝓛 at_mem run κ₁ q₁ from self.now.inner bytes aligned τ in
        let counted = at_taken Z 𝓛 at_mem run κ₁ κ₂ q₁ q₂ inside left self.now.shared bytes in
        let uncounted = at_returned Z 𝓛 at_mem run κ₁ κ₂ q₁ q₂ inside left self.now.shared bytes in
        qed 𝓛 (((‵ (flft κ₁ q₁) ⊛ ‵ (flft κ₂ q₂) ⊛ ‵ ftrue) ⊛ ‵
        (owns (types_at (ended Z).signature.params bound.0.0) bound.0.3 bound.0.4)) ∷ (raw
        (fact 𝓤 (κ₂ ⊑ Z.row.lives)) ⊛ raw (fact 𝓤 Fitting)) ∷ []) ∵
        move ! (1 ∷ []) $ split ! $ heard ! (κ₂ ⊑ Z.row.lives) (λ lives. heard ! Fitting (λ fitting.
        -- the count, the tokens of both lifetimes, the inner allocator, and the count again
        split ! $ split ! $ move ! (2 ∷ []) $ fsplit ! $ fsplit ! $ move ! (1 ∷ []) $
        shr_dup ! (Whole Z)
        (the_row_laws (param 0 Z.row) Z.g (param_laws 0 Z.row Z.laws)).shr_laws self.now
        self.ref_ptr.0 self.ref_ptr.1 κ₁ $
        unhide ! $ fsplit ! $ fsplit ! $
        use1 𝓛 (‵ (seen Z κ₁ from self.now.inner)) (id⊢ 𝓤 _) $ move ! (1 ∷ []) $ fsplit ! $
        move ! (4 ∷ []) $ unhide ! $ fsplit ! $ fsplit ! $ move ! (1 ∷ []) $ fsplit ! $
        keep ! (4 ∷ 10 ∷ 11 ∷ 6 ∷ 0 ∷ []) $
        enter ! 𝓣.C 𝓣.Λ (itself Z) handed _ $ alloc_all !
        (λ l. pass_all ! refl (
          (tt, tt),
          ((tt, record { fits = few }), ((tt, record { fits = small }), tt)),
        ) $
        let En : Env 𝓤 H = env (itself Z).locals l in
        let Then : After 𝓤 H = any_q (after_seq 𝓤 H
        (Wp 𝓤 H 𝓣.C 𝓣.Λ En (after 7 (itself Z).body) (at_return 𝓤 H En Owed))
        (at_return 𝓤 H En Owed)) in
        -- the bytes are taken
        sets ! (addr ! (through ! refl (fld ! refl (stop !)))) refl (tt, tt) $
        use3 𝓛 (raw ((Taken Z 𝓛 at_mem run).pre counted))
        (taken_goes Z 𝓛 at_mem run κ₁ κ₂ q₁ q₂ inside left self.now.shared bytes lives few) $
        calls_at ! (fm_of 𝓤 H 𝓛.laws 𝓣) (Taken Z 𝓛 at_mem run) taken counted
        (and_then ! (get ! refl) (and_then ! (get ! refl) (no_more !))) (λ u.
        use1 𝓛 (later (some (λ (is_it : Bool). given (u ≡ vbool is_it)
        (‵ (flft κ₁ q₁) ⊛ ‵ (flft κ₂ q₂) ⊛ ‵ ftrue))))
        (taken_gives Z 𝓛 at_mem run κ₁ κ₂ q₁ q₂ inside left self.now.shared bytes u) $
        await ! tt $ pick ! (λ is_it. learn ! (λ eu. lands_as ! eu refl (tt, tt) $ split ! $
        sets ! (un ! (get ! refl) tt) refl (tt, tt) $ first ! $ branches ! (get ! refl)
        -- too few are left
        (λ _. sets ! (agg ! (no_more !)) refl (tt, tt) $ sets !
        (agg ! (and_then ! (lit ! tt) (and_then ! (get ! refl) (no_more !)))) refl
        (Answer-typed false 0 0) $
        returns_within ! Owed refl (look_at ! 0 refl) $ free_all ! refl $ keep ! (0 ∷ 1 ∷ []) $
        use2 𝓛 (raw (Owed (answer_val false 0 0))) refused $ done !)
        -- the inner allocator answers
        (λ _. skips ! $ exec ! 𝓣.C 𝓣.Λ En (after 4 (itself Z).body) (at_ret En Owed) $
        move ! (2 ∷ 0 ∷ []) $ sets ! (addr ! (through ! refl (fld ! refl (stop !)))) refl (tt, tt) $
        use2 𝓛 (raw ((Takes Z 𝓛 at_mem run).pre asked))
        (Takes-goes Z 𝓛 at_mem run κ₁ q₁ from self.now.inner
        (⊑_trans κ₁ κ₂ Z.row.lives inside lives) bytes aligned τ fitting.0 fitting.1 few small) $
        calls_at ! (fm_of 𝓤 H 𝓛.laws 𝓣) (Takes Z 𝓛 at_mem run) takes asked
        (and_then ! (get ! refl)
        (and_then ! (get ! refl) (and_then ! (get ! refl) (no_more !)))) (λ v.
        use1 𝓛 (later (raw (Answered Z 𝓛 at_mem run self.now.inner τ v) ⊛ ‵ (flft κ₁ q₁)))
        (Takes-gives Z 𝓛 at_mem run κ₁ q₁ from self.now.inner bytes aligned τ v) $ await ! tt $
        split ! $
        answers Z ! at_mem run self.now.inner τ v
        -- with a block
        (λ block offset e. lands_as ! e refl (Answer-typed true block offset) $ first ! $
        switches_on ! (get_tag ! (vrt ! refl (fld ! refl (stop !))) (whole !)) $
        exec ! 𝓣.C 𝓣.Λ En (arm_body 0 (front (after 6 (itself Z).body))) Then $
        sets ! (of_opd ! (get_in ! (vrt ! refl (fld ! refl (stop !)))
        (in_variant ! 0 0 refl refl (whole !)))) refl (tt, tt) $
        sets_last ! (agg ! (and_then ! (lit ! tt) (and_then ! (get ! refl) (no_more !)))) refl
        (Answer-typed true block offset) $
        exec ! 𝓣.C 𝓣.Λ En (after 7 (itself Z).body) (at_ret En Owed) $
        sets ! (of_opd ! (get ! refl)) refl (Answer-typed true block offset) $ returns !
        (look_at ! 0 refl) $ free_all ! refl $ fjoin ! $ keep ! (0 ∷ 1 ∷ 2 ∷ []) $
        use3 𝓛 (raw (Owed (answer_val true block offset))) (served block offset) $ done !)
        -- with none: the bytes are given back
        (λ e. lands_as ! e refl (Answer-typed false 0 0) $ first ! $
        switches_on ! (get_tag ! (vrt ! refl (fld ! refl (stop !))) (whole !)) $
        exec ! 𝓣.C 𝓣.Λ En (arm_body 1 (front (after 6 (itself Z).body))) Then $
        sets ! (addr ! (through ! refl (fld ! refl (stop !)))) refl (tt, tt) $
        move ! (2 ∷ 0 ∷ 1 ∷ []) $
        use3 𝓛 (raw ((Returned Z 𝓛 at_mem run).pre uncounted))
        (returned_goes Z 𝓛 at_mem run κ₁ κ₂ q₁ q₂ inside left self.now.shared bytes lives few) $
        calls_at ! (fm_of 𝓤 H 𝓛.laws 𝓣) (Returned Z 𝓛 at_mem run) returned uncounted
        (and_then ! (get ! refl) (and_then ! (get ! refl) (no_more !))) (λ w.
        use1 𝓛 (later (given (w ≡ vunit) (‵ (flft κ₁ q₁) ⊛ ‵ (flft κ₂ q₂) ⊛ ‵ ftrue)))
        (returned_gives Z 𝓛 at_mem run κ₁ κ₂ q₁ q₂ inside left self.now.shared bytes w) $
        await ! tt $ learn ! (λ ew. lands_as ! ew refl (tt, tt) $ split ! $
        sets ! (agg ! (no_more !)) refl (tt, tt) $
        sets_last ! (agg ! (and_then ! (lit ! tt) (and_then ! (get ! refl) (no_more !)))) refl
        (Answer-typed false 0 0) $
        exec ! 𝓣.C 𝓣.Λ En (after 7 (itself Z).body) (at_ret En Owed) $
        sets ! (of_opd ! (get ! refl)) refl (Answer-typed false 0 0) $ returns ! (look_at ! 0 refl)
        $ free_all ! refl $ keep ! (0 ∷ 1 ∷ []) $
        use2 𝓛 (raw (Owed (answer_val false 0 0))) refused $ done !)))))))))))

-- the code of this method keeps the contract that every allocator's has
pub allocate_spec : {M : Type 1} → stated.statement M
unfolding tables_of
allocate_spec 𝓤 𝓛 𝓜 𝓡 wired row laws ghosts methods drops met dropped =
    let Z : Al = record { row = row; laws = laws; g = ghosts; d = methods; drops = drops } in
    let 𝓣 : Tables 𝓤 𝓛.H = tables_of 𝓤 𝓛.H 𝓜 (tables 𝓤 𝓛.H 𝓜 𝓡 𝓡.env) in
    let clauses = contract_of.clauses row ghosts methods drops 𝓛 𝓜.mem 𝓡.returns in
    let number = plain (λ _. usize) in
    let Body = WpFn 𝓤 𝓛.H 𝓣.C 𝓣.Λ (itself Z) in
    let taken = taken_met.met 𝓤 𝓛 𝓜 𝓡 (code.calls-budget_core::budget::take 𝓡.env wired)
    row laws ghosts methods drops met dropped in
    let returned = returned_met.met 𝓤 𝓛 𝓜 𝓡 (code.calls-budget_core::budget::give_back 𝓡.env wired)
    row laws ghosts methods drops met dropped in
    entered 𝓤 𝓛.H (triple_of 𝓛 (contract_of.signature row ghosts methods drops)
    (contract_of.spec row ghosts methods drops 𝓛 𝓜.mem 𝓡.returns)) 𝓣.C 𝓣.Λ
    (key.name (at_its_type Z)) (itself Z)
    (code.unfolded 𝓤 𝓛.H 𝓜 𝓡 wired (row, tt) methods drops)
    (walk_Meets 𝓛 (ended Z) (stayed Z) (
      Goes-dropped 𝓛 2 (lent Z) yes (λ κs x f. refl),
      (
        Goes-dropped 𝓛 2 number yes (λ κs x f. refl),
        (Goes-dropped 𝓛 2 number yes (λ κs x f. refl), tt),
      ),
    )
    clauses Body (WpFn-mono 𝓤 𝓛.H 𝓛.laws 𝓣 (itself Z))
    (walked 𝓛 (ended Z) (stayed Z) clauses Body
    (λ κs. (shr_vals, (uint_vals w64, (uint_vals w64, tt))))
    (λ κs. ((λ r vs s. s.0), (uint_Tells w64, (uint_Tells w64, tt))))
    (λ κs qs bounds a τ are. walk Z 𝓛 𝓜.mem 𝓡.returns 𝓣 (met.allocate drops) taken returned κs.0
    κs.1.0 qs.0 qs.1.0 bounds.0 a.0 a.1.0 a.1.1.0 τ are.1.0.1 are.1.1.0.1)))
