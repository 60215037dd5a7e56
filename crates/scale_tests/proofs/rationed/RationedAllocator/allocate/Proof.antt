-- The request is counted; the one to be refused is, and any other is the inner allocator's to
-- answer. Assumes `Logic`.
use Rattle.std.proofs.Common.{◌≡◌, ℕ, ◌^◌, ◌<◌, true, false, Bool, List, [], ◌∷◌, Ok, Err, refl}
use Rattle.std.proofs.Common.{w64, Bor}
use seplogic.Ra.Ura.{Ura}
use mir.Syntax.{Ty, Fn, Place}
use mir.Val.{Val, vbool, vint, vptr}
use mir.MapTy.{inst_fn}
use base.Logic.{SProp, ent, sep, id⊢}
use base.Fml.{Lft, Share, ftrue, flft}
use prog.Memory.{Memory, size, align, capped}
use prog.Routine.{Routine}
use prog.Wp.{WpFn, Tables, Env}
use types.Logic.{Logic, sem}
use types.ByLocal.{alloc_all, pass_all, free_all, look_at, get, through, sets, sets_last, lands_as}
use types.ByLocal.{lands_last, env}
use types.Kit.{Item, Post, Step, settles, regoal, ‵, raw, ◌⊛◌, some, later, given, at_ret, ◌$◌, ◌∵◌}
use types.Kit.{ !, qed, move, keep, use0, use1, use2, use3, split, join, learn, pick, fsplit, fjoin}
use types.Kit.{suffices, await, done}
use types.Part.{agg}
use types.Run.{stop, fld, addr, of_opd, lit, no_more, and_then, first, branches, exec, returns}
use types.Run.{enter}
use contract.BorrowLft.{◌⊑◌, ⊑_trans}
use contract.Monad.{Fun, fact}
use contract.Running.{tables, tables_of}
use sound.WpLaws.{fm_of, WpFn-mono}
use denote.Builtin.{usize}
use denote.Exit.{yes}
use denote.Opens.{unhide}
use denote.Plain.{uint_vals, uint_Tells}
use denote.RattleType.{owns}
use denote.RawPtr.{block_ptr}
use denote.Ref.{shr_vals}
use denote.Signature.{plain, types_at}
use denote.Steps.{heard, nothing}
use denote.Triple.Call.{calls_at, calls_at_last}
use denote.Triple.Clauses.{Ended, Clauses}
use denote.Triple.Spec.{triple_of}
use denote.Triple.Statement.{Triple}
use denote.Triple.Table.{entered, cited}
use denote.Triple.Walked.{Stays, stay_dropped, walk_of, ends_at, walked, Goes-dropped, walk_Meets}
use Rattle.std.proofs.alloc.Calls.{Al, seen, token, got, Answer, answer_val, Answer-typed}
use Rattle.std.proofs.alloc.Calls.{Answer-Ok, Answer-err, takes_key, Takes, at_takes, Answered}
use Rattle.std.proofs.alloc.Calls.{Takes-goes, Takes-gives, answers}
use Rattle.std.proofs.alloc.Shapes.{after}
use Rattle.scale_tests.proofs.Rationing.{lent, at_its_type, inner_of, count_of, Counts, at_count}
use Rattle.scale_tests.proofs.Rationing.{count_goes, count_gives}
use Rattle.scale_tests.proofs.rationed.is_refused.Met as count_met
use Rattle.scale_tests.proofs.rationed.is_refused.Symbol as count_key
use Rattle.scale_tests.specs.contracts.rationed.Rationed as rationed
use Rattle.scale_tests.specs.contracts.rationed.RationedAllocator.allocate as contract_of
use Rattle.scale_tests.specs.contracts.rationed.RationedAllocator.allocate.Key as key
use Rattle.scale_tests.proofs.rationed.RationedAllocator.allocate.Code as code
use Rattle.scale_tests.proofs.rationed.RationedAllocator.allocate.Statement as stated

-- a result that is known to be another value is stored as that, at the end of an arm
lands_as_last : {M : Type 1} {𝓤 : Ura M} {𝓛 : Logic 𝓤} {K : Type 0} {Γ : List (Item 𝓤)}
    {E : Env 𝓤 𝓛.H} {to : Place} {q : Post 𝓤 𝓛.H} {v stored : Val}
    → K → v ≡ stored → Step K 𝓛 Γ (settles E to stored q) Γ (settles E to v q)
lands_as_last {E = E} {to = to} {q = q} t e = regoal t (λ (z : Val). settles E to z q) e refl

module _ (Z : Al) where
  abbrev itself : Fn
  itself = inst_fn (at_its_type Z) code.function

  abbrev ended : Ended
  ended = contract_of.ended Z.row Z.g Z.d Z.drops

  abbrev stayed : Stays ended.signature.params ended.kept
  stayed = (
    stay_dropped (lent Z) yes,
    (stay_dropped (plain (λ _. usize)) yes, (stay_dropped (plain (λ _. usize)) yes, tt)),
  )

module _ (Z : Al) {M : Type 1} {𝓤 : Ura M} (𝓛 : Logic 𝓤) (at_mem : Memory → SProp 𝓤)
    (run : Routine → Fun 𝓤) (𝓣 : Tables 𝓤 𝓛.H)
    (takes : Triple 𝓤 (𝓣.C (takes_key Z)) (Takes Z 𝓛 at_mem run))
    (counts : Triple 𝓤 (𝓣.C count_key.name) (Counts 𝓛 at_mem run)) where
  open 𝓛 use {H, A}

  abbrev clauses : Clauses 𝓤 (ended Z)
  clauses = contract_of.clauses Z.row Z.g Z.d Z.drops 𝓛 at_mem run

  module _ (κ₁ κ₂ : Lft) (q₁ q₂ : Share) (inside : κ₁ ⊑ κ₂)
      (self : Bor (rationed.the_row Z.row).Denot) (bytes aligned : ℕ) (τ : Ty) where
    abbrev bound : (walk_of 𝓛 (ended Z) (stayed Z) clauses).Ghost
    bound = (
      (
        (κ₁, (κ₂, tt)),
        (q₁, (q₂, tt)),
        (inside, tt),
        (self, (bytes, (aligned, tt))),
        (shr_vals self, (vint w64 bytes ∷ [], (vint w64 aligned ∷ [], tt))),
      ),
      τ,
    )

    abbrev handed : List Val
    handed = vptr self.ref_ptr.0 self.ref_ptr.1 ∷ vint w64 bytes ∷ vint w64 aligned ∷ []

    abbrev Owed : Val → SProp 𝓤
    Owed = (walk_of 𝓛 (ended Z) (stayed Z) clauses).post bound

    abbrev Fitting : Type 0
    Fitting = (capped (size τ) ≡ bytes) × (capped (align τ) ≡ aligned)

    abbrev Tokens : SProp 𝓤
    Tokens = sep 𝓤 (A.lft κ₁ q₁) (sep 𝓤 (A.lft κ₂ q₂) (sem 𝓛 ftrue))

    -- what is owed at the end, where there is no memory
    refused : ent 𝓤 Tokens (Owed (answer_val false 0 0))
    refused =
        qed 𝓛 (‵ (flft κ₁ q₁) ∷ (‵ (flft κ₂ q₂) ⊛ ‵ ftrue) ∷ []) ∵
        suffices ! _ (ends_at 𝓛 (ended Z) (stayed Z) clauses bound (answer_val false 0 0)
        (Err (record {})) (tt, (tt, (tt, tt))) (tt, (tt, (tt, tt)))) $
        nothing ! $ use0 𝓛 (‵ (Answer.own_val (Err (record {})) (answer_val false 0 0 ∷ [])))
        (Answer-err 𝓛) $ nothing ! $ nothing ! $ fjoin ! $ nothing ! $ fjoin ! $ nothing ! $
        fjoin ! $ join ! $
        move ! (2 ∷ 3 ∷ []) $ join ! $ join ! $ done !

    -- and where there is a block
    served : (block offset : ℕ) →
        ent 𝓤 (sep 𝓤 (sem 𝓛 (got (token Z self.now.inner) τ true block offset)) Tokens)
        (Owed (answer_val true block offset))
    served block offset =
        qed 𝓛 (‵ (got (token Z self.now.inner) τ true block offset) ∷ ‵
        (flft κ₁ q₁) ∷ (‵ (flft κ₂ q₂) ⊛ ‵ ftrue) ∷ []) ∵
        suffices ! _ (ends_at 𝓛 (ended Z) (stayed Z) clauses bound (answer_val true block offset)
        (Ok (block_ptr block offset)) (tt, (tt, (tt, tt))) (tt, (tt, (tt, tt)))) $
        use0 𝓛 (‵ (Answer.own_val (Ok (block_ptr block offset))
        (answer_val true block offset ∷ []))) (Answer-Ok 𝓛 block offset) $ nothing ! $ nothing !
        $ fjoin ! $ nothing ! $ fjoin ! $ nothing ! $ fjoin ! $ join ! $
        move ! (2 ∷ 3 ∷ []) $ join ! $ join ! $ done !

    -- the body gives what is owed of a request, at sizes that are words
    walk : bytes < 2 ^ 64 → aligned < 2 ^ 64 →
        ent 𝓤 ((walk_of 𝓛 (ended Z) (stayed Z) clauses).pre bound)
        (WpFn 𝓤 H 𝓣.C 𝓣.Λ (itself Z) handed Owed)
    walk few small =
        let from : ℕ × ℕ = inner_of Z self.ref_ptr in
        let count : ℕ × ℕ = count_of Z self.ref_ptr in
        let taken = at_takes Z 𝓛 at_mem run κ₁ q₁ from self.now.inner bytes aligned τ in
        qed 𝓛 (((‵ (flft κ₁ q₁) ⊛ ‵ (flft κ₂ q₂) ⊛ ‵ ftrue) ⊛ ‵
        (owns (types_at (ended Z).signature.params bound.0.0) bound.0.3 bound.0.4)) ∷ (raw
        (fact 𝓤 (κ₂ ⊑ Z.row.lives)) ⊛ raw (fact 𝓤 Fitting)) ∷ []) ∵
        move ! (1 ∷ []) $ split ! $ heard ! (κ₂ ⊑ Z.row.lives) (λ lives. heard ! Fitting (λ fitting.
        -- the inner allocator, the count, and the tokens of both lifetimes
        split ! $ split ! $ move ! (2 ∷ []) $ fsplit ! $ fsplit ! $ move ! (1 ∷ []) $ unhide ! $
        fsplit ! $ fsplit ! $
        use1 𝓛 (‵ (seen Z κ₁ from self.now.inner)) (id⊢ 𝓤 _) $ move ! (1 ∷ []) $ fsplit ! $ keep !
        (0 ∷ 6 ∷ 2 ∷ 7 ∷ []) $
        enter ! 𝓣.C 𝓣.Λ (itself Z) handed _ $ alloc_all !
        (λ l. pass_all ! refl (
          (tt, tt),
          ((tt, record { fits = few }), ((tt, record { fits = small }), tt)),
        ) $
        -- the request is counted
        sets ! (addr ! (through ! refl (fld ! refl (stop !)))) refl (tt, tt) $
        use2 𝓛 (raw ((Counts 𝓛 at_mem run).pre (at_count 𝓛 at_mem run κ₁ q₁ count)))
        (count_goes 𝓛 at_mem run κ₁ q₁ count) $
        calls_at ! (fm_of 𝓤 H 𝓛.laws 𝓣) (Counts 𝓛 at_mem run) counts
        (at_count 𝓛 at_mem run κ₁ q₁ count) (and_then ! (get ! refl) (no_more !)) (λ u.
        use1 𝓛 (later (some (λ (is_it : Bool). given (u ≡ vbool is_it) (‵ (flft κ₁ q₁)))))
        (count_gives 𝓛 at_mem run κ₁ q₁ count u) $ await ! tt $ pick !
        (λ is_it. learn ! (λ eu. lands_as ! eu refl (tt, tt) $
        first ! $ branches ! (get ! refl)
        -- it is refused
        (λ _. sets ! (agg ! (no_more !)) refl (tt, tt) $ sets_last !
        (agg ! (and_then ! (lit ! tt) (and_then ! (get ! refl) (no_more !)))) refl
        (Answer-typed false 0 0) $
        exec ! 𝓣.C 𝓣.Λ (env (itself Z).locals l) (after 3 (itself Z).body)
        (at_ret (env (itself Z).locals l) Owed) $
        sets ! (of_opd ! (get ! refl)) refl (Answer-typed false 0 0) $ returns ! (look_at ! 0 refl)
        $ free_all ! refl $ keep ! (0 ∷ 2 ∷ []) $
        use2 𝓛 (raw (Owed (answer_val false 0 0))) refused $ done !)
        -- it is the inner allocator's to answer
        (λ _. move ! (1 ∷ []) $ sets ! (addr ! (through ! refl (fld ! refl (stop !)))) refl (tt, tt)
        $
        use2 𝓛 (raw ((Takes Z 𝓛 at_mem run).pre taken))
        (Takes-goes Z 𝓛 at_mem run κ₁ q₁ from self.now.inner
        (⊑_trans κ₁ κ₂ Z.row.lives inside lives) bytes aligned τ fitting.0 fitting.1 few small)
        $
        calls_at_last ! (fm_of 𝓤 H 𝓛.laws 𝓣) (Takes Z 𝓛 at_mem run) takes taken
        (and_then ! (get ! refl)
        (and_then ! (get ! refl) (and_then ! (get ! refl) (no_more !)))) (λ v.
        use1 𝓛 (later (raw (Answered Z 𝓛 at_mem run self.now.inner τ v) ⊛ ‵ (flft κ₁ q₁)))
        (Takes-gives Z 𝓛 at_mem run κ₁ q₁ from self.now.inner bytes aligned τ v) $ await ! tt $
        split ! $
        answers Z ! at_mem run self.now.inner τ v
        (λ block offset e. lands_as_last ! e $ lands_last ! refl (Answer-typed true block offset) $
        exec ! 𝓣.C 𝓣.Λ (env (itself Z).locals l) (after 3 (itself Z).body)
        (at_ret (env (itself Z).locals l) Owed) $
        sets ! (of_opd ! (get ! refl)) refl (Answer-typed true block offset) $ returns !
        (look_at ! 0 refl) $ free_all ! refl $ fjoin ! $ keep ! (0 ∷ 1 ∷ 2 ∷ []) $
        use3 𝓛 (raw (Owed (answer_val true block offset))) (served block offset) $ done !)
        (λ e. lands_as_last ! e $ lands_last ! refl (Answer-typed false 0 0) $
        exec ! 𝓣.C 𝓣.Λ (env (itself Z).locals l) (after 3 (itself Z).body)
        (at_ret (env (itself Z).locals l) Owed) $
        sets ! (of_opd ! (get ! refl)) refl (Answer-typed false 0 0) $ returns ! (look_at ! 0 refl)
        $ free_all ! refl $ keep ! (0 ∷ 1 ∷ []) $
        use2 𝓛 (raw (Owed (answer_val false 0 0))) refused $ done !)))))))))

-- the code of this method keeps the contract that every allocator's has
pub allocate_spec : {M : Type 1} → stated.statement M
unfolding tables_of
allocate_spec 𝓤 𝓛 𝓜 𝓡 wired row laws ghosts methods drops met _ =
    let Z : Al = record { row = row; laws = laws; g = ghosts; d = methods; drops = drops } in
    let 𝓣 : Tables 𝓤 𝓛.H = tables_of 𝓤 𝓛.H 𝓜 (tables 𝓤 𝓛.H 𝓜 𝓡 𝓡.env) in
    let clauses = contract_of.clauses row ghosts methods drops 𝓛 𝓜.mem 𝓡.returns in
    let number = plain (λ _. usize) in
    let Body = WpFn 𝓤 𝓛.H 𝓣.C 𝓣.Λ (itself Z) in
    let counts = cited 𝓤 𝓛.H _ 𝓜 𝓡 𝓡.env count_key.name (𝓡.env count_key.name) refl
    (count_met.met 𝓤 𝓛 𝓜 𝓡 (code.calls-scale_tests::rationed::is_refused 𝓡.env wired)) in
    entered 𝓤 𝓛.H (triple_of 𝓛 (contract_of.signature row)
    (contract_of.spec row ghosts methods drops 𝓛 𝓜.mem 𝓡.returns)) 𝓣.C 𝓣.Λ
    (key.name (at_its_type Z)) (itself Z)
    (code.unfolded 𝓤 𝓛.H 𝓜 𝓡 wired (row, tt) methods drops)
    (walk_Meets 𝓛 (ended Z) (stayed Z) (
      Goes-dropped 𝓛 2 (lent Z) yes (λ κs x f. refl),
      (
        Goes-dropped 𝓛 2 number yes (λ κs x f. refl),
        (Goes-dropped 𝓛 2 number yes (λ κs x f. refl), tt),
      ),
    )
    clauses Body (WpFn-mono 𝓤 𝓛.H 𝓛.laws 𝓣 (itself Z))
    (walked 𝓛 (ended Z) (stayed Z) clauses Body
    (λ κs. (shr_vals, (uint_vals w64, (uint_vals w64, tt))))
    (λ κs. ((λ r vs s. s.0), (uint_Tells w64, (uint_Tells w64, tt))))
    (λ κs qs bounds a τ are. walk Z 𝓛 𝓜.mem 𝓡.returns 𝓣 (met.allocate drops) counts κs.0 κs.1.0 qs.0
    qs.1.0 bounds.0 a.0 a.1.0 a.1.1.0 τ are.1.0.1 are.1.1.0.1)))
