-- What the methods of the allocator with a budget share: the `&` to it, the places of its two
-- fields after that, and at a call the two functions over the count of what is left, and the one
-- that counts how many bytes more a larger block takes. Assumes `Logic`.
use Rattle.std.proofs.Common.{◌≡◌, ℕ, ◌+◌, ◌-◌, ◌*◌, ◌^◌, ◌<◌, min, Bool, List, [], ◌∷◌, refl}
use Rattle.std.proofs.Common.{ap, w64}
use seplogic.Ra.Ura.{Ura}
use mir.Syntax.{Args, a_type, dnil, dcons}
use mir.Val.{Val, vbool, vint, vptr, vunit}
use base.Logic.{SProp, ent, sep, ex, guard, emp, id⊢}
use base.Fml.{Lft, Share, ftrue, fsep}
use prog.Memory.{Memory, size, align, up}
use prog.Routine.{Routine}
use types.Logic.{Logic, sem}
use contract.BorrowLft.{◌⊑◌}
use contract.Monad.{Fun, fact, fact_i}
use types.Kit.{‵, raw, ◌⊛◌, some, later, ◌$◌, ◌∵◌, !, qed, move, keep, use0, use1, split, join}
use types.Kit.{drop, pick, fsplit, fjoin, feq_i, feq_l, flt_i, flt_l, check, show, await}
use types.Kit.{updating, now as at_once, done}
use denote.Builtin.{usize, bool, unit, RefOf}
use denote.Memory.{hidden_shr}
use denote.Param.{bounded, param}
use denote.RattleType.{RattleType}
use denote.Signature.{Slot, plain}
use denote.Steps.{nothing, only}
use denote.Triple.Spec.{triple_of}
use denote.Triple.Statement.{Contract}
use Rattle.std.specs.contracts.rc.Rc as rc
use Rattle.std.proofs.alloc.Calls.{Al, α}
use Rattle.budget_core.specs.contracts.budget.Budget as budget
use Rattle.budget_core.specs.contracts.budget.Shared as shared
use Rattle.budget_core.specs.contracts.budget.take as takes
use Rattle.budget_core.specs.contracts.budget.give_back as returns
use Rattle.budget_core.specs.contracts.budget.growth as grows

module _ (Z : Al) where
  abbrev pub Whole : RattleType
  Whole = budget.the_row (param 0 Z.row) Z.g

  abbrev pub Left : RattleType
  Left = rc.the_row shared.the_row (param 0 Z.row) Z.g

  abbrev pub lent : Slot 2
  lent = RefOf (0 ∷ []) tt (plain (λ _. Whole)) (λ _. tt)

  abbrev pub at_its_type : Args
  at_its_type = bounded (a_type ∷ []) (Z.row, tt) (dcons Z.d (dcons Z.drops dnil))

  abbrev pub inner_of : ℕ × ℕ → ℕ × ℕ
  inner_of place = (place.0, place.1 + up (align (α Z)) 0)

  abbrev pub left_of : ℕ × ℕ → ℕ × ℕ
  left_of place = (place.0, place.1 + up 8 (up (align (α Z)) 0 + size (α Z)))

module _ (Z : Al) {M : Type 1} {𝓤 : Ura M} (𝓛 : Logic 𝓤) (at_mem : Memory → SProp 𝓤)
    (run : Routine → Fun 𝓤) where
  open 𝓛 use {H, A}

  abbrev pub Taken : Contract 𝓤
  Taken = triple_of 𝓛 (takes.signature Z.row Z.g Z.d Z.drops)
      (takes.spec Z.row Z.g Z.d Z.drops 𝓛 at_mem run)

  abbrev pub Returned : Contract 𝓤
  Returned = triple_of 𝓛 (returns.signature Z.row Z.g Z.d Z.drops)
      (returns.spec Z.row Z.g Z.d Z.drops 𝓛 at_mem run)

  module _ (κ₁ κ₂ : Lft) (q₁ q₂ : Share) (inside : κ₁ ⊑ κ₂) (place : ℕ × ℕ)
      (left : (Left Z).Denot) (bytes : ℕ) where
    abbrev pub at_taken : Taken.Ghost
    at_taken = (
      (
        (κ₁, (κ₂, tt)),
        (q₁, (q₂, tt)),
        (inside, tt),
        (record { ref_ptr = place; now = left }, (bytes, tt)),
        (vptr place.0 place.1 ∷ [], (vint w64 bytes ∷ [], tt)),
      ),
      tt,
    )

    abbrev pub at_returned : Returned.Ghost
    at_returned = (
      (
        (κ₁, (κ₂, tt)),
        (q₁, (q₂, tt)),
        (inside, tt),
        (record { ref_ptr = place; now = left }, (bytes, tt)),
        (vptr place.0 place.1 ∷ [], (vint w64 bytes ∷ [], tt)),
      ),
      tt,
    )

    abbrev pub Tokens : SProp 𝓤
    Tokens = sep 𝓤 (A.lft κ₁ q₁) (sep 𝓤 (A.lft κ₂ q₂) (sem 𝓛 ftrue))

    abbrev pub Lent : SProp 𝓤
    Lent = sep 𝓤 (sem 𝓛 (hidden_shr (Left Z) κ₁ left place.0 place.1)) Tokens

    -- the count that is shared and the tokens are what a call that gives bytes back asks for
    pub returned_goes : κ₂ ⊑ Z.row.lives → bytes < 2 ^ 64 → ent 𝓤 Lent (Returned.pre at_returned)
    returned_goes lives few =
        qed 𝓛 (‵ (hidden_shr (Left Z) κ₁ left place.0 place.1) ∷ raw Tokens ∷ []) ∵
        nothing ! $ flt_i ! bytes (2 ^ 64) few $
        feq_i ! (List Val) (vint w64 bytes ∷ []) (vint w64 bytes ∷ []) refl $ fjoin ! $ fjoin ! $
        move ! (1 ∷ []) $
        feq_i ! (List Val) (vptr place.0 place.1 ∷ []) (vptr place.0 place.1 ∷ []) refl $
        fjoin ! $ fjoin ! $ move ! (1 ∷ 0 ∷ []) $ join ! $ nothing ! $
        use0 𝓛 (raw (fact 𝓤 (κ₂ ⊑ Z.row.lives))) (fact_i 𝓤 (κ₂ ⊑ Z.row.lives) (emp 𝓤) lives) $
        join ! $ move ! (1 ∷ 0 ∷ []) $ done !

    -- a call that gave bytes back gives the tokens back
    pub returned_gives : (v : Val) →
        ent 𝓤 (Returned.post at_returned v) (H.⇛ (guard 𝓤 (v ≡ vunit) Tokens))
    returned_gives v =
        qed 𝓛 (raw (Returned.post at_returned v) ∷ []) ∵ updating ! $
        use1 𝓛 (later (some (λ (r : Unit {0}). (raw Tokens ⊛ ‵ (unit.own_val r (v ∷ []))) ⊛ some
        (λ (ws : Unit {0} × (Unit {0} × Unit {0})). ‵ (fsep ftrue (fsep ftrue ftrue)) ⊛ ‵ ftrue))))
        (id⊢ 𝓤 _) $
        await ! tt $ pick ! (λ r. split ! $ split ! $ move ! (1 ∷ []) $ feq_l !
        (λ e. at_once ! $ check ! (ap only e) $ keep ! (0 ∷ []) $ done !))

    -- and what one that takes bytes asks for
    pub taken_goes : κ₂ ⊑ Z.row.lives → bytes < 2 ^ 64 → ent 𝓤 Lent (Taken.pre at_taken)
    taken_goes lives few =
        qed 𝓛 (‵ (hidden_shr (Left Z) κ₁ left place.0 place.1) ∷ raw Tokens ∷ []) ∵
        nothing ! $ flt_i ! bytes (2 ^ 64) few $
        feq_i ! (List Val) (vint w64 bytes ∷ []) (vint w64 bytes ∷ []) refl $ fjoin ! $ fjoin ! $
        move ! (1 ∷ []) $
        feq_i ! (List Val) (vptr place.0 place.1 ∷ []) (vptr place.0 place.1 ∷ []) refl $
        fjoin ! $ fjoin ! $ move ! (1 ∷ 0 ∷ []) $ join ! $ nothing ! $
        use0 𝓛 (raw (fact 𝓤 (κ₂ ⊑ Z.row.lives))) (fact_i 𝓤 (κ₂ ⊑ Z.row.lives) (emp 𝓤) lives) $
        join ! $ move ! (1 ∷ 0 ∷ []) $ done !

    abbrev pub Told : Val → Bool → SProp 𝓤
    Told v is_it = guard 𝓤 (v ≡ vbool is_it) Tokens

    -- this one says too whether the bytes were left
    pub taken_gives : (v : Val) → ent 𝓤 (Taken.post at_taken v) (H.⇛ (ex 𝓤 (Told v)))
    taken_gives v =
        qed 𝓛 (raw (Taken.post at_taken v) ∷ []) ∵ updating ! $
        use1 𝓛 (later (some (λ (is_it : Bool). (raw Tokens ⊛ ‵ (bool.own_val is_it (v ∷ []))) ⊛ some
        (λ (ws : Unit {0} × (Unit {0} × Unit {0})). ‵ (fsep ftrue (fsep ftrue ftrue)) ⊛ ‵ ftrue))))
        (id⊢ 𝓤 _) $
        await ! tt $ pick ! (λ is_it. split ! $ split ! $ move ! (1 ∷ []) $ feq_l !
        (λ e. at_once ! $ show ! (Told v) is_it $ check ! (ap only e) $ keep ! (0 ∷ []) $ done !))

module _ {M : Type 1} {𝓤 : Ura M} (𝓛 : Logic 𝓤) (at_mem : Memory → SProp 𝓤)
    (run : Routine → Fun 𝓤) where
  open 𝓛 use {H}

  abbrev pub Grown : Contract 𝓤
  Grown = triple_of 𝓛 grows.signature (grows.spec 𝓛 at_mem run)

  module _ (old new each : ℕ) where
    abbrev pub at_grown : Grown.Ghost
    at_grown = (
      (
        tt,
        tt,
        tt,
        (old, (new, (each, tt))),
        (vint w64 old ∷ [], (vint w64 new ∷ [], (vint w64 each ∷ [], tt))),
      ),
      tt,
    )

    -- a call that counts the bytes of a growth asks for nothing but numbers that are words
    pub grown_goes : old < 2 ^ 64 → new < 2 ^ 64 → each < 2 ^ 64 →
        ent 𝓤 (emp 𝓤) (Grown.pre at_grown)
    grown_goes few more small =
        qed 𝓛 [] ∵
        nothing ! $ nothing ! $ flt_i ! each (2 ^ 64) small $
        feq_i ! (List Val) (vint w64 each ∷ []) (vint w64 each ∷ []) refl $ fjoin ! $ fjoin ! $
        flt_i ! new (2 ^ 64) more $
        feq_i ! (List Val) (vint w64 new ∷ []) (vint w64 new ∷ []) refl $ fjoin ! $ fjoin ! $
        flt_i ! old (2 ^ 64) few $
        feq_i ! (List Val) (vint w64 old ∷ []) (vint w64 old ∷ []) refl $ fjoin ! $ fjoin ! $
        nothing ! $ join ! $ join ! $ done !

    abbrev pub Counted : Val → ℕ → SProp 𝓤
    Counted v bytes = guard 𝓤 ((v ≡ vint w64 bytes) × (bytes < 2 ^ 64)) (emp 𝓤)

    -- and answers a word
    pub grown_gives : (v : Val) → ent 𝓤 (Grown.post at_grown v) (H.⇛ (ex 𝓤 (Counted v)))
    grown_gives v =
        qed 𝓛 (raw (Grown.post at_grown v) ∷ []) ∵ updating ! $
        use1 𝓛 (later (some (λ (bytes : ℕ). (‵ ftrue ⊛ ‵ (usize.own_val bytes (v ∷ []))) ⊛ some
        (λ (ws : Unit {0} × (Unit {0} × (Unit {0} × Unit {0}))). ‵
        (fsep ftrue (fsep ftrue (fsep ftrue ftrue))) ⊛
        raw (fact 𝓤 (bytes ≡ min ((new - old) * each) (2 ^ 64 - 1)))))))
        (id⊢ 𝓤 _) $
        await ! tt $ pick ! (λ bytes. split ! $ split ! $ drop ! $ fsplit ! $ feq_l !
        (λ e. flt_l ! (λ fits. at_once ! $ show ! (Counted v) bytes $ check ! (ap only e, fits) $
        keep ! [] $ done !)))
