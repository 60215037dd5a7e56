-- What the methods of the allocator that refuses one request share: the `&` to it, the places of
-- its two fields after
-- that, and its count at a call. Assumes `Logic`.
use Rattle.std.proofs.Common.{◌≡◌, ℕ, ◌+◌, Bool, List, [], ◌∷◌, refl, ap}
use seplogic.Ra.Ura.{Ura}
use mir.Syntax.{Args, a_type, dnil, dcons}
use mir.Val.{Val, vbool, vptr}
use base.Logic.{SProp, ent, sep, ex, guard, id⊢}
use base.Fml.{Lft, Share, ftrue, fsep, flft}
use prog.Memory.{Memory, size, align, up}
use prog.Routine.{Routine}
use types.Logic.{Logic, sem}
use contract.Monad.{Fun}
use types.Kit.{‵, raw, ◌⊛◌, some, later, ◌$◌, ◌∵◌, !, qed, move, keep, use1, split, join, pick}
use types.Kit.{fjoin, feq_i, feq_l, check, show, await, updating, now as at_once, done}
use denote.Builtin.{u64, bool, RefOf}
use denote.Memory.{hidden_shr}
use denote.Param.{bounded, param}
use denote.RattleType.{RattleType}
use denote.Signature.{Slot, plain}
use denote.Steps.{nothing, only}
use denote.Triple.Spec.{triple_of}
use denote.Triple.Statement.{Contract}
use Rattle.std.specs.contracts.cell.Cell as cell
use Rattle.std.proofs.alloc.Calls.{Al, α}
use Rattle.scale_tests.specs.contracts.rationed.Rationed as rationed
use Rattle.scale_tests.specs.contracts.rationed.is_refused as counts

module _ (Z : Al) where
  abbrev pub lent : Slot 2
  lent = RefOf (0 ∷ []) tt (plain (λ _. rationed.the_row (param 0 Z.row))) (λ _. tt)

  abbrev pub at_its_type : Args
  at_its_type = bounded (a_type ∷ []) (Z.row, tt) (dcons Z.d (dcons Z.drops dnil))

  abbrev pub inner_of : ℕ × ℕ → ℕ × ℕ
  inner_of place = (place.0, place.1 + up (align (α Z)) 0)

  abbrev pub count_of : ℕ × ℕ → ℕ × ℕ
  count_of place = (place.0, place.1 + up 8 (up (align (α Z)) 0 + size (α Z)))

abbrev pub Count : RattleType
Count = cell.the_row u64

module _ {M : Type 1} {𝓤 : Ura M} (𝓛 : Logic 𝓤) (at_mem : Memory → SProp 𝓤) (run : Routine → Fun 𝓤)
  where
    open 𝓛 use {H, A}

    abbrev pub Counts : Contract 𝓤
    Counts = triple_of 𝓛 counts.signature (counts.spec 𝓛 at_mem run)

    module _ (κ : Lft) (q : Share) (place : ℕ × ℕ) where
      abbrev pub at_count : Counts.Ghost
      at_count = (
        (
          (κ, tt),
          (q, tt),
          tt,
          (record { ref_ptr = place; now = record { value = tt } }, tt),
          (vptr place.0 place.1 ∷ [], tt),
        ),
        tt,
      )

      abbrev pub counted : Val → Bool → SProp 𝓤
      counted v is_it = guard 𝓤 (v ≡ vbool is_it) (A.lft κ q)

      -- the count that is shared and a lifetime's token are what the count's call asks for
      pub count_goes : ent 𝓤 (sep 𝓤
          (sem 𝓛 (hidden_shr Count κ (record { value = tt }) place.0 place.1)) (A.lft κ q))
          (Counts.pre at_count)
      count_goes =
          qed 𝓛 (‵ (hidden_shr Count κ (record { value = tt }) place.0 place.1)
          ∷ ‵ (flft κ q) ∷ []) ∵
          feq_i ! (List Val) (vptr place.0 place.1 ∷ []) (vptr place.0 place.1 ∷ [])
          refl $ fjoin ! $
          nothing ! $ move ! (1 ∷ []) $
          fjoin ! $ nothing ! $ move ! (2 ∷ []) $ join ! $ join ! $ nothing ! $
          move ! (1 ∷ []) $ done
          !

      -- the count's call gives the token back, and whether this request is to be refused
      pub count_gives : (v : Val) → ent 𝓤 (Counts.post at_count v) (H.⇛ (ex 𝓤 (counted v)))
      count_gives v =
          qed 𝓛 (raw (Counts.post at_count v) ∷ []) ∵ updating ! $
          use1 𝓛 (later (some (λ (is_it : Bool). ((‵ (flft κ q) ⊛ ‵ ftrue) ⊛ ‵
          (bool.own_val is_it (v ∷ []))) ⊛ some
          (λ (ws : Unit {0} × Unit {0}). ‵ (fsep ftrue ftrue) ⊛ ‵ ftrue)))) (id⊢ 𝓤 _) $
          await ! tt $ pick ! (λ is_it. split ! $ split ! $ move ! (1 ∷ []) $ feq_l !
          (λ e. split ! $ at_once ! $ show ! (counted v) is_it $ check ! (ap only e) $ keep !
          (0 ∷ []) $ done !))
