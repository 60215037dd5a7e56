-- `tick` does nothing at run time; what contracts see of the count goes one further.
use mathlib.Core.Path.{refl, sym, subst}
use mathlib.Core.List.{List, [], ◌∷◌}
use seplogic.Ra.Ura.{Ura}
use mir.Syntax.{Fn}
use mir.Val.{Val, vptr, vunit}
use base.Logic.{SProp, ent, via, fst∗, snd∗}
use base.Fml.{Fml, ftrue, flft}
use prog.Wp.{WpFn}
use prog.Model.{Model}
use types.Logic.{Logic, sem}
use contract.Monad.{fact_use}
use contract.Running.{Running, MachineTables, tables, tables_of}
use sound.WpLaws.{WpFn-mono}
use types.Kit.{‵, raw, ◌⊛◌, ◌$◌, ◌∵◌, !, qed, move, keep, split, join, fsplit, fsplit3, fjoin}
use types.Kit.{fjoin3, suffices, frame, feq_i}
use types.Run.{returns, enter, unit_lit, of_opd}
use types.ByLocal.{alloc_all, pass_all, free_all, look_at, sets}
use Prim.Native.Nat.{◌+◌}
use denote.RattleType.{RattleType, owns}
use denote.Laws.{Are, Ises, owns_show, showss}
use denote.Signature.{types_at, plain}
use denote.Steps.{nothing, opens, closes}
use denote.Triple.Clauses.{Clauses, closing}
use denote.Triple.Entry.{on_entry, alive}
use denote.Triple.Spec.{Meets, triple_of}
use denote.Triple.Table.{entered}
use denote.Triple.Walked.{Stays, stay_ref, walk_of, ends_at, Goes-ref, walk_Meets}
use contract.CodeStep
use Rattle.count_core.specs.contracts.counting.Count as count
use Rattle.count_core.proofs.Tokens.{reports_last}
use Rattle.count_core.specs.contracts.counting.Count.tick.{ended, clauses}
use Rattle.count_core.specs.contracts.counting.Count.tick.Key.{name as #self}
use Rattle.count_core.proofs.counting.Count.tick.Statement as stated
use Rattle.count_core.proofs.counting.Count.tick.Code as code

module _ {M : Type 1} {𝓤 : Ura M} (𝓛 : Logic 𝓤) (𝓜 : Model 𝓤 𝓛.H) (𝓡 : Running 𝓤 𝓛.H 𝓜) where
  open 𝓛 use {H}

  abbrev function : Fn
  function = code.function

  abbrev A : RattleType
  A = count.the_row

  abbrev stayed : Stays ended.signature.params ended.kept
  stayed = (stay_ref (0 ∷ []) tt (plain (λ _. A)), tt)

  abbrev 𝓣 : MachineTables 𝓤 H 𝓜
  𝓣 = tables 𝓤 H 𝓜 𝓡 𝓡.env

  abbrev held : Clauses 𝓤 ended
  held = clauses 𝓛 𝓜.mem 𝓡.returns

  module _ (z : (walk_of 𝓛 ended stayed held).Ghost) where
    abbrev Vss : Type 0
    Vss = List Val × Unit {0}

    abbrev At : Vss → (walk_of 𝓛 ended stayed held).Ghost
    At vss = ((z.0.0, z.0.1, z.0.2, z.0.3, vss), z.1)

    abbrev Goes : Vss → Type 1
    Goes vss = ent 𝓤 ((walk_of 𝓛 ended stayed held).pre (At vss))
        (WpFn 𝓤 H 𝓣.C 𝓣.Λ function ((walk_of 𝓛 ended stayed held).args (At vss))
        ((walk_of 𝓛 ended stayed held).post (At vss)))

    abbrev a : A.Denot
    a = z.0.3.0.now

    abbrev u : Val
    u = vptr z.0.3.0.ref_ptr.0 z.0.3.0.ref_ptr.1

    abbrev passed : Vss
    passed = (u ∷ [], tt)

    abbrev args : Fml
    args = owns (types_at ended.signature.params z.0.0) z.0.3 passed

    abbrev asked : SProp 𝓤
    asked = (held z.0.0 z.0.3).requires z.1

    walks : Goes passed
    walks =
        let r = z.0.3.0 in let a' : A.Denot = record { marker = a.marker; so_far = a.so_far + 1 } in
        qed 𝓛 (((‵ (flft z.0.0.0 z.0.1.0) ⊛ ‵ ftrue) ⊛ ‵ args) ∷ raw asked ∷ []) ∵ split ! $ split !
        $ move ! (2 ∷ []) $ fsplit ! $ fsplit3 ! $ keep ! (1 ∷ 2 ∷ 4 ∷ 5 ∷ []) $
        enter ! 𝓣.C 𝓣.Λ function (u ∷ []) _ $ alloc_all !
        (λ l. pass_all ! refl ((tt, tt), tt) $ opens ! tt A r.ref_ptr.0 r.ref_ptr.1 (λ cs.
        closes ! tt A a' cs r.ref_ptr.0 r.ref_ptr.1 $ sets ! (of_opd ! (unit_lit !)) refl (tt, tt) $
        returns ! (look_at ! 0 refl) $ free_all ! refl $ suffices ! _
        (ends_at 𝓛 ended stayed held (At passed) vunit tt (a', tt) (tt, tt)) $
        feq_i ! (List Val) (u ∷ []) (u ∷ []) refl $ fjoin3 ! $ nothing ! $ move ! (1 ∷ 0 ∷ []) $
        fjoin ! $ feq_i ! (List Val) (vunit ∷ []) (vunit ∷ []) refl $ move ! (1 ∷ 0 ∷ []) $ join
        ! $
        move ! (1 ∷ 2 ∷ []) $ join ! $ join ! $ frame ! $ reports_last ! refl))

  meets : Meets 𝓛 ended.signature (WpFn 𝓤 H 𝓣.C 𝓣.Λ function) (closing 𝓛 ended held)
  unfolding tables_of contract.CodeStep.c_Tables
  meets =
      walk_Meets 𝓛 ended stayed (Goes-ref 𝓛 1 0 tt (plain (λ _. A)), tt) held
      (WpFn 𝓤 H 𝓣.C 𝓣.Λ function) (WpFn-mono 𝓤 H 𝓛.laws (tables_of 𝓤 H 𝓜 𝓣) function)
      (λ z. let a = z.0.3 in let vss = z.0.4 in let Rs : List RattleType =
      types_at ended.signature.params z.0.0 in let On : SProp 𝓤 =
      on_entry 𝓛 ended.signature z.0.0 z.0.1 a vss in
      fact_use 𝓤 (Are Rs (Ises Rs) a vss)
      (via 𝓤 (sem 𝓛 (owns Rs a vss))
      (via 𝓤 On (fst∗ 𝓤 On (asked z))
      (snd∗ 𝓤 (alive 𝓛 ended.signature z.0.0 z.0.1) (sem 𝓛 (owns Rs a vss))))
      (owns_show 𝓛 Rs (Ises Rs) (showss 𝓛 Rs) a vss)) (λ are.
      subst (Goes z) (λ i. (sym are.0.0 i, tt)) (walks z)))

pub tick_spec : {M : Type 1} → stated.statement M
tick_spec 𝓤 𝓛 𝓜 𝓡 wired = let 𝓣' = tables 𝓤 𝓛.H 𝓜 𝓡 𝓡.env in
    entered 𝓤 𝓛.H (triple_of 𝓛 ended.signature (closing 𝓛 ended (held 𝓛 𝓜 𝓡))) 𝓣'.C 𝓣'.Λ #self
    (function 𝓛 𝓜 𝓡)
    (code.unfolded 𝓤 𝓛.H 𝓜 𝓡 wired) (meets 𝓛 𝓜 𝓡)
