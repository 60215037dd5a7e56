use Rattle.std.proofs.Common.{arith, ◌≡◌, Ok, ap, sym, ◌∙◌, length, inl, inr}
use Rattle.std.proofs.lemmas.List.{take_all}
use Rattle.record_core.specs.Replayed.{ended, replay, start_with}
use Rattle.record_core.proofs.Passed.{added, failed, missing, opened, replay_next, replay_stop}
use Rattle.record_core.proofs.Passed.{stopped, tree_is, whole}
use Rattle.record_core.proofs.replaying.value_of_records.Goals as goal

pub records-init : goal.records-init
records-init g c = ap Ok (sym (opened _ _ c.in-Ok.builder c.in-Ok.ensures).1)

pub returns-in-Err-add-clause-value : goal.returns-in-Err-add-clause-value
returns-in-Err-add-clause-value g c =
    stopped _ _ c.records.at c.in-Err-add.fault (opened _ _ c.in-Ok.builder c.in-Ok.ensures).0
    (elim (failed _ _ _ _ c.in-Err-add.fault c.in-Err-add.ensures) [
      | inl f ↦ inl (ap (ended (length c.args.records.now))
          (replay_stop c.args.checked.now.types c.args.pool.now c.args.records.now _
          c.records.builder c.records.at _
          c.in-Err-add.fault c.records.invariant c.records-test.true f))
      | inr f ↦ inr f
    ])

pub records-preserved : goal.records-preserved
records-preserved g c =
    let done = added _ _ _ _ c.add.result c.add.ensures c.in_default.not-Err in
    replay_next c.args.checked.now.types c.args.pool.now c.args.records.now _ c.records.builder
    c.records.at _
    c.records.invariant c.records-test.true done.0 ∙ ap Ok (sym done.1)

pub returns-in-Ok-finish-clause-value : goal.returns-in-Ok-finish-clause-value
returns-in-Ok-finish-clause-value g c =
    let all = take_all c.records.at c.args.records.now (omega arith) in
    let after : replay c.args.checked.now.types c.args.pool.now c.args.records.now
    (start_with c.args.checked.now.types c.args.root.0 c.args.depth) ≡ Ok c.records.builder =
    rw all at c.records.invariant in
    rw after (whole _ (length c.args.records.now) c.records.builder c.in-Ok-finish.value
    (opened _ _ c.in-Ok.builder c.in-Ok.ensures).0 c.in-Ok-finish.ensures)

pub returns-in-Ok-finish-clause-tree : goal.returns-in-Ok-finish-clause-tree
returns-in-Ok-finish-clause-tree g c =
    let all = take_all c.records.at c.args.records.now (omega arith) in
    tree_is c.args.checked.now.types c.args.pool.now c.args.records.now c.args.root.0 c.args.depth
    c.records.builder c.in-Ok-finish.value (rw all at c.records.invariant) c.in-Ok-finish.ensures

pub returns-clause-value : goal.returns-clause-value
returns-clause-value g c =
    let all = take_all c.records.at c.args.records.now (omega arith) in
    let after : replay c.args.checked.now.types c.args.pool.now c.args.records.now
    (start_with c.args.checked.now.types c.args.root.0 c.args.depth) ≡ Ok c.records.builder =
    rw all at c.records.invariant in
    rw after (missing _ (length c.args.records.now) c.records.builder _
    (opened _ _ c.in-Ok.builder c.in-Ok.ensures).0 c.in-Err-finish.ensures)
