use Rattle.std.proofs.Common.{rules, arith, ◌-◌, ◌++◌, [], refl, suc, take, vec_len}
use Rattle.decode_core.proofs.Streaming.{gives_next}
use Rattle.scale_tool.proofs.Moves.{takes_next, takes_all}
use Rattle.scale_tool.proofs.gathering.gather_all.Goals as goal

pub pieces-init : goal.pieces-init
pieces-init g c = record {
  grown = search rules;
  taken = search rules;
  given = ([], 0, (refl, refl));
  quiet = refl;
}

pub returns-then-branch-eq0-clause-ok : goal.returns-then-branch-eq0-clause-ok
returns-then-branch-eq0-clause-ok g c =
    let so_far = vec_len c.pieces.out - vec_len c.args.out.now in
    takes_all _ _ _ _ so_far
    (takes_next _ _ _ _ _ _ so_far c.in_ok-pull_onto.field-0 so_far
    (omega (arith, c.if-branch-eq0.true)) c.pieces.invariant.taken
    c.in_ok-pull_onto.ensures.bytes) (c.in_ok-pull_onto.ensures.end c.if-branch-eq0.true)

pub pieces-preserved : goal.pieces-preserved
pieces-preserved g c = record {
  grown = omega (arith, c.in_ok-pull_onto.ensures.grown, c.pieces.invariant.grown);
  taken = takes_next _ _ _ _ _ _ (vec_len c.pieces.out - vec_len c.args.out.now)
      c.in_ok-pull_onto.field-0 _
      (omega (arith, c.in_ok-pull_onto.ensures.grown, c.pieces.invariant.grown))
      c.pieces.invariant.taken c.in_ok-pull_onto.ensures.bytes;
  given = (
    c.pieces.invariant.given.0 ++ take c.in_ok-pull_onto.field-0 c.pull_onto.new.part,
    suc c.pieces.invariant.given.1,
    gives_next g.R.ReadOnce.reads c.args.source.now.device c.pieces.invariant.given.1
        c.pieces.invariant.given.0 c.pieces.source.device _ c.in_ok-pull_onto.field-0
        c.pull_onto.new.part c.pull_onto.new.source.device c.pieces.invariant.given.2
        c.in_ok-pull_onto.ensures.once,
  );
  quiet = search rules;
}
