use Rattle.chain_core.proofs.distinct.PathTree.node_after.Given as goal

abbrev pub invariant-parts : goal.invariant-parts
invariant-parts l = record {
  can : (goal.iterator-parts).can_next l.part-iterator;
  ends : (goal.iterator-parts).is_finite l.part-iterator;
}
