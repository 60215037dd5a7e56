use Rattle.chain_core.proofs.synthetic.push_made.Goals as goal

pub returns-in_ok-extrinsic-in-Extrinsic-clause-exact :
    goal.returns-in_ok-extrinsic-in-Extrinsic-clause-exact
returns-in_ok-extrinsic-in-Extrinsic-clause-exact c =
    rw (c.in-Extrinsic.is, ← c.in_ok-extrinsic-in-Extrinsic.ensures.exact) c.push_type.ensures.exact
