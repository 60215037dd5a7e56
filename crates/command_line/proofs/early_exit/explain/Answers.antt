use Rattle.std.proofs.Common.{sym}
use Rattle.std.proofs.Math.Logic.{⊎_map, ⊎_swap}
use Rattle.command_line.proofs.early_exit.explain.Goals as goal

pub returns-in-Line-clause-front : goal.returns-in-Line-clause-front
returns-in-Line-clause-front g c =
    λ three. (
      c.in-Err.field-0.written,
      rw (c.in-Line.is, sym c.as_bytes-in-Line.ensures.value) c.in-Err.ensures.err,
    )

pub returns-in-Usage-clause-reported : goal.returns-in-Usage-clause-reported
returns-in-Usage-clause-reported g c =
    λ other. rw c.in-Usage.is
    (⊎_swap (⊎_map (λ all. all.1) (λ part. part.0) c.send-in-Usage.ensures.sent))

pub returns-clause-reported : goal.returns-clause-reported
returns-clause-reported g c =
    λ other. rw c.in-Memory.is
    (⊎_swap (⊎_map (λ all. all.1) (λ part. part.0) c.send-in-Memory.ensures.sent))
