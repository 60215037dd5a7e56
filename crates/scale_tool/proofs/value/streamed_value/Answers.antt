use Rattle.decode_core.specs.Streaming.{query_of}
use Rattle.scale_tool.proofs.FileValues.{stream_none, stream_reports, stream_value}
use Rattle.scale_tool.proofs.value.streamed_value.Goals as goal

pub returns-in-Ok-clause-value : goal.returns-in-Ok-clause-value
returns-in-Ok-clause-value g c = stream_value c.args.job.form
    (query_of c.args.checked.now.types c.args.job.id c.args.job.limits) _ c.in-Ok.value _
    c.requires.streamed c.in-Ok.ensures.answers

pub returns-in-Err-clause-value : goal.returns-in-Err-clause-value
returns-in-Err-clause-value g c = rw c.of_stream.ensures (stream_none _ _ c.args.job.form
    (query_of c.args.checked.now.types c.args.job.id c.args.job.limits) _ c.in-Err.fault _
    c.requires.streamed c.in-Err.ensures.answers)

pub returns-in-Err-clause-reports : goal.returns-in-Err-clause-reports
returns-in-Err-clause-reports g c = rw c.of_stream.ensures (stream_reports _ _ c.args.job.form
    (query_of c.args.checked.now.types c.args.job.id c.args.job.limits) _ c.in-Err.fault _
    c.requires.streamed c.in-Err.ensures.answers)
