use Rattle.widths_core.proofs.RowReads.{row_answer}
use Rattle.widths_core.proofs.rows.place_of.Goals as goal

pub returns : goal.returns
returns c = row_answer c.args.row.now c.args.index c.binary_search.result c.ok.result c.requires
    c.binary_search.ensures.position c.ok.ensures.value
