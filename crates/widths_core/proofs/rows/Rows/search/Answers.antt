use Rattle.std.proofs.Common.{◌≡◌, drop, rules}
use Rattle.widths_core.proofs.RowReads.{row_missed}
use Rattle.widths_core.proofs.rows.Rows.search.Goals as goal

pub returns-in-Err : goal.returns-in-Err
returns-in-Err c =
    let xs = c.args.self.now.indexes.items in
    let row : c.split_at.result.1.now ≡ drop c.args.first xs = search rules in
    row_missed xs c.args.first c.args.index c.binary_search.result c.requires.within
    c.requires.rises (rw row at c.binary_search.ensures.position) c.in-Err.place c.in-Err.is
