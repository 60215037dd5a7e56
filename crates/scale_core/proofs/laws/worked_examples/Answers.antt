use Rattle.scale_core.proofs.Examples.{compact_rows, spelling_rows, text_rows}
use Rattle.scale_core.proofs.laws.worked_examples.Goals as goal

pub returns-clause-spellings : goal.returns-clause-spellings
returns-clause-spellings c = spelling_rows

pub returns-clause-compacts : goal.returns-clause-compacts
returns-clause-compacts c = compact_rows

pub returns-clause-texts : goal.returns-clause-texts
returns-clause-texts c = text_rows
