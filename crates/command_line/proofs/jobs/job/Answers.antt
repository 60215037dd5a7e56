use Rattle.std.proofs.Common.{◌≡◌, List, [], Option, map, subst}
use Rattle.std.proofs.lemmas.Result.{IfErr-weaker}
use Rattle.clap.specs.Words.{Row, Text, fault_of, subcommand_of}
use Rattle.command_line.specs.Explained.{IsFaultOfWords}
use Rattle.command_line.specs.Line.{IsUsageIf, NamesNone, line}
use Rattle.command_line.specs.declared.jobs.JobFault.{JobFault}
use Rattle.command_line.specs.declared.jobs.JobFault.TheVariants.{Line, Usage, Memory}
use Rattle.command_line.proofs.jobs.job.Goals as goal

-- a fault that the matches have is one of the words, if clap takes them
fault_of_words : (words : List Text) (sub : Option (Text × List Row)) (fault : JobFault) →
    fault_of line words ≡ [] → sub ≡ subcommand_of line words → IsUsageIf (NamesNone sub) fault →
    IsFaultOfWords words fault
fault_of_words words sub Usage taken is none = (taken, subst NamesNone is none)
fault_of_words words sub (Memory _) taken is none = tt
fault_of_words words sub (Line error text) taken is none = absurd none

pub returns-in-Ok-clause-err : goal.returns-in-Ok-clause-err
returns-in-Ok-clause-err c =
    IfErr-weaker c.job_of.result _ _
    (λ e none. fault_of_words (map (λ s. s.now) c.args.words.now) _ e c.in-Ok.ensures.kinds
    c.in-Ok.ensures.subcommand none) c.job_of.ensures.none
