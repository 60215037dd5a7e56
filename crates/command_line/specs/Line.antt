-- The command line, and the job that its words name.
use Rattle.std.specs.Prelude.{◌≡◌, ◌<◌, ◌≤◌, ◌^◌, ℕ, Bool, true, false, if◌then◌else◌, List, []}
use Rattle.std.specs.Prelude.{◌∷◌, ◌++◌, Option, Some, None, MatchOption, Result, Ok, Err, codes}
use Rattle.std.specs.Prelude.{string_bytes}
use Rattle.std.specs.Option.{option_map_or}
use Rattle.std.specs.Str.{bytes_eq}
use Rattle.std.specs.Str.Parse.{IsNumeral, digits_value}
use Rattle.clap.specs.Simple.{new_shape}
use Rattle.clap.specs.Words.{App, Row, Rule, Text, first_of, new_app, new_rule}
use Rattle.clap.specs.Words.{with_subcommand}
use Rattle.clap.specs.declared.builder.action.ArgAction.TheVariants.{SetTrue}
use Rattle.command_line.specs.Name.{is_name}
use Rattle.command_line.specs.declared.jobs.JobFault.{JobFault}
use Rattle.command_line.specs.declared.jobs.JobFault.TheVariants as fault
use Rattle.command_line.specs.declared.task.DecodeJob.{DecodeJob}
use Rattle.command_line.specs.declared.task.Job.{Job}
use Rattle.command_line.specs.declared.task.Job.TheVariants as jobs
use Rattle.command_line.specs.declared.task.ValueSource.{ValueSource}
use Rattle.command_line.specs.declared.task.ValueSource.TheVariants.{Raw, Hex, Metadata}
use Rattle.command_line.specs.declared.task.Wanted.{Wanted}
use Rattle.command_line.specs.declared.task.Wanted.TheVariants.{Id, Name}

-- ---- the words that clap takes

-- a word that must be there, and one that may be
abbrev pub required_word : Text → Rule
required_word id = record (new_rule id) { required = true }

abbrev pub optional_word : Text → Rule
optional_word id = new_rule id

-- the option `--id`, without a value and with one
abbrev pub flag : Text → Rule
flag id = record (new_rule id) { long = Some id; action = Some SetTrue }

abbrev pub number_option : Text → Rule
number_option id = record (new_rule id) { long = Some id; value_names = 1 }

-- a subcommand with these arguments
abbrev pub leaf : Text → List Rule → App
leaf name rules = record { top = record (new_shape name) { rules = rules }; subs = [] }

-- the subcommands
abbrev pub types : App
types = leaf (codes "types") (required_word (codes "FILE") ∷ flag (codes "metadata") ∷ [])

abbrev pub names : App
names = leaf (codes "names") (required_word (codes "FILE") ∷ [])

abbrev pub decode_words : List Rule
decode_words = required_word (codes "FILE") ∷ required_word (codes "WHAT")
    ∷ optional_word (codes "VALUEFILE") ∷ []

abbrev pub decode_flags : List Rule
decode_flags = flag (codes "metadata") ∷ flag (codes "hex") ∷ flag (codes "opaque")
    ∷ flag (codes "bits") ∷ []

abbrev pub decode_numbers : List Rule
decode_numbers = number_option (codes "depth") ∷ number_option (codes "bytes")
    ∷ number_option (codes "memory") ∷ []

abbrev pub decode : App
decode = leaf (codes "decode") (decode_words ++ decode_flags ++ decode_numbers)

-- the command, which requires a subcommand and has a version
abbrev pub with_version_and_subcommand : App → App
with_version_and_subcommand a = record {
  top = record a.top { subcommand_required = true; has_version = true };
  subs = a.subs;
}

abbrev pub line : App
line = with_subcommand (with_subcommand (with_subcommand
    (with_version_and_subcommand (new_app (codes "scaleview"))) types.top) names.top) decode.top

-- ---- what a subcommand's matches say

-- the flag is given: clap has the text `true` for it, and otherwise `false`
abbrev pub is_given : Text → List Row → Bool
is_given id rows = option_map_or (λ text. bytes_eq text (codes "true")) (first_of id rows) false

-- the text spells the number in ASCII digits only
abbrev pub Spells : Text → ℕ → Type 0
Spells text n = IsNumeral 10 text × (digits_value 10 text ≡ n)

-- the option's text spells the limit, up to the greatest; without the option the limit is `absent`
abbrev pub IsLimit : ℕ → ℕ → Option Text → ℕ → Type 0
IsLimit greatest absent said n = (n ≤ greatest) × MatchOption said (n ≡ absent)
    (λ text. Spells text n)

-- the option's text spells the budget, below 2^64; without the option there is none
abbrev pub IsBudget : Option Text → Option ℕ → Type 0
IsBudget None None = Unit {0}
IsBudget None (Some n) = ⊥
IsBudget (Some text) None = ⊥
IsBudget (Some text) (Some n) = (n < 2 ^ 64) × Spells text n

-- the word is a name
abbrev pub says_name : Option Text → Bool
says_name said = option_map_or is_name said false

-- the type is given by its name
abbrev pub is_named : Wanted → Bool
is_named (Id n) = false
is_named (Name name) = true

-- the word gives the type: it is the name, or spells the position
abbrev pub Gives : Text → Wanted → Type 0
Gives word (Id n) = (n < 2 ^ 32) × Spells word n
Gives word (Name name) = string_bytes name ≡ word

-- the word is there and gives the type, by its name exactly if it is a name
abbrev pub IsWanted : Option Text → Wanted → Type 0
IsWanted said wanted = (is_named wanted ≡ says_name said)
    × MatchOption said ⊥ (λ word. Gives word wanted)

-- the value's bytes are in VALUEFILE, as hexadecimal digits exactly with `--hex`; without VALUEFILE
-- the metadata has them, and there are a name and no `--hex`
abbrev pub IsSource : Bool → Bool → Option Text → ValueSource → Type 0
IsSource by_name from_hex (Some value_name) source = source ≡ (if from_hex then Hex else Raw)
IsSource by_name from_hex None source = (source ≡ Metadata) × (by_name ≡ true)
    × (from_hex ≡ false)

-- a value of this type may have its bytes there: the metadata has them only for a name
abbrev pub HasSource : Wanted → ValueSource → Type 0
HasSource wanted source = source ≡ Metadata → is_named wanted ≡ true

-- what the matches of `decode` say
pub record IsDecode (rows : List Row) (job : DecodeJob) : Type 0 where
  pub wanted_is : IsWanted (first_of (codes "WHAT") rows) job.wanted
  pub source_is : IsSource (says_name (first_of (codes "WHAT") rows))
      (is_given (codes "hex") rows) (first_of (codes "VALUEFILE") rows) job.source
  pub metadata_is : job.metadata ≡ is_given (codes "metadata") rows
  pub bits_are : job.bits ≡ is_given (codes "bits") rows
  pub opaque_is : job.opaque ≡ is_given (codes "opaque") rows
  pub depth_is : IsLimit 1024 64 (first_of (codes "depth") rows) job.limits.depth
  pub bytes_are : IsLimit (2 ^ 40) 16777216 (first_of (codes "bytes") rows) job.limits.bytes
  pub memory_is : IsBudget (first_of (codes "memory") rows) job.memory

-- the job and VALUEFILE are those that this subcommand's matches give
abbrev pub IsJobOf : Text → List Row → Job → Option Text → Type 0
IsJobOf name rows (jobs.Types metadata) value_name = (name ≡ codes "types") × (value_name ≡ None)
    × (metadata ≡ is_given (codes "metadata") rows)
IsJobOf name rows jobs.Names value_name = (name ≡ codes "names") × (value_name ≡ None)
IsJobOf name rows (jobs.Decode job) value_name = (name ≡ codes "decode")
    × (value_name ≡ first_of (codes "VALUEFILE") rows) × IsDecode rows job

-- this subcommand's matches give no job
abbrev pub NamesNoneOf : Text → List Row → Type 0
NamesNoneOf name rows = (job : Job) (value_name : Option Text) →
    IsJobOf name rows job value_name → ⊥

-- the job, FILE and VALUEFILE are those that a subcommand's name and matches give
abbrev pub IsJob : Job → Text → Option Text → Option (Text × List Row) → Type 0
IsJob job file_name value_name None = ⊥
IsJob job file_name value_name (Some sub) = (first_of (codes "FILE") sub.1 ≡ Some file_name)
    × IsJobOf sub.0 sub.1 job value_name

-- a subcommand's name and matches give no job
abbrev pub NamesNone : Option (Text × List Row) → Type 0
NamesNone sub = (job : Job) (file_name : Text) (value_name : Option Text) →
    IsJob job file_name value_name sub → ⊥

-- the job's limits are those that the decoder takes, and its value has a source
abbrev pub IsServed : Job → Type 0
IsServed (jobs.Types metadata) = Unit {0}
IsServed jobs.Names = Unit {0}
IsServed (jobs.Decode job) = (job.limits.depth ≤ 1024) × (job.limits.bytes ≤ 2 ^ 40)
    × HasSource job.wanted job.source

-- ---- what a part of the reading returns

-- the fault, with `Usage` only if P holds, and none of clap
abbrev pub IsUsageIf : Type 0 → JobFault → Type 0
IsUsageIf P fault.Usage = P
IsUsageIf P (fault.Memory _) = Unit {0}
IsUsageIf P (fault.Line error text) = ⊥

-- a value that fits; `Usage` only if none does
abbrev pub FitsOrNone : {X : Type 0} → (X → Type 0) → Result X JobFault → Type 0
FitsOrNone Fits (Ok x) = Fits x
FitsOrNone {X = X} Fits (Err e) = IsUsageIf ((x : X) → Fits x → ⊥) e
