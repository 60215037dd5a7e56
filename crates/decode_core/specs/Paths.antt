-- Where in a value its bytes are rejected or end: the open nodes around the type that is next.
use Rattle.std.specs.Prelude.{◌≡◌, ◌⊎◌, ℕ, suc, List, [], ◌++◌, take, Option, Some, None}
use Rattle.std.specs.Prelude.{option_map, Result, Ok, Err, true}
use Rattle.growth_core.specs.Evidence.{evidence}
use Rattle.types_core.specs.declared.type_info.TypeInfo.{TypeInfo}
use Rattle.grammar_core.specs.Begun.{Begun, Grows, begun_preorder}
use Rattle.grammar_core.specs.Preorder.{Entry}
use Rattle.outcome_core.specs.Outcome.{Query}
use Rattle.outcome_core.specs.Reported.{Ending, reported, reported_at, shown}
use Rattle.machine_core.specs.Running.{Running}
use Rattle.value_core.specs.Built.{Built}
use Rattle.value_core.specs.OpenNodes.{open_path, path_of}
use Rattle.value_core.specs.Refusals.{is_complete}
use Rattle.value_core.specs.Walked.{next_type}
use Rattle.value_core.specs.declared.open_nodes.PathStep.{PathStep}
use Rattle.decode_core.specs.Decoding.{Decoding, first_running}
use Rattle.decode_core.specs.declared.fault.DecodeFault.{DecodeFault}
use Rattle.decode_core.specs.declared.fault.OpenFault.{OpenFault}
use Rattle.decode_core.specs.declared.fault.OpenFault.TheVariants as opening

-- the bytes after those of the nodes, where a reading ends
abbrev pub unread : Ending → List ℕ
unread (Ok rest) = rest
unread (Err e) = e.1

-- reading these bytes as a value of type t ends, with the value or with a fault, after the nodes of
-- this begun tree. The steps are its path, and `next` is the type that is missing first, which is
-- rejected or whose bytes end; or it is `None`, and the value is complete
pub record LeadsTo (r : List TypeInfo) (room t : ℕ) (b : List ℕ) (steps : List PathStep)
    (next : Option ℕ) : Type 0 where
  pub nodes : List Entry
  pub end : Ending
  pub reads : reported_at r room t b ≡ reported nodes end
  pub tree : Begun
  pub own : List ℕ
  pub missing : Option (ℕ × ℕ)
  pub is : b ≡ own ++ unread end
  pub grows : Grows r room t tree own missing
  pub shows : shown nodes ≡ begun_preorder tree
  pub path : steps ≡ path_of r t tree
  pub next_is : next ≡ option_map (λ n. n.1) missing

abbrev pub BuiltLeadsTo : Query → List ℕ → Built → Type 0
BuiltLeadsTo j b s =
    LeadsTo j.registry (suc j.depth) j.ty b (open_path s) (next_type s.walk)

-- the bytes lead to these nodes, unless nothing was read yet or the value is complete
abbrev pub RunPath : Query → List ℕ → Result Running DecodeFault → Type 0
RunPath j b (Ok s) = (s ≡ first_running j.registry j.ty j.depth)
    ⊎ ((is_complete s.built ≡ true) ⊎ BuiltLeadsTo j b s.built)
RunPath j b (Err f) = Unit {0}

abbrev pub PathLed : Decoding → List ℕ → Type 0
PathLed d b = RunPath d.query b d.run

-- the open nodes of the value in progress, and the type that is next there
abbrev pub decoder_path : Decoding → List PathStep
decoder_path d = elim d.run [ Ok s ↦ open_path s.built | Err f ↦ [] ]

abbrev pub decoder_next : Decoding → Option ℕ
decoder_next d = elim d.run [ Ok s ↦ next_type s.built.walk | Err f ↦ None ]

-- the path for the bytes within the limit, the fault of opening a decoder, or an allocation failure
abbrev pub FindsPath : Option OpenFault → Query → List ℕ → Result Built OpenFault → Type 0
FindsPath None j b (Ok s) = BuiltLeadsTo j (take j.bytes b) s
FindsPath None j b (Err e) = e ≡ opening.OutOfMemory evidence
FindsPath (Some f) j b (Ok s) = ⊥
FindsPath (Some f) j b (Err e) = e ≡ f
