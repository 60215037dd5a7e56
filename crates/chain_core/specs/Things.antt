-- Things that metadata names.
use Rattle.std.specs.Prelude.{◌≡◌, ℕ, List, [], ◌∷◌, ◌++◌, codes, map, Option, option_map}
use Rattle.std.specs.Prelude.{string_bytes}
use Rattle.std.specs.Rc.{rc_str_bytes}
use Rattle.node_core.specs.Shown.{Seen}
use Rattle.chain_core.specs.declared.extrinsics.ExtrinsicTypes.{ExtrinsicTypes}
use Rattle.chain_core.specs.declared.keys.KeyPart.{KeyPart}
use Rattle.chain_core.specs.declared.thing.Meaning.{Meaning}
use Rattle.chain_core.specs.declared.thing.Meaning.TheVariants as meaning
use Rattle.chain_core.specs.declared.thing.Path.{Path}
use Rattle.chain_core.specs.declared.thing.Path.TheVariants as path
use Rattle.chain_core.specs.declared.thing.Section.{Section}
use Rattle.chain_core.specs.declared.thing.Section.TheVariants as section
use Rattle.chain_core.specs.declared.thing.Thing.{Thing}

-- what a name stands for: a type of the registry, or a synthetic one
pub data Stands : Type 0 where
  own : ℕ → Stands
  extrinsic : ExtrinsicTypes → Stands
  key : List KeyPart → Stands
  params : Seen → Stands

pub record Named : Type 0 where
  pub name : List ℕ
  pub stands : Stands
  pub bytes : Option (List ℕ)

abbrev pub word_of : Section → List ℕ
word_of section.Extrinsic = codes "extrinsic"
word_of section.Call = codes "call"
word_of section.Event = codes "event"
word_of section.Error = codes "error"
word_of section.Calls = codes "calls:"
word_of section.Events = codes "events:"
word_of section.Errors = codes "errors:"
word_of section.Storage = codes "storage:"
word_of section.Key = codes "key:"
word_of section.Constant = codes "constant:"
word_of section.Result = codes "result:"
word_of section.Params = codes "params:"
word_of section.Custom = codes "custom:"

-- two names with a dot between
abbrev pub dotted : List ℕ → List ℕ → List ℕ
dotted a b = a ++ 46 ∷ b

abbrev pub path_text : Path → List ℕ
path_text path.Empty = []
path_text (path.One a) = string_bytes a
path_text (path.Two a b) = dotted (rc_str_bytes a) (string_bytes b)

abbrev pub name_text : Section → Path → List ℕ
name_text s p = word_of s ++ path_text p

abbrev pub stands_for : Meaning → Stands
stands_for (meaning.Own id) = own id
stands_for (meaning.Extrinsic types) = extrinsic types
stands_for (meaning.Key parts) = key parts.items
stands_for (meaning.Params inputs) = params inputs

abbrev pub named : Thing → Named
named t = record {
  name = name_text t.section t.path;
  stands = stands_for t.meaning;
  bytes = option_map (λ v. v.items) t.bytes;
}

abbrev pub all_named : List Thing → List Named
all_named ts = map named ts

-- these follow those that were there
abbrev pub Adds : List Thing → List Thing → List Named → Type 0
Adds before after ns = all_named after ≡ all_named before ++ ns
