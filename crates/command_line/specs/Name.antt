-- Which words of a command line name a type, rather than give its position.
use Rattle.std.specs.Prelude.{Bool, ◌||◌, List, [], ◌∷◌, codes, nat_eq}
use Rattle.std.specs.List.{list_any, starts_with}
use Rattle.std.specs.Str.{bytes_eq}
use Rattle.clap.specs.Words.{Text}

-- the words that are names by themselves
abbrev pub whole_names : List Text
whole_names = codes "extrinsic" ∷ codes "call" ∷ codes "event" ∷ codes "error" ∷ []

-- the beginnings of all other names
abbrev pub name_fronts : List Text
name_fronts = codes "storage:" ∷ codes "key:" ∷ codes "constant:" ∷ codes "calls:"
    ∷ codes "events:" ∷ codes "errors:" ∷ codes "result:" ∷ codes "params:" ∷ codes "custom:" ∷ []

-- the word is a name
abbrev pub is_name : Text → Bool
is_name word =
    list_any (λ name. bytes_eq name word) whole_names
    || list_any (starts_with nat_eq word) name_fronts
