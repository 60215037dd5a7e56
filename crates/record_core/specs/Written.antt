-- What is written of a value: its records and its pool, or nothing.
use Rattle.std.specs.Prelude.{◌≡◌, ◌⊎◌, ◌<◌, ◌≤◌, ℕ, List, ◌++◌, length, drop}
use Rattle.grammar_core.specs.Cells.{Cell}
use Rattle.record_core.specs.Records.{pool_of, records_from}
use Rattle.record_core.specs.declared.record.Record.{Record}
use Rattle.record_core.specs.declared.writing.Room.{Room}

-- how many records and bytes of the pool there are
abbrev pub room_of : List Cell → Room
room_of cs = record { records = length cs; pool = length (pool_of cs) }

-- there is room for both
abbrev pub Fits : List Cell → List Record → List ℕ → Type 0
Fits cs records pool = (length cs ≤ length records) × (length (pool_of cs) ≤ length pool)

-- one of them has too little room
abbrev pub LacksRoom : List Cell → List Record → List ℕ → Type 0
LacksRoom cs records pool = (length records < length cs) ⊎ (length pool < length (pool_of cs))

-- these are written at the start, and what is after them is unchanged
abbrev pub StandsIn : {X : Type 0} → List X → List X → List X → Type 0
StandsIn xs old new = new ≡ xs ++ drop (length xs) old

-- both are written at the start; or there is no room, and nothing is written
abbrev pub WritesNodes : List Cell → List Record → List Record → List ℕ → List ℕ → Type 0
WritesNodes cs records new_records pool new_pool =
    (Fits cs records pool × StandsIn (records_from 0 cs) records new_records
    × StandsIn (pool_of cs) pool new_pool)
    ⊎ (LacksRoom cs records pool × (new_records ≡ records) × (new_pool ≡ pool))
