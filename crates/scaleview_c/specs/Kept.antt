-- What the calls do with boxes and with the counts of sessions.
use Rattle.std.specs.Prelude.{◌≡◌, ℕ, ◌+◌, ◌%◌, ◌^◌, ◌<◌, ◌⊎◌, Option, Some, None}
use Rattle.scaleview_c.specs.declared.resource.Resource.{Resource}
use Rattle.scaleview_c.specs.declared.resource.Resource.TheVariants as held
use Rattle.scaleview_c.specs.declared.opened.Opened.{Opened}

-- how many sessions a registry has in a state of the keeper
abbrev pub Counts : Type 0 → Type 1
Counts K = K → Opened → ℕ → Type 0

-- a box that held this resource was given back between two states of the keeper
abbrev pub Takes : Type 0 → Type 1
Takes K = K → Resource → K → Type 0

-- the registry has as many sessions more, modulo 2^64
abbrev pub Adds : {K : Type 0} → Counts K → K → Opened → ℕ → K → Type 0
Adds counts before o more after = (n : ℕ) × counts before o n
    × counts after o ((n + more) % 2 ^ 64)

-- the registry has one session more
abbrev pub Lends : {K : Type 0} → Counts K → K → Opened → K → Type 0
Lends counts before o after = Adds counts before o 1 after

-- the registry has one session fewer
abbrev pub TakesBack : {K : Type 0} → Counts K → K → Opened → K → Type 0
TakesBack counts before o after = Adds counts after o 1 before

-- a registry that was opened has no session; otherwise nothing changes
abbrev pub CountsOpen : {K : Type 0} → Counts K → K → Option Resource → Option Resource → K → Type 0
CountsOpen counts before None (Some (held.Registry o)) after = counts after o 0
CountsOpen counts before None (Some (held.Session s)) after = ⊥
CountsOpen counts before None None after = after ≡ before
CountsOpen counts before (Some old) new after = after ≡ before

-- a session that was started is counted; otherwise nothing changes
abbrev pub CountsStart : {K : Type 0} → Counts K → K → Option Resource → Option Resource →
    Option Resource →
    K → Type 0
CountsStart counts before None (Some (held.Registry o)) (Some session) after =
    Lends counts before o after
CountsStart counts before None (Some (held.Registry o)) None after = after ≡ before
CountsStart counts before None (Some (held.Session s)) new after = after ≡ before
CountsStart counts before None None new after = after ≡ before
CountsStart counts before (Some old) registry new after = after ≡ before

-- a session is no longer counted and its box was given back; otherwise nothing changes
abbrev pub GivesSession : {K : Type 0} → Counts K → Takes K → K → Option Resource → K → Type 0
GivesSession {K} counts takes before (Some (held.Session s)) after =
    (mid : K) × TakesBack counts before s.registry.now mid × takes mid (held.Session s) after
GivesSession counts takes before (Some (held.Registry o)) after = after ≡ before
GivesSession counts takes before None after = after ≡ before

-- a registry is lent exactly if it has a session
abbrev pub AnswersClose : {K : Type 0} → Counts K → K → Resource → ℕ → Type 0
AnswersClose counts state (held.Registry o) code = (n : ℕ) × counts state o n
    × (((n ≡ 0) × (code ≡ 0)) ⊎ ((0 < n) × (code ≡ 4)))
AnswersClose counts state (held.Session s) code = code ≡ 5

-- the box of a registry without sessions was given back; if it has a session, the answer says so
-- and nothing changes
abbrev pub GivesRegistry : {K : Type 0} → Counts K → Takes K → K → Option Resource → K → ℕ → Type 0
GivesRegistry counts takes before (Some (held.Registry o)) after code = (n : ℕ)
    × counts before o n × (((n ≡ 0) × (code ≡ 0) × takes before (held.Registry o) after)
    ⊎ ((0 < n) × (code ≡ 4) × (after ≡ before)))
GivesRegistry counts takes before (Some (held.Session s)) after code = after ≡ before
GivesRegistry counts takes before None after code = after ≡ before
