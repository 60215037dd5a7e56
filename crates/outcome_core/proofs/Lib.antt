-- What readings on lists say of a value and its faults, node by node and as a whole. By law:
--   one outcome, which is computed and kept: Outcomes, Computed, Kept, MoreIs
--   what is taken at a fault: ShortestCompacts, Shortest and DecidingFronts, ByFault
--   what is held is a begun tree: Begins, Missing, FaultBegins
--   it is bounded: BegunBound, OutcomeBound
--   reading node by node is reading by the grammar: Reports, Owns, Mets, ReportedSpells, Fed
pub mod DecidingFronts
pub mod ShortestCompacts
pub mod Shortest
pub mod Outcomes
pub mod Computed
pub mod Missing
pub mod BegunBound
pub mod Begins
pub mod Kept
pub mod OutcomeBound
pub mod ByFault
pub mod MoreIs
pub mod Mets
pub mod Reports
pub mod Owns
pub mod MachineTurns
pub mod Left
pub mod NotCut
pub mod FaultBegins
pub mod Fed
pub mod Targets
pub mod ReportedSpells
