-- What one turn of a decoder does to what it holds. For each function, where its proof begins:
--   feed, whole_turns, repeat, fields_turns: Calls, and Moving for a turn after others
--   whole_single, whole_element, whole_leaf: WholeLeaves; fields_turns also: Wrapping
--   whole_own, whole_bare, bare_turn, own_turn, cut_turn: TurnReports, by the kind in FormSplits
--   byte_array_turn, whole_byte_array: ByteArrays
--   run_turn, run_piece: OpenRuns, UnusedBits; run_rest, run_end: RunEnds
--   add_plain: PlainAdding; add_arm, add_bare, add_sequence, take_node: LengthAdding
--   turn, is_finished: Endings; is_on_its_way: Sound
-- Below these: TurnEffects has what a turn holds or adds, MachineTurn that adding a node is a turn
-- of the machine, Refusing that missing or refused bytes add nothing.
pub mod Short
pub mod Whole
pub mod NodeAdding
pub mod PlainAdding
pub mod FormSplits
pub mod LengthAdding
pub mod MachineTurn
pub mod Refusing
pub mod Settling
pub mod TurnEffects
pub mod TurnReports
pub mod OpenRuns
pub mod UnusedBits
pub mod RunEnds
pub mod ByteArrays
pub mod WholeLeaves
pub mod Wrapping
pub mod Endings
pub mod Moving
pub mod Calls
pub mod Sound
