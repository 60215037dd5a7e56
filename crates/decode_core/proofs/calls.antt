-- What the public calls answer. For each function, where its proof begins:
--   new, finish: Opening
--   feed_run: FeedRun, and Counting for its turns; feed: Feeding, Inside, and Small for its bounds
--   node_count, text_bytes: Inside; path_len, and FaultPath's find: Leading
-- Bridge goes from the turns of a piece to the outcome of all bytes; Holding has the begun tree.
pub mod Bridge
pub mod Feeding
pub mod FeedRun
pub mod Inside
pub mod Opening
pub mod Wanted
pub mod Small
pub mod Holding
pub mod Counting
pub mod Leading
pub mod FaultBound
