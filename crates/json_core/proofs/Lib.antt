-- For each function, where its proof begins:
--   to_json (node_json, with_items): Reported for leaves, Children and Members for the others
--   json_text (write): Turns for the tokens of arrays and objects, Reported for leaves
--   fields_json: Ordered
--   json_to_slice: InFront; json_has_no_float: Floats
pub mod Children
pub mod Counts
pub mod Floats
pub mod InFront
pub mod Members
pub mod Ordered
pub mod Reported
pub mod Turns
