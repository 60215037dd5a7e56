-- For each module, where its proofs begin: NameTexts for finding and names, SyntheticCounts for
-- synthetic.
pub mod NameTexts
pub mod OwnReferences
pub mod RestRead
pub mod SyntheticCounts
