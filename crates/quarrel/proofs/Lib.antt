-- Leaves first. Chains of operators: what each operator takes under the two rankings, and the rule over them.
pub mod Walks
pub mod Classes
pub mod Words
-- the machine that finds the first `~=` that quarrels, over a chain and over whole trees
pub mod Machine
pub mod Noted
-- trees that fit a ranking, those that are derived, and what they add to a note
pub mod Fit
pub mod Parts
pub mod Marks
pub mod Added
pub mod Notes
-- one tree under two rankings
pub mod Agree
pub mod Carry
pub mod Trees
-- for this crate's own functions
pub mod Hearing
