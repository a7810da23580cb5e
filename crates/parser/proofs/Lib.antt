-- What the proofs of the descent stand on, leaves first: the reader's answers, what was read so far, tokens and looks.
pub mod Steps
pub mod Kit
pub mod Quiet
pub mod Tokens
pub mod Members
pub mod Looks
-- productions in their surroundings, and the parts of some
pub mod Around
pub mod Bare
pub mod Loops
pub mod Choices
pub mod Weights
pub mod Heads
pub mod LastPart
-- the public calls
pub mod Whole
pub mod Decided
