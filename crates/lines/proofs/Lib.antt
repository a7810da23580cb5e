-- What is proved of lines of text.
pub mod Hex
pub mod Text
pub mod Seen
pub mod Decided
