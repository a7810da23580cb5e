-- What is proved of streams and of reading them, for the readers above; Steps is for this crate's own proofs.
pub mod Words
pub mod Judged
pub mod Reading
mod Steps
