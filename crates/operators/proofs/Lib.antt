-- What is proved of the operators' tables, for the readers above; Arms is for this crate's own proofs.
pub mod Laws
mod Arms
