pub mod Member
pub mod Grammar
pub mod Term
pub mod Reading
pub mod Productions
pub mod Levels
pub mod Compare
