pub mod Kinds
pub mod Words
pub mod Refusals
pub mod Formed
pub mod Reader
