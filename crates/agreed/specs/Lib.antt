pub mod Agreed
pub mod Scripts
