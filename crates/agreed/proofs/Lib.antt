-- What is proved of the agreed reading, leaves first.
pub mod Places
pub mod Readings
pub mod Cases
pub mod Decided
pub mod Theorems
pub mod Scripts
