pub mod Contract
pub mod Parts
pub mod Answered
