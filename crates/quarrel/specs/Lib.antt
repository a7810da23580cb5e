pub mod Chains
pub mod Rule
pub mod Notes
