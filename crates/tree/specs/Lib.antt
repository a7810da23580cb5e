pub mod Forest
pub mod Tags
