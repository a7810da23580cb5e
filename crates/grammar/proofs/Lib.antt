-- Leaves first. Tests; what is asked of terms, and what they derive.
pub mod Tests
pub mod Form
pub mod Made
pub mod Derives
-- the grammar of section 9 and derivation are one
pub mod Among
pub mod Sets
pub mod Shapes
pub mod Turns
pub mod Lower
pub mod Opened
pub mod Up
pub mod Down
pub mod Same
-- derivation and the reading are one
pub mod Forward
pub mod Sound
pub mod Complete
pub mod Unroll
pub mod Kin
pub mod Levels
-- more of the reading: within the stream, wherever it stands, under two rankings, errors that can't be met
pub mod Bounds
pub mod Stable
pub mod Bare
pub mod Rankings
pub mod Unmet
-- how large trees are
pub mod Size
pub mod Theorems
pub mod Sides
