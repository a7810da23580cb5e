-- What is proved of the program's function.
pub mod Written
pub mod Said
pub mod Decided
