-- What is proved of trees and their records, for the readers above.
pub mod Lay
