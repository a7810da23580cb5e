-- What is proved of the token reader: its steps, and the token after so many.
pub mod Steps
pub mod Nth
