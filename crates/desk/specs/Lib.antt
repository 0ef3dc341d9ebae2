-- What the program's words ask for, what is said of wrong ones, and what is shown of a block.
pub mod Words
pub mod Sentences
pub mod Blocks
