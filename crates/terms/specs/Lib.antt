-- A text of numbers: what it says, how it is taken in pieces, and that both come to the same.
pub mod Loading
pub mod Text
