-- What the functions for C answer and leave.
pub mod Host
