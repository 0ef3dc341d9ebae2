-- What the unpacker's calls answer and leave; and, for its private functions, what they ask and leave.
pub mod Unpacker
pub mod Parts
pub mod Roads
