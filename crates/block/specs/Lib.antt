-- One block of values: how it is packed and read back, and what sealing and reading one answer and leave.
pub mod Block
pub mod Calls
