-- The unpacker's laws: of reading, of the search in batches, and of the search one by one.
pub mod Laws
pub mod Narrow
pub mod Wide
