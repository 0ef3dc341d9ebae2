-- The laws of the desk's words and lists.
pub mod Laws
