-- Lowest and highest of a list, first met, and the types whose lists have them.
pub mod MinMax
pub mod Order
pub mod Ranked
