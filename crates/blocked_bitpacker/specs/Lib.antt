-- The blocked store: what a store is in its areas, and what each call answers and leaves.
pub mod Store
pub mod Calls
pub mod Parts
