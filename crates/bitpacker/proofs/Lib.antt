-- The packer's laws: of one call, and of a whole run.
pub mod Laws
pub mod Run
