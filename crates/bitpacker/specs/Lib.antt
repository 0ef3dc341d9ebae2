-- What the packer's calls answer and leave, and what a whole run of them does.
pub mod Packer
pub mod Run
