-- The definitions that a reader holds beside document 01: bytes as a number, the stream, the value at a place, the widths.
pub mod Bytes
pub mod Stream
pub mod Place
pub mod Width
pub mod Search
