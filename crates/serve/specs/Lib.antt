-- Which statuses a request can come to.
pub mod Status
