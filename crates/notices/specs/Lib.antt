-- What an error of the system is to who asked for a file, and the number of a status.
pub mod FileError
pub mod Status
