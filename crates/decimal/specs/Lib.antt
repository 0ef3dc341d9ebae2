-- What a decimal numeral is, and what reading one answers.
pub mod Digits
pub mod Line
pub mod Written
