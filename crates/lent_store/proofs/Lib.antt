-- What an answer of a call by value is made of, for a proof that walks such a call by hand.
pub mod Answer
