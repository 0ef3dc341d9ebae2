-- `Laws`: lowest and highest over any order. `Bounds`: the same for whole numbers, for the crates that link this one too.
-- `Numbers`: lowest and highest of those elements of a list that count.
pub mod Laws
pub mod Bounds
pub mod Numbers
