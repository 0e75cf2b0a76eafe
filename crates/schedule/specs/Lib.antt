pub mod Answer
pub mod Meaning
pub mod Stands
pub mod Vecs
