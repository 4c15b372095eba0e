pub mod First
pub mod Laws
pub mod Judged
pub mod Unique
