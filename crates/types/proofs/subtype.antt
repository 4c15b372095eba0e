pub mod SetBits
pub mod Bound
pub mod Laws
pub mod Says
pub mod Unique
