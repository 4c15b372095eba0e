pub mod Means
pub mod Passing
pub mod Stated
