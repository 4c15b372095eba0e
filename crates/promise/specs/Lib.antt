pub mod Calls
pub mod Safe
