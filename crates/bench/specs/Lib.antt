pub mod Packing
pub mod Judging
pub mod Loading
pub mod Stepping
pub mod Racing
pub mod Running
pub mod Listing
