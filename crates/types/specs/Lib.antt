pub mod Told
pub mod Contract
pub mod Stated
pub mod Holds
pub mod Subtype
