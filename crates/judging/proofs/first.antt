pub mod Kept
pub mod NewLock
pub mod Cell
pub mod Function
pub mod Read
