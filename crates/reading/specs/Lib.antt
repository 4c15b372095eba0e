pub mod Placed
pub mod Place
pub mod First
pub mod Walk
pub mod Contract
