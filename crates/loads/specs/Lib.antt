pub mod Split
pub mod Steps
pub mod Walk
pub mod Contract
pub mod Loading
