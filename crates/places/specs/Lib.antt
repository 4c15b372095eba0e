pub mod Cases
pub mod Clear
pub mod Put
