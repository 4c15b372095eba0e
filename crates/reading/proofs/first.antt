pub mod Laws
pub mod Codes
pub mod Agree
pub mod Stages
