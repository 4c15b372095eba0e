pub mod Laws
pub mod Agree
pub mod Unique
pub mod Leads
