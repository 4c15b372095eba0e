pub mod Plain
pub mod Apply
pub mod Write
pub mod Cond
pub mod Third
