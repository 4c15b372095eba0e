pub mod Start
pub mod Env
pub mod Leaves
