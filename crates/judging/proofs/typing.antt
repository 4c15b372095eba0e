pub mod Parts
pub mod One
pub mod Two
pub mod Three
pub mod Halves
pub mod Rule
