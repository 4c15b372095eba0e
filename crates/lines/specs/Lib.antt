pub mod Cut
pub mod CutLaws
pub mod Digits
pub mod DigitLaws
