pub mod Due
pub mod DueLaws
pub mod Rows
pub mod RowLaws
