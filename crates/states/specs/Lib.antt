-- ---- the tests of the code, on bytes
pub mod Decides
pub mod Rows
pub mod RowWays
pub mod Tested
pub mod PlanWays
-- ---- what passes them is a state, and a state passes them
pub mod SlotRows
pub mod FromTests
pub mod ToTests
pub mod IsState
pub mod Unfit
-- ---- the race finder
pub mod Pairs
pub mod RaceIs
