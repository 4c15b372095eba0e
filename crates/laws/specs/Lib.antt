-- ---- tools: tests and lists
pub mod Tests
pub mod Lists
-- ---- sets and types
pub mod SetLaws
pub mod Raising
pub mod Scope
pub mod Subtypes
-- ---- the reading: each reader walked through once, and back
pub mod Shown
pub mod ReadBack
pub mod TypesRead
pub mod ExpsRead
pub mod ExpsBack
pub mod Images
-- ---- the typing
pub mod Judging
pub mod Unique
pub mod Verdicts
pub mod Sizes
-- ---- the bytes of a state
pub mod TermBytes
pub mod SlotBytes
pub mod StateBytes
pub mod Cards
-- ---- the machine without types: sections, marks, room
pub mod Erasing
pub mod Values
pub mod Placed
pub mod Seats
pub mod Changes
pub mod Moves
pub mod Whole
pub mod Good
pub mod Keeping
pub mod Local
pub mod Races
-- ---- the calls
pub mod CallLaws
pub mod LoadLaws
pub mod RunLaws
pub mod CaseLaws
pub mod Numbers
pub mod Touched
