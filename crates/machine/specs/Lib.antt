-- ---- what the code's answers mean
pub mod Answer
pub mod Cuts
pub mod Fitting
pub mod Means
pub mod Skipping
pub mod Kinds
-- ---- the kinds of step
pub mod Forms
pub mod Parts
pub mod Doing
-- ---- which kind it is
pub mod Inner
pub mod Cutting
pub mod Acting
-- ---- what else changes
pub mod Altering
-- ---- the step
pub mod DuePart
pub mod Answering
pub mod Behind
pub mod Running
pub mod Entering
pub mod Around
pub mod Public
-- ---- the runs
pub mod Numbers
pub mod Calling
pub mod RunCalls
pub mod Lowest
pub mod DefaultCalls
