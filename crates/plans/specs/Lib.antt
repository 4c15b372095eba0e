-- ---- a state's bytes, by place and by number
pub mod Slots
pub mod ByteAt
pub mod Shows
-- ---- read off a buffer that holds a state, and found in one that may
pub mod Reads
pub mod Finding
-- ---- stores: what the code does
pub mod Store
pub mod Filling
pub mod Blank
pub mod Exchange
pub mod Moving
-- ---- the state after stores
pub mod Slotting
pub mod Holding
pub mod Rooms
pub mod Changing
pub mod Laying
-- ---- the calls: a step, a load
pub mod Naming
pub mod Stepping
pub mod Loading
pub mod Card
