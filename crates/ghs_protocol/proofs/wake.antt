-- The opening, and nodes that wake.
pub mod Inward
pub mod Outward
pub mod Alone
pub mod Floors
pub mod UnderWay
pub mod Opening
