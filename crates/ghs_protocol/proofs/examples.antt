-- Nets and runs computed from the definitions.
pub mod Runs
pub mod Graphs
pub mod Interleavings
pub mod Progress
pub mod Halted
pub mod Fair
