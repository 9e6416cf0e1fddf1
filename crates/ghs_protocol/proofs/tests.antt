-- Tests and their answers.
pub mod Links
pub mod Steps
pub mod Floors
pub mod UnderWay
