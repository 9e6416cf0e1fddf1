-- The rows of the table, each as the steps that keep the clauses.
pub mod EndingAct
pub mod Requeue
pub mod Read
pub mod Link
pub mod Ending
pub mod Tried
pub mod Steps
pub mod Rows
