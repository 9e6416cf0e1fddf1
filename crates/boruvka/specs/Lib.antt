-- To be believed: Face tells states apart; Words and RowName are the words of its texts, Looks what its pages are told; Ended is the end
-- of a run. The rules stand in boruvka_node and boruvka_protocol. Proved, Kept and Ending have laws of the impls, and nothing of them
-- has to be believed.
pub mod Face
pub mod RowName
pub mod Words
pub mod Looks
pub mod Proved
pub mod Kept
pub mod Ended
pub mod Ending
