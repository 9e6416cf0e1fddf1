-- Proofs of the program's own functions.
mod Words
