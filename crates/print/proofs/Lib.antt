-- What the proofs of several functions use.
mod Written
mod Fronts
mod Answering
