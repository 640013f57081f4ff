-- What the proofs of several functions use.
mod Going
mod Whole
mod Windowing
