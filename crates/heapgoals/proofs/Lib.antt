-- Laws that the proofs share.
mod Clears
mod Counts
mod Stands
mod Tells
mod Leads
mod Shows
mod Outs
