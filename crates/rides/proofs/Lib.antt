-- What the proofs share.
pub mod Rides
pub mod Stands
pub mod Goes
pub mod Aside
