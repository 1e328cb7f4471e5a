-- One head tried on the heap, and the first clause that fits.
pub mod Trying
