-- Names as a list of bytes.
pub mod Lists
