-- What an item of the stream is, and the sum over an area.
pub mod Item
pub mod Sum
