-- Names of one sort, in the order of their first appearance, as the code holds them.
pub mod Table
