-- Lists of events worked out by hand from document 01, and that the definitions compute the same.
pub mod Listing
pub mod Examples
