-- The laws of the loops over the cells.
pub mod Tests
pub mod Cells
pub mod Marks
