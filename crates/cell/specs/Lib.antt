-- What the contracts and laws of the cell cite, in reading order.
pub mod Cell
pub mod Due
pub mod Rows
