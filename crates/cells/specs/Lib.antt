-- What the contracts of the cells cite beside the definitions of the machine.
pub mod Methods
