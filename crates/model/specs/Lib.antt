-- What the contracts of the model cite beside the definitions of the machine.
pub mod View
