-- What the contracts of `draw` cite besides the definitions of `drawing`.
pub mod Drawable
