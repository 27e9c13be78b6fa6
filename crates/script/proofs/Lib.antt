pub mod Cuts
pub mod Digits
pub mod Escapes
pub mod Newlines
pub mod Shown
