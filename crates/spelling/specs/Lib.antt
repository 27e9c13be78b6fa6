pub mod Settling
pub mod Settled
pub mod Alike
pub mod Laws
pub mod Faces
