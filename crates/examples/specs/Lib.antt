pub mod Settling
pub mod Store
