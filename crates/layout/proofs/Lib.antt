pub mod Named
pub mod Others
pub mod Owns
pub mod Refusing
pub mod Units
