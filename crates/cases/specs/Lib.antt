pub mod Sums
pub mod Printed
