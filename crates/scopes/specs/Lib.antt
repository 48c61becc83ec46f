pub mod Compensating
pub mod Ending
pub mod Installing
pub mod Throwing
