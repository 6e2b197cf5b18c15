-- Laws of balances.
pub mod View
pub mod Turns
pub mod Laws
