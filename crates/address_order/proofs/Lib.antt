-- Laws of the order.
pub mod Comparisons
pub mod TokenOrder
pub mod AccountOrder
pub mod ListOrder
