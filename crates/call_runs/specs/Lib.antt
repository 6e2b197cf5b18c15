-- Which calls of an input are made, one after the other, and what they say.
pub mod Made
pub mod Delivered
