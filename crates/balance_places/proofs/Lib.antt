-- Laws of a balance in its places.
pub mod PlaceLaws
