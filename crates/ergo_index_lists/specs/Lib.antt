-- What the exports of the C interface share.
pub mod Lists
