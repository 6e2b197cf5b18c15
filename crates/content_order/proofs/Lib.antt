-- Laws of two addresses that are read and compared.
pub mod PassedLaws
pub mod ContentLaws
