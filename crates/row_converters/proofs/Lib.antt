-- The laws of the converters: their ways out, and that each takes back what the other did.
pub mod ConvertLaws
pub mod RoundLaws
