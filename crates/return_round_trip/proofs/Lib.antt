-- The format's laws, the round trip both ways, the place of a refusal, and a return field after field.
pub mod Lawful
pub mod Years
pub mod RoundTrip
pub mod Places
pub mod Flat
