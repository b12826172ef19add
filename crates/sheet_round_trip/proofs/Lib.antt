-- The laws of the format, the round trip both ways, the place of a refusal, and the longest sheet.
pub mod Pieces
pub mod RoundTrip
pub mod Places
pub mod Cut
