pub mod Forms
pub mod Bytes
pub mod Answers
pub mod RoundTrip
pub mod FieldCodec
pub mod Meaning
