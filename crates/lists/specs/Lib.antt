pub mod Tests
pub mod Tabulate
pub mod Segments
pub mod Bytes
