pub mod ControlForm
pub mod Reading
