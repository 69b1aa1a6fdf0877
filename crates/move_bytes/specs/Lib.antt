pub mod MoveBytes
