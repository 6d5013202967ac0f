pub mod SizeCalled
