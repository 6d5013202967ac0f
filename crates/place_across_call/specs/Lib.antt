pub mod AcrossCall
