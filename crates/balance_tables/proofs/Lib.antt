pub mod TablesLaws
pub mod PixelsLaws
