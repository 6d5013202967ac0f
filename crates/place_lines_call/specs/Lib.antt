pub mod LinesCall
