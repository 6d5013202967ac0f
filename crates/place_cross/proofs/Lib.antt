pub mod AcrossLaws
pub mod Stretched
pub mod AutoMargins
pub mod ShortLine
pub mod Worked
