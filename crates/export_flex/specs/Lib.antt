pub mod Flexed
