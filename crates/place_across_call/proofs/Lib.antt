pub mod AcrossCalled
