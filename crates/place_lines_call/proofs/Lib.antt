pub mod LinesCalled
