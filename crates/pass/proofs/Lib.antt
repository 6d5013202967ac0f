pub mod LaidLaws
pub mod LineAlone
pub mod OneLaid
pub mod AcceptLaws
pub mod OnePass
