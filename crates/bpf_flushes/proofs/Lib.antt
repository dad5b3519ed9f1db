pub mod Joining
pub mod Turning
pub mod Rounding
pub mod OneCourse
