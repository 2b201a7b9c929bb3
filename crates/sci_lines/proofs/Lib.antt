pub mod Paging
pub mod Digits
pub mod Threes
pub mod Signs
