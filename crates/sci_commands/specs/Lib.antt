pub mod Banks
pub mod Defined
pub mod Headline
