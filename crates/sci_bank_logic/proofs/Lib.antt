pub mod PatternLemmas
pub mod JoinLemmas
pub mod CountLemmas
