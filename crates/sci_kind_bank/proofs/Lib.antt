pub mod BankLemmas
pub mod RunLemmas
pub mod CallLemmas
