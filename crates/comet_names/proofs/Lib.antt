pub mod Chains
pub mod PartLaws
pub mod JudgingLaws
pub mod Lengths
pub mod PackedLaws
pub mod PrintedLaws
pub mod Examples
