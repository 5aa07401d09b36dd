pub mod Batches
pub mod MagnitudeLaws
pub mod Chains
pub mod NameLaws
pub mod LineLaws
pub mod RangeLaws
pub mod LineTexts
