pub mod CheckLaws
pub mod ChainLaws
pub mod CarryLaws
pub mod WalkLaws
pub mod PlainLaws
pub mod InversionLaws
