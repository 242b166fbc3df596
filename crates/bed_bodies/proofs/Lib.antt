pub mod BodyLaws
pub mod FunctionLaws
pub mod EntryLaws
pub mod SpecificationLaws
