pub mod RollLaws
pub mod ValueLaws
