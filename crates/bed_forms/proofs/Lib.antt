pub mod SumLaws
pub mod KeyLaws
pub mod FormValues
pub mod FormOrder
pub mod FormLaws
pub mod SameForms
pub mod DifferenceLaws
