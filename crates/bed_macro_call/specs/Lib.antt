pub mod Room
pub mod CallStatements
