mod FieldLemmas
mod SymbolLemmas
mod ImageLemmas
mod LoopLemmas
mod FaultLemmas
pub mod FileLaws
