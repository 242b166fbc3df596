mod KeyLemmas
mod SolvingLemmas
mod GreatestLemmas
