mod StepLemmas
mod FrontLemmas
mod TrailLemmas
mod ClosingLemmas
