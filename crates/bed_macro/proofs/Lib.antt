mod ControlLemmas
