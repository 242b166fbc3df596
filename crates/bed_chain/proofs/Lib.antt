mod RebuiltLemmas
mod NodeLemmas
mod LinkLemmas
mod AlongLemmas
mod PointLemmas
mod FreeLemmas
mod AnswerLemmas
mod PushLemmas
