pub mod SourceLemmas
mod FeedLemmas
mod LineLemmas
mod LimitLemmas
mod HeadLemmas
mod WindowLemmas
mod ArrivalLemmas
mod ReadingLemmas
mod NameLemmas
mod FramingLemmas
mod ExclusionLemmas
mod StayLemmas
mod OrderLemmas
