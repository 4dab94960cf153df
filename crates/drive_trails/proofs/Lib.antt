pub mod PlacingLemmas
