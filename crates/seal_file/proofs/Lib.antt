pub mod SealedLemmas
