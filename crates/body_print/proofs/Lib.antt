pub mod ByteLemmas
pub mod ClashLemmas
pub mod CutLemmas
pub mod GrowingLemmas
pub mod PrintLemmas
pub mod RebuildLemmas
pub mod ShardLemmas
