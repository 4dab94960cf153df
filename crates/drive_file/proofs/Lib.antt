pub mod AskLemmas
pub mod CountLemmas
pub mod FolderLemmas
pub mod OpeningLemmas
pub mod PathLemmas
pub mod TrailLemmas
