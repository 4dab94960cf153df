pub mod EntityTags
