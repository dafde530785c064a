pub mod ContentBuckets
