pub mod StoreNotes
pub mod Changes
