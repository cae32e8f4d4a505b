pub mod ChunkLemmas
pub mod CursorLemmas
pub mod InsertLemmas
pub mod PutLemmas
