pub mod AppendFaults
pub mod Edits
pub mod FieldLaws
pub mod Fields
pub mod GroupOfEdit
pub mod Manifests
