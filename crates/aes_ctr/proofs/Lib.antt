pub mod Columns
pub mod Enciphering
pub mod Expanding
pub mod FieldLaws
pub mod FieldLemmas
pub mod RoundKeys
pub mod SBox
pub mod StreamLemmas
pub mod TableLemmas
mod Numbers
