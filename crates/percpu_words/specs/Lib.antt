pub mod SharedWord
pub mod Words
pub mod SlotWord
pub mod SlotWords
