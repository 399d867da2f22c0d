-- the shared word: the laws as lemmas, and on the number alone
pub mod SharedWordSteps
-- the word of a slot: the laws as lemmas
pub mod SlotSpellings
