-- What the contracts of this crate cite: lines and words (Text), the lines that aren't empty or comments (Statements), how many words there are (Words), what a
-- word spells (Numbers, Integers, Hex), faults (WhyNumber, Answers), and a name with a number (Named).
pub mod Answers
pub mod Hex
pub mod Integers
pub mod Named
pub mod Numbers
pub mod Statements
pub mod Text
pub mod WhyNumber
pub mod Words
