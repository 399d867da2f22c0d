-- Reading: the calls of a line (Parts). Printing: a number is read back (Spelling), the words of a line (WordsBack), and a step (StepsBack). The program:
-- the race of an input and the bound on its states (Bounds), an input that is cut (Cutting), its answer (Answering), the meaning of the status if a race ends
-- with a fault (Ending), and arguments (Wording).
pub mod Answering
pub mod Bounds
pub mod Cutting
pub mod Ending
pub mod Parts
pub mod Spelling
pub mod StepsBack
pub mod Wording
pub mod WordsBack
