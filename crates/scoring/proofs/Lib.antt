-- What the functions' proofs cite: laws of what was counted, and of the questions of given masks.
pub mod TallyLaws
pub mod QuestionLaws
