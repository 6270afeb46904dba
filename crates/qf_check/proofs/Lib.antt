pub mod UndoLemmas
pub mod StepsTaken
pub mod SplitLemmas
pub mod WalkLemmas
pub mod SelectorLemmas
pub mod GroundLemmas
pub mod Judged
