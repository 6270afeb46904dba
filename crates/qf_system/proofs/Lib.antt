pub mod GoalSystems
pub mod SmallSums
pub mod SmallCircuits
pub mod SmallRows
pub mod WidthsKeep
pub mod SoundLogs
