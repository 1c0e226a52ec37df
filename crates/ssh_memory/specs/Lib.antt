pub mod FirstNamed
pub mod MemoryFiles
pub mod MemoryRuns
