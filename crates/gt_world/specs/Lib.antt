pub mod CrashFacts
pub mod Crashes
pub mod RunFacts
pub mod SoundRuns
pub mod World
