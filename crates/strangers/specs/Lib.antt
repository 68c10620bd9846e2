pub mod Hooks
pub mod Ramps
pub mod RampRange
pub mod Trials
