pub mod Cones
pub mod Checks
pub mod ExactJobs
pub mod ExactRuns
pub mod ExactSections
pub mod Exactness
pub mod Layouts
pub mod Turns
