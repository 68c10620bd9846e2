pub mod RingTest
pub mod RingRule
