pub mod WordTests
