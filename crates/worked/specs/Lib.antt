pub mod FullTable
