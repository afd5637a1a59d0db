-- The statement: Demand, and the map that it speaks of: PlainMap. Its proof stands in proofs/, whose Lib.antt says how the files there
-- lead to it.

pub mod PlainMap
pub mod Demand
