-- Two numbers compared, in three cases.
use Rattle.std.specs.Prelude.{ℕ, ◌<◌, ◌≡◌}
use Rattle.std.proofs.Common.{arith}
use Rattle.std.proofs.Math.Decide.{dec_lt}

pub data Compared (a b : ℕ) : Type 0 where
  less : a < b → Compared a b
  equal : a ≡ b → Compared a b
  more : b < a → Compared a b

pub compared : (a b : ℕ) → Compared a b
compared a b = go (dec_lt a b) (dec_lt b a)
  where
    go : Dec (a < b) → Dec (b < a) → Compared a b
    go (yes h) k = less h
    go (no h) (yes k) = more k
    go (no h) (no k) = equal (omega arith)
