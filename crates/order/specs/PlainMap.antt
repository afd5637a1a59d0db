-- A plain map from save number to file number, and what it answers when it is asked one request after another.
use Rattle.std.specs.Prelude.{if◌then◌else◌, ℕ, eqb}
use Rattle.std.proofs.Math.Option.{Option, none, some}
use Rattle.model.specs.declared.Answer.{Answer}
use Rattle.model.specs.declared.Answer.TheVariants.{Found, Absent, Added, Duplicate, Removed}

abbrev pub PlainMap : Type 0
PlainMap = ℕ → Option ℕ

unfoldable pub empty_map : PlainMap
empty_map key = none

-- the map with `entry` under one key
unfoldable pub setting : PlainMap → ℕ → Option ℕ → PlainMap
setting m key entry k = if eqb k key then entry else m k

pub data Operation : Type 0 where
  search : ℕ → Operation
  insert : ℕ → ℕ → Operation
  delete : ℕ → Operation

-- the operation of a request: code 1 search, 2 insert, 3 delete
unfoldable pub operation : ℕ → ℕ → ℕ → Operation
operation code key element = if eqb code 1 then search key else if eqb code 2 then insert key element else delete key

-- the answer, given what the map holds at the key
abbrev pub answer_holding : Operation → Option ℕ → Answer
answer_holding (search key) none = Absent
answer_holding (search key) (some e) = Found e
answer_holding (insert key element) none = Added
answer_holding (insert key element) (some e) = Duplicate
answer_holding (delete key) none = Absent
answer_holding (delete key) (some e) = Removed e

abbrev pub key_of : Operation → ℕ
key_of (search key) = key
key_of (insert key element) = key
key_of (delete key) = key

unfoldable pub answer_of : PlainMap → Operation → Answer
answer_of m o = answer_holding o (m (key_of o))

-- what the map holds at the key afterwards
abbrev pub holding_after : Operation → Option ℕ → Option ℕ
holding_after (search key) held = held
holding_after (insert key element) none = some element
holding_after (insert key element) (some e) = some e
holding_after (delete key) held = none

unfoldable pub after_asking : PlainMap → Operation → PlainMap
after_asking m o = setting m (key_of o) (holding_after o (m (key_of o)))
