-- The schedule file: version byte 1, a two-byte big-endian length of what follows, then records. A record is a length byte and so
-- many bytes: 1, the worker (a step), or 10, worker, code, key and element (a submit). A file is a list of bytes.
use Rattle.std.specs.Prelude.{if◌then◌else◌, ℕ, zero, suc, ◌+◌, ◌*◌, Bool, true, false, not, ◌&&◌, ◌||◌, List, [], ◌∷◌, length, drop, get_or, ltb, leb, eqb}
use Rattle.model.specs.declared.Call.{Call}
use Rattle.model.specs.declared.Call.TheVariants.{Submit, Step}
use Rattle.model.specs.Verdict.{Verdict}
use Rattle.std.specs.Prelude.{Ok, Err}
use Rattle.model.specs.declared.Refusal.TheVariants.{FileVersion, FileLength, FileRecord, FileTooLong}

abbrev pub byte_at : List ℕ → ℕ → ℕ
byte_at bytes i = get_or bytes i 0

-- two and four bytes, big-endian
unfoldable pub two_bytes : List ℕ → ℕ → ℕ
two_bytes bytes i = byte_at bytes i * 256 + byte_at bytes (i + 1)

unfoldable pub four_bytes : List ℕ → ℕ → ℕ
four_bytes bytes i = two_bytes bytes i * 65536 + two_bytes bytes (i + 2)

abbrev pub stated_length : List ℕ → ℕ
stated_length file = two_bytes file 1

abbrev pub body : List ℕ → List ℕ
body file = drop 3 file

-- a record of n bytes: n is 1 or 10, and n bytes are there
unfoldable pub record_fits : ℕ → List ℕ → Bool
record_fits n rest = (eqb n 1 || eqb n 10) && leb n (length rest)

-- Every record fits. Each takes at least one byte, so as many tries as there are bytes are enough.
unfoldable pub records_fit : ℕ → List ℕ → Bool
records_fit zero [] = true
records_fit zero (n ∷ rest) = false
records_fit (suc tries) [] = true
records_fit (suc tries) (n ∷ rest) = record_fits n rest && records_fit tries (drop n rest)

-- File, refusals 8 (short), 7, 10, 8 (length), 9.
unfoldable pub file_verdict : List ℕ → Verdict
file_verdict file =
    if ltb (length file) 3 then Err FileLength
    else if not (eqb (byte_at file 0) 1) then Err FileVersion
    else if ltb 60000 (stated_length file) then Err FileTooLong
    else if not (eqb (stated_length file) (length (body file))) then Err FileLength
    else if not (records_fit (length (body file)) (body file)) then Err FileRecord
    else (Ok tt)

-- the call of a record of n bytes
unfoldable pub record_call : ℕ → List ℕ → Call
record_call n rest =
    if eqb n 1
    then Step (byte_at rest 0)
    else Submit (byte_at rest 0) (byte_at rest 1) (four_bytes rest 2) (four_bytes rest 6)

unfoldable pub calls_from : ℕ → List ℕ → List Call
calls_from zero bytes = []
calls_from (suc tries) [] = []
calls_from (suc tries) (n ∷ rest) = record_call n rest ∷ calls_from tries (drop n rest)

-- the calls of a file that is not refused, one for each record
unfoldable pub calls_of : List ℕ → List Call
calls_of file = calls_from (length (body file)) (body file)
