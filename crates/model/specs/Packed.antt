-- Rows as words of 32 bits in lent memory, four words a row, and the calls on them. The workers stay records. docs/PACKED.md has the
-- layout for whoever maps the words.
use Rattle.std.specs.Prelude.{if◌then◌else◌, ℕ, ◌+◌, ◌-◌, ◌*◌, ◌/◌, ◌%◌, Bool, true, false, not, ◌&&◌, List, [], ◌∷◌, length, ltb, eqb}
use Rattle.model.specs.State.{succ_of, empty_catalogue}
use Rattle.model.specs.Step.{refuse, accept}
use Rattle.model.specs.Run.{call}
use Rattle.model.specs.Printed.{call_worker}
use Rattle.model.specs.WellFormed.{well_formed}
use Rattle.model.specs.declared.Row.{Row}
use Rattle.model.specs.declared.Succ.{Succ}
use Rattle.model.specs.declared.Standing.{Standing}
use Rattle.model.specs.declared.Standing.TheVariants.{Free, Held, Linked}
use Rattle.model.specs.declared.Worker.{Worker}
use Rattle.model.specs.declared.Catalogue.{Catalogue}
use Rattle.model.specs.declared.Stepped.{Stepped}
use Rattle.model.specs.declared.Called.{Called}
use Rattle.model.specs.declared.Call.{Call}
use Rattle.model.specs.Verdict.{Verdict}
use Rattle.std.specs.Prelude.{Ok, Err}
use Rattle.model.specs.declared.Refusal.{Refusal}
use Rattle.model.specs.declared.Refusal.TheVariants.{NoSuchWorker, NotWellFormed}

-- ---- The words of rows: key, element, successor, and the rest ----

abbrev pub bit : Bool → ℕ
bit true = 1
bit false = 0

-- right row times 4, plus 2 if marked, plus 1 if flagged
unfoldable pub succ_word : Succ → ℕ
succ_word s = s.right * 4 + bit s.mark * 2 + bit s.flag

abbrev pub standing_number : Standing → ℕ
standing_number Free = 0
standing_number (Held w) = w + 2
standing_number Linked = 1

-- the backlink, plus 256 times the standing's number
unfoldable pub rest_word : Row → ℕ
rest_word r = standing_number r.standing * 256 + r.backlink

unfoldable pub packed : List Row → List ℕ
packed [] = []
packed (r ∷ rows) = r.key ∷ r.element ∷ succ_word r.succ ∷ rest_word r ∷ packed rows

-- ---- The rows of words ----
--
-- Every word is read as something. `packs_rows` says of which words that can be trusted.

unfoldable pub succ_from : ℕ → Succ
succ_from word = succ_of (word / 4 % 256) (eqb (word / 2 % 2) 1) (eqb (word % 2) 1)

unfoldable pub standing_from : ℕ → Standing
standing_from number =
    if eqb number 0 then Free
    else if eqb number 1 then Linked
    else Held ((number - 2) % 256)

unfoldable pub row_from : ℕ → ℕ → ℕ → ℕ → Row
row_from key element succ rest =
    record { key = key; element = element; backlink = rest % 256; succ = succ_from succ; standing = standing_from (rest / 256) }

-- words that are too few for a row are no row
unfoldable pub unpacked : List ℕ → List Row
unpacked [] = []
unpacked (k ∷ []) = []
unpacked (k ∷ e ∷ []) = []
unpacked (k ∷ e ∷ s ∷ []) = []
unpacked (k ∷ e ∷ s ∷ r ∷ words) = row_from k e s r ∷ unpacked words

-- packing the row that two words are read as gives them back
unfoldable pub packs_row : ℕ → ℕ → Bool
packs_row succ rest = eqb (succ_word (succ_from succ)) succ && eqb (rest_word (row_from 0 0 succ rest)) rest

unfoldable pub packs_each : List ℕ → Bool
packs_each [] = true
packs_each (k ∷ []) = true
packs_each (k ∷ e ∷ []) = true
packs_each (k ∷ e ∷ s ∷ []) = true
packs_each (k ∷ e ∷ s ∷ r ∷ words) = packs_row s r && packs_each words

-- the words are the packing of 128 rows
unfoldable pub packs_rows : List ℕ → Bool
packs_rows words = if eqb (length words) 512 then packs_each words else false

-- the state that words and workers stand for
abbrev pub state_of : List ℕ → List Worker → Catalogue
state_of words workers = record { rows = unpacked words; workers = workers }

-- a well-formed state, packed
unfoldable pub packed_well : List ℕ → List Worker → Bool
packed_well words workers = if packs_rows words then well_formed (state_of words workers) else false

-- ---- Submit and step on packed rows ----

-- after a call: what it gives back, and the words
pub record OnWords : Type 0 where
  pub called : Called
  pub words : List ℕ

-- what a call by value gave, with its rows packed
abbrev pub packed_stepped : Stepped → OnWords
packed_stepped s = record { called = record { verdict = s.verdict; workers = s.state.workers }; words = packed s.state.rows }

abbrev pub refused_on : Refusal → List ℕ → List Worker → OnWords
refused_on r words workers = record { called = record { verdict = Err r; workers = workers }; words = words }

-- Refusal 1; then 4 if the words pack no rows; else what the call gives on the state that words and workers stand for.
unfoldable pub packed_call : List ℕ → List Worker → Call → OnWords
packed_call words workers x =
    if ltb 7 (call_worker x) then refused_on NoSuchWorker words workers
    else if not (packs_rows words) then refused_on NotWellFormed words workers
    else packed_stepped (call (state_of words workers) x)

-- ---- A whole catalogue ----

-- Its rows go into 512 words; another number of words is refused with 4, and nothing is written.

unfoldable pub pack_verdict : List ℕ → Verdict
pack_verdict words = if eqb (length words) 512 then (Ok tt) else Err NotWellFormed

unfoldable pub pack_into : Catalogue → List ℕ → List ℕ
pack_into c words = if eqb (length words) 512 then packed c.rows else words

-- Words that pack no rows are refused with 4, and the catalogue is the empty one.
unfoldable pub unpack : List ℕ → List Worker → Stepped
unpack words workers = if packs_rows words then accept (state_of words workers) else refuse NotWellFormed empty_catalogue
