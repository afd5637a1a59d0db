-- Rows with their words, as literals, both ways; the empty catalogue's words; words that pack no rows; and words that pack rows, of which
-- one is odd, with whether the state is well formed.
use Rattle.std.specs.Prelude.{ℕ, ◌*◌, ◌+◌, true, false, ◌≡◌, refl, List, [], ◌∷◌, ◌++◌, map, set, drop, replicate}
use Rattle.model.specs.State.{succ_of, empty_catalogue, idle_worker}
use Rattle.model.specs.Packed.{succ_word, rest_word, packed, succ_from, standing_from, row_from, unpacked, packs_row, packs_each, packs_rows, packed_well}
use Rattle.model.specs.WellFormed.{well_formed, row_well, worker_well, named_is_held, holder_names, held_row, line_numbers, all_from}
use Rattle.model.specs.declared.Row.{Row}
use Rattle.model.specs.declared.Succ.{Succ}
use Rattle.model.specs.declared.Standing.{Standing}
use Rattle.model.specs.declared.Standing.TheVariants.{Free, Held, Linked}
use Rattle.model.specs.declared.Worker.{Worker}
use Rattle.model.specs.declared.Answer.TheVariants.{NoAnswer}

-- ---- Rows and their words ----

pub record Sample : Type 0 where
  pub row : Row
  pub words : List ℕ

sample : ℕ → ℕ → ℕ → Succ → Standing → List ℕ → Sample
sample key element backlink succ standing words =
    record { row = record { key = key; element = element; backlink = backlink; succ = succ; standing = standing }; words = words }

pub samples : List Sample
unfolding sample
samples =
    -- a free row, the empty catalogue's head and tail
    sample 0 0 0 (succ_of 0 false false) Free (0 ∷ 0 ∷ 0 ∷ 0 ∷ [])
    ∷ sample 0 0 0 (succ_of 1 false false) Linked (0 ∷ 0 ∷ 4 ∷ 256 ∷ [])
    ∷ sample 0 0 0 (succ_of 0 false false) Linked (0 ∷ 0 ∷ 0 ∷ 256 ∷ [])
    -- a save, the same flagged, and marked with a backlink
    ∷ sample 5 50 0 (succ_of 3 false false) Linked (5 ∷ 50 ∷ 12 ∷ 256 ∷ [])
    ∷ sample 5 50 0 (succ_of 3 false true) Linked (5 ∷ 50 ∷ 13 ∷ 256 ∷ [])
    ∷ sample 5 50 2 (succ_of 3 true false) Linked (5 ∷ 50 ∷ 14 ∷ 258 ∷ [])
    -- held by worker 0 and by worker 7
    ∷ sample 20 200 0 (succ_of 3 false false) (Held 0) (20 ∷ 200 ∷ 12 ∷ 512 ∷ [])
    ∷ sample 20 200 127 (succ_of 127 false false) (Held 7) (20 ∷ 200 ∷ 508 ∷ 2431 ∷ [])
    -- rows of no well-formed state: mark and flag both set, row 128, worker 8, and the largest numbers of each field
    ∷ sample 5 50 0 (succ_of 3 true true) Linked (5 ∷ 50 ∷ 15 ∷ 256 ∷ [])
    ∷ sample 5 50 128 (succ_of 128 false false) (Held 8) (5 ∷ 50 ∷ 512 ∷ 2688 ∷ [])
    ∷ sample 4294967295 4294967295 255 (succ_of 255 true true) (Held 255) (4294967295 ∷ 4294967295 ∷ 1023 ∷ 66047 ∷ [])
    ∷ []

pub samples_packed : map (λ (x : Sample). packed (x.row ∷ [])) samples ≡ map (λ (x : Sample). x.words) samples
unfolding samples packed succ_word rest_word
samples_packed = refl

pub samples_unpacked : map (λ (x : Sample). unpacked x.words) samples ≡ map (λ (x : Sample). x.row ∷ []) samples
unfolding samples unpacked row_from succ_from standing_from
samples_unpacked = refl

-- the empty catalogue: the head's successor is (1,0,0), the tail's (0,0,0), both are linked, and everything else is zero
unfoldable pub empty_words : List ℕ
empty_words = 0 ∷ 0 ∷ 4 ∷ 256 ∷ 0 ∷ 0 ∷ 0 ∷ 256 ∷ replicate 504 0

pub empty_packed : packed empty_catalogue.rows ≡ empty_words
unfolding empty_words packed succ_word rest_word
empty_packed = refl

-- ---- Words that pack no rows ----

-- the empty catalogue's words, but for the third or the fourth word of row i

succ_is : ℕ → ℕ → List ℕ
unfolding empty_words
succ_is i word = set empty_words (i * 4 + 2) word

rest_is : ℕ → ℕ → List ℕ
unfolding empty_words
rest_is i word = set empty_words (i * 4 + 3) word

pub pack_nothing : List (List ℕ)
unfolding empty_words succ_is rest_is
pack_nothing =
    -- another length than 512
    [] ∷ drop 1 empty_words ∷ drop 4 empty_words ∷ (0 ∷ empty_words) ∷ (empty_words ++ 0 ∷ 0 ∷ 0 ∷ 0 ∷ [])
    -- a right row, and a holder, that is no byte
    ∷ succ_is 2 1024 ∷ succ_is 127 4294967295 ∷ rest_is 2 66048 ∷ rest_is 127 4294967295 ∷ []

pub nothing_packed : map packs_rows pack_nothing ≡ map (λ _. false) pack_nothing
unfolding pack_nothing packs_rows packs_each packs_row succ_word rest_word row_from succ_from standing_from
nothing_packed = refl

-- ---- Words of rows that are not well formed, and odd ones that are ----

abbrev idle_workers : List Worker
idle_workers = replicate 8 (idle_worker NoAnswer)

pub odd_words : List (List ℕ)
unfolding empty_words succ_is rest_is
odd_words =
    -- row 128, and more; both low bits set
    succ_is 2 512 ∷ succ_is 127 1020 ∷ succ_is 0 7 ∷ succ_is 127 3
    -- a backlink of 128, and of 255; a standing above 9: held by worker 8, and by worker 255
    ∷ rest_is 2 128 ∷ rest_is 127 255 ∷ rest_is 2 2560 ∷ rest_is 127 66047
    -- held by worker 0, which is idle; the head free
    ∷ rest_is 2 512 ∷ rest_is 0 0
    -- well formed: the largest right row, marked, and flagged; the largest backlink; a linked row off the chain
    ∷ succ_is 2 508 ∷ succ_is 127 510 ∷ succ_is 127 509 ∷ rest_is 2 127 ∷ rest_is 127 256 ∷ []

pub odd_words_lem : map (λ (words : List ℕ). packed_well words idle_workers) odd_words
    ≡ (false ∷ false ∷ false ∷ false ∷ false ∷ false ∷ false ∷ false ∷ false ∷ false ∷ true ∷ true ∷ true ∷ true ∷ true ∷ [])
unfolding odd_words packed_well packs_rows packs_each packs_row succ_word rest_word unpacked row_from succ_from standing_from well_formed row_well worker_well named_is_held holder_names held_row line_numbers all_from
odd_words_lem = refl
