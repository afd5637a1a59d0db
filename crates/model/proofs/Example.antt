-- The example file of document 01, and the three lines that are printed for it. And two more files: one with a refused event and elements that
-- are printed, and one that is refused.
use Rattle.std.specs.Prelude.{ℕ, ◌≡◌, refl, List, [], ◌∷◌, ◌++◌, map}
use Rattle.model.proofs.Computed.{computed}
use Rattle.model.specs.Numbers.{answer_number, answer_element, refusal_number}
use Rattle.model.specs.WellFormed.{all_from}
use Rattle.model.specs.Count.{walk, is_save, saves_among, saves, countable, count, taken_from, taken}
use Rattle.model.specs.Schedule.{two_bytes, four_bytes, record_fits, records_fit, file_verdict, record_call, calls_from, calls_of}
use Rattle.model.specs.Printed.{digits_before, decimal, heading, event_line, finish_line, accepted_text, verdict_text, event_text, last_line, run_text, refused_file, file_text, printed}
use Rattle.model.specs.declared.Call.TheVariants.{Submit, Step}

pub example_file : List ℕ
example_file =
    0x01 ∷ 0x00 ∷ 0x13
    ∷ 0x0A ∷ 0x00 ∷ 0x02 ∷ 0x00 ∷ 0x00 ∷ 0x00 ∷ 0x05 ∷ 0x00 ∷ 0x00 ∷ 0x00 ∷ 0x32
    ∷ 0x01 ∷ 0x00 ∷ 0x01 ∷ 0x00 ∷ 0x01 ∷ 0x00 ∷ 0x01 ∷ 0x00 ∷ []

-- "event worker result element", "5 0 3 0" and "count 1 rows 1"
pub example_lines : List ℕ
example_lines =
    0x65 ∷ 0x76 ∷ 0x65 ∷ 0x6E ∷ 0x74 ∷ 0x20 ∷ 0x77 ∷ 0x6F ∷ 0x72 ∷ 0x6B ∷ 0x65 ∷ 0x72 ∷ 0x20 ∷ 0x72 ∷ 0x65 ∷ 0x73 ∷ 0x75 ∷ 0x6C ∷ 0x74 ∷ 0x20
    ∷ 0x65 ∷ 0x6C ∷ 0x65 ∷ 0x6D ∷ 0x65 ∷ 0x6E ∷ 0x74 ∷ 0x0A
    ∷ 0x35 ∷ 0x20 ∷ 0x30 ∷ 0x20 ∷ 0x33 ∷ 0x20 ∷ 0x30 ∷ 0x0A
    ∷ 0x63 ∷ 0x6F ∷ 0x75 ∷ 0x6E ∷ 0x74 ∷ 0x20 ∷ 0x31 ∷ 0x20 ∷ 0x72 ∷ 0x6F ∷ 0x77 ∷ 0x73 ∷ 0x20 ∷ 0x31 ∷ 0x0A ∷ []

pub example_printed : printed example_file ≡ example_lines
unfolding computed answer_number answer_element refusal_number all_from walk is_save saves_among saves countable count taken_from taken two_bytes four_bytes record_fits records_fit file_verdict record_call calls_from calls_of digits_before decimal heading event_line finish_line accepted_text verdict_text event_text last_line run_text refused_file file_text printed example_file example_lines
example_printed = refl

-- a step of worker 9; an insert of key 0x01020304 with element 0x05060708, four steps; a search for it, three steps
pub other_file : List ℕ
other_file =
    0x01 ∷ 0x00 ∷ 0x26
    ∷ 0x01 ∷ 0x09
    ∷ 0x0A ∷ 0x00 ∷ 0x02 ∷ 0x01 ∷ 0x02 ∷ 0x03 ∷ 0x04 ∷ 0x05 ∷ 0x06 ∷ 0x07 ∷ 0x08
    ∷ 0x01 ∷ 0x00 ∷ 0x01 ∷ 0x00 ∷ 0x01 ∷ 0x00 ∷ 0x01 ∷ 0x00
    ∷ 0x0A ∷ 0x00 ∷ 0x01 ∷ 0x01 ∷ 0x02 ∷ 0x03 ∷ 0x04 ∷ 0x05 ∷ 0x06 ∷ 0x07 ∷ 0x08
    ∷ 0x01 ∷ 0x00 ∷ 0x01 ∷ 0x00 ∷ 0x01 ∷ 0x00 ∷ []

-- the heading, "1 9 r1 0", "6 0 3 0", "10 0 1 84281096" and "count 1 rows 1"
pub other_lines : List ℕ
other_lines =
    heading
    ++ 0x31 ∷ 0x20 ∷ 0x39 ∷ 0x20 ∷ 0x72 ∷ 0x31 ∷ 0x20 ∷ 0x30 ∷ 0x0A
    ∷ 0x36 ∷ 0x20 ∷ 0x30 ∷ 0x20 ∷ 0x33 ∷ 0x20 ∷ 0x30 ∷ 0x0A
    ∷ 0x31 ∷ 0x30 ∷ 0x20 ∷ 0x30 ∷ 0x20 ∷ 0x31 ∷ 0x20 ∷ 0x38 ∷ 0x34 ∷ 0x32 ∷ 0x38 ∷ 0x31 ∷ 0x30 ∷ 0x39 ∷ 0x36 ∷ 0x0A
    ∷ 0x63 ∷ 0x6F ∷ 0x75 ∷ 0x6E ∷ 0x74 ∷ 0x20 ∷ 0x31 ∷ 0x20 ∷ 0x72 ∷ 0x6F ∷ 0x77 ∷ 0x73 ∷ 0x20 ∷ 0x31 ∷ 0x0A ∷ []

-- version 2; and what is printed, "file 7"
pub version_two : List ℕ
version_two = 0x02 ∷ 0x00 ∷ 0x00 ∷ []

pub version_lines : List ℕ
version_lines = 0x66 ∷ 0x69 ∷ 0x6C ∷ 0x65 ∷ 0x20 ∷ 0x37 ∷ 0x0A ∷ []

pub others_printed : map printed (other_file ∷ version_two ∷ []) ≡ (other_lines ∷ version_lines ∷ [])
unfolding computed answer_number answer_element refusal_number all_from walk is_save saves_among saves countable count taken_from taken two_bytes four_bytes record_fits records_fit file_verdict record_call calls_from calls_of digits_before decimal heading event_line finish_line accepted_text verdict_text event_text last_line run_text refused_file file_text printed other_file other_lines version_two version_lines
others_printed = refl

-- the calls that its records are: worker, code, key and element, big-endian
pub other_calls : calls_of other_file
    ≡ (Step 9 ∷ Submit 0 2 0x01020304 0x05060708 ∷ Step 0 ∷ Step 0 ∷ Step 0 ∷ Step 0 ∷ Submit 0 1 0x01020304 0x05060708 ∷ Step 0 ∷ Step 0 ∷ Step 0 ∷ [])
unfolding two_bytes four_bytes record_call calls_from calls_of other_file
other_calls = refl
