-- Every byte that is printed for a schedule file: a heading, a line for each event that finishes a request or is refused, and a last
-- line; or one line for a refused file. Each line ends with a line feed.
use Rattle.std.specs.Prelude.{if◌then◌else◌, ℕ, zero, suc, ◌+◌, ◌/◌, ◌%◌, List, [], ◌∷◌, ◌++◌, ltb}
use Rattle.model.specs.State.{worker_at, empty_catalogue}
use Rattle.model.specs.Numbers.{answer_number, answer_element, refusal_number}
use Rattle.model.specs.Count.{saves_told, count, taken}
use Rattle.model.specs.Run.{call}
use Rattle.model.specs.Schedule.{file_verdict, calls_of}
use Rattle.model.specs.declared.Catalogue.{Catalogue}
use Rattle.model.specs.declared.Stepped.{Stepped}
use Rattle.model.specs.declared.Call.{Call}
use Rattle.model.specs.declared.Call.TheVariants.{Submit, Step}
use Rattle.model.specs.Verdict.{Verdict}
use Rattle.std.specs.Prelude.{Ok, Err}
use Rattle.model.specs.declared.Refusal.{Refusal}
use Rattle.model.specs.declared.Line.{Line}
use Rattle.model.specs.declared.Line.TheVariants.{Idle, Search, Insert, Flag, Help}

abbrev space : ℕ
space = 32

abbrev line_feed : ℕ
line_feed = 10

-- the digits of n before those that are there already; n has no more than n + 1 digits
unfoldable pub digits_before : ℕ → ℕ → List ℕ → List ℕ
digits_before zero n later = later
digits_before (suc most) n later =
    let digits = (48 + n % 10) ∷ later in
    let more = digits_before most (n / 10) digits in
    if ltb n 10 then digits else more

unfoldable pub decimal : ℕ → List ℕ
decimal n = digits_before (suc n) n []

-- "event worker result element"
unfoldable pub heading : List ℕ
heading =
    101 ∷ 118 ∷ 101 ∷ 110 ∷ 116 ∷ space
    ∷ 119 ∷ 111 ∷ 114 ∷ 107 ∷ 101 ∷ 114 ∷ space
    ∷ 114 ∷ 101 ∷ 115 ∷ 117 ∷ 108 ∷ 116 ∷ space
    ∷ 101 ∷ 108 ∷ 101 ∷ 109 ∷ 101 ∷ 110 ∷ 116 ∷ line_feed ∷ []

-- event number, worker as given, result and element, one space between
unfoldable pub event_line : ℕ → ℕ → List ℕ → ℕ → List ℕ
event_line n worker result element =
    decimal n ++ space ∷ decimal worker ++ space ∷ result ++ space ∷ decimal element ++ line_feed ∷ []

-- "r" and the refusal's number
abbrev pub refusal_text : Refusal → List ℕ
refusal_text r = 114 ∷ decimal (refusal_number r)

-- an accepted step that left worker w at this line: a line if it has finished
unfoldable pub finish_line : ℕ → ℕ → Line → List ℕ
finish_line n w (Idle a) = event_line n w (decimal (answer_number a)) (answer_element a)
finish_line n w (Search l f) = []
finish_line n w (Insert l f) = []
finish_line n w (Flag l f) = []
finish_line n w (Help l f) = []

abbrev pub call_worker : Call → ℕ
call_worker (Submit w code key element) = w
call_worker (Step w) = w

unfoldable pub accepted_text : ℕ → Call → Catalogue → List ℕ
accepted_text n (Submit w code key element) c = []
accepted_text n (Step w) c = finish_line n w (worker_at c.workers w).line

unfoldable pub verdict_text : ℕ → Call → Verdict → Catalogue → List ℕ
verdict_text n x (Ok tt) c = accepted_text n x c
verdict_text n x (Err r) c = event_line n (call_worker x) (refusal_text r) 0

-- what event n prints, after which the state is s.state
unfoldable pub event_text : ℕ → Call → Stepped → List ℕ
event_text n x s = verdict_text n x s.verdict s.state

-- "count N rows M"
unfoldable pub last_line : Catalogue → List ℕ
last_line c =
    99 ∷ 111 ∷ 117 ∷ 110 ∷ 116 ∷ space ∷ decimal (saves_told (count c.rows))
    ++ space ∷ 114 ∷ 111 ∷ 119 ∷ 115 ∷ space ∷ decimal (taken c.rows) ++ line_feed ∷ []

-- the lines of the events from number n on, and the last line
unfoldable pub run_text : ℕ → Catalogue → List Call → List ℕ
run_text n c [] = last_line c
run_text n c (x ∷ xs) = event_text n x (call c x) ++ run_text (n + 1) (call c x).state xs

-- "file" and the refusal's number
unfoldable pub refused_file : Refusal → List ℕ
refused_file r = 102 ∷ 105 ∷ 108 ∷ 101 ∷ space ∷ decimal (refusal_number r) ++ line_feed ∷ []

unfoldable pub file_text : Verdict → List ℕ → List ℕ
file_text (Ok tt) file = heading ++ run_text 1 empty_catalogue (calls_of file)
file_text (Err r) file = refused_file r

unfoldable pub printed : List ℕ → List ℕ
printed file = file_text (file_verdict file) file
