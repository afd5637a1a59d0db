-- States made by hand. Single calls on them, for what no answer of a schedule shows: what a line leaves in the row that it writes and in
-- its worker's record, and where the pending helps end. And states that are not well formed, each by one clause.
use Rattle.std.specs.Prelude.{ℕ, true, false, ◌≡◌, refl, List, [], ◌∷◌, map, set}
use Rattle.model.specs.State.{row_at, worker_at, succ_of, free_row, end_row, no_helps, fresh_worker, idle_worker, empty_catalogue}
use Rattle.model.specs.Insert.{insert_frame}
use Rattle.model.specs.WellFormed.{well_formed, row_well, worker_well, named_is_held, holder_names, held_row, line_numbers, all_from}
use Rattle.model.specs.Step.{with_worker}
use Rattle.model.proofs.Computed.{computed}
use Rattle.model.specs.declared.Row.{Row}
use Rattle.model.specs.declared.Succ.{Succ}
use Rattle.model.specs.declared.Standing.{Standing}
use Rattle.model.specs.declared.Standing.TheVariants.{Free, Held, Linked}
use Rattle.model.specs.declared.Pending.{Pending}
use Rattle.model.specs.declared.Worker.{Worker}
use Rattle.model.specs.declared.Catalogue.{Catalogue}
use Rattle.model.specs.declared.Answer.TheVariants.{NoAnswer, Found, Added, Duplicate}
use Rattle.model.specs.declared.Call.{Call}
use Rattle.model.specs.declared.Call.TheVariants.{Submit, Step}
use Rattle.model.specs.declared.Stepped.{Stepped}
use Rattle.model.specs.Verdict.{Verdict}
use Rattle.std.specs.Prelude.{Ok, Err}
use Rattle.model.specs.declared.Refusal.TheVariants.{NinthHelp}
use Rattle.model.specs.declared.SearchCaller.{SearchCaller}
use Rattle.model.specs.declared.SearchCaller.TheVariants.{Search1, Insert1, Insert19, Delete1, TryFlag11}
use Rattle.model.specs.declared.SearchLine.{SearchLine}
use Rattle.model.specs.declared.SearchLine.TheVariants.{SearchFrom1, SearchFrom4, SearchFrom5HelpMarked2, SearchFrom9}
use Rattle.model.specs.declared.InsertLine.{InsertLine}
use Rattle.model.specs.declared.InsertLine.TheVariants.{Insert4, Insert6, Insert11, Insert17}
use Rattle.model.specs.declared.FlagLine.TheVariants.{TryFlag2}
use Rattle.model.specs.declared.HelpCaller.TheVariants.{Insert16, Delete6}
use Rattle.model.specs.declared.HelpLine.{HelpLine}
use Rattle.model.specs.declared.HelpLine.TheVariants.{HelpFlagged1, HelpFlagged2, TryMark3, TryMark6, HelpMarked2}
use Rattle.model.specs.declared.Line.{Line}
use Rattle.model.specs.declared.Line.TheVariants.{Idle, Search, Insert, Flag, Help}

-- ---- The words of the tables ----

-- the empty catalogue with another row at i, and with another record of worker 0
abbrev with_row : ℕ → Row → Catalogue → Catalogue
with_row i r c = record { rows = set c.rows i r; workers = c.workers }

abbrev worker0 : Worker → Catalogue → Catalogue
worker0 k c = with_worker c 0 k

abbrev row : ℕ → ℕ → ℕ → Succ → Standing → Row
row key element backlink succ standing =
    record { key = key; element = element; backlink = backlink; succ = succ; standing = standing }

-- the row of an insert of 5 with element 50 by worker 0, as line 4 leaves it
abbrev held : Row
held = row 5 50 0 (succ_of 0 false false) (Held 0)

abbrev pending : ℕ → ℕ → Pending
pending prev del = record { prev = prev; del = del }

-- a worker at a line, with so many pending helps in these slots
abbrev working : Line → List Pending → ℕ → Worker
working line helps count = record { line = line; helps = helps; count = count }

-- a request with key 5
abbrev searching : SearchLine → ℕ → SearchCaller → Line
searching line curr caller = Search line (record { key = 5; element = 0; curr = curr; caller = caller })

-- an insert of 5 with element 50
abbrev inserting : InsertLine → ℕ → Line
inserting line prev = Insert line (insert_frame 5 50 prev)

abbrev flagging : ℕ → ℕ → Line
flagging prev target = Flag TryFlag2 (record { key = 5; prev = prev; target = target })

-- a delete of row 2 that helps (prev, del)
abbrev helping : HelpLine → ℕ → ℕ → Line
helping line prev del = Help line (record { key = 5; element = 0; prev = prev; del = del; caller = Delete6 2 true })

-- a slot that is not in use, and not zero
abbrev unused : List Pending
unused = set no_helps 5 (pending 3 3)

-- ---- Single calls ----

-- a call, and one row and the record of worker 0 after it
pub record Sample : Type 0 where
  pub state : Catalogue
  pub call : Call
  pub at : ℕ
  pub verdict : Verdict
  pub row : Row
  pub worker : Worker

pub data Left : Type 0 where
  left : Verdict → Row → Worker → Left

unfoldable pub left_by : ℕ → Stepped → Left
left_by i s = left s.verdict (row_at s.state.rows i) (worker_at s.state.workers 0)

-- Line 4 takes a free row that is not zero: all but key and element becomes zero.
abbrev row_not_zero : Sample
row_not_zero = record {
  state = worker0 (fresh_worker (inserting (Insert4 1) 0)) (with_row 2 (row 9 9 3 (succ_of 3 true false) Free) empty_catalogue);
  call = Step 0;
  at = 2;
  verdict = (Ok tt);
  row = held;
  worker = fresh_worker (inserting (Insert6 1 2) 0);
}

-- Line 11 fails, as row 3 has come in between: line 10's store in the held row stays.
abbrev store_stays : Sample
store_stays = record {
  state =
      worker0 (fresh_worker (inserting (Insert11 1 2) 0))
      (with_row 0 (end_row 3) (with_row 3 (row 4 40 0 (succ_of 1 false false) Linked)
      (with_row 2 held empty_catalogue)));
  call = Step 0;
  at = 2;
  verdict = (Ok tt);
  row = row 5 50 0 (succ_of 1 false false) (Held 0);
  worker = fresh_worker (inserting (Insert17 2) 0);
}

-- Lines 10 and 11 where prev is the held row itself: the store comes first, so that C&S finds what was stored.
abbrev prev_is_held : Sample
prev_is_held = record {
  state =
      worker0 (fresh_worker (inserting (Insert11 1 2) 2))
      (with_row 2 held empty_catalogue);
  call = Step 0;
  at = 2;
  verdict = (Ok tt);
  row = row 5 50 0 (succ_of 2 false false) Linked;
  worker = idle_worker Added;
}

-- Line 20, Duplicate: the held row becomes free and zero, and so do all other registers of the worker.
abbrev row_given_back : Sample
row_given_back = record {
  state =
      worker0 (working (searching SearchFrom9 3 (Insert19 2)) unused 0)
      (with_row 0 (end_row 3) (with_row 3 (row 5 51 0 (succ_of 1 false false) Linked)
      (with_row 2 (row 5 50 0 (succ_of 1 false false) (Held 0)) empty_catalogue)));
  call = Step 0;
  at = 2;
  verdict = (Ok tt);
  row = free_row;
  worker = idle_worker Duplicate;
}

-- Rows 2 and 3: the head is flagged for row 2, and row 2 for row 3.
abbrev flagged : Catalogue
flagged =
    with_row 0 (row 0 0 0 (succ_of 2 false true) Linked) (with_row 2 (row 5 50 3 (succ_of 3 false true) Linked)
    (with_row 3 (row 6 60 0 (succ_of 1 false false) Linked) empty_catalogue))

-- HelpFlagged 1 writes the backlink over another.
abbrev backlink_written_over : Sample
backlink_written_over = record {
  state = worker0 (fresh_worker (helping HelpFlagged1 0 2)) flagged;
  call = Step 0;
  at = 2;
  verdict = (Ok tt);
  row = row 5 50 0 (succ_of 3 false true) Linked;
  worker = fresh_worker (helping HelpFlagged2 0 2);
}

-- The eighth pending help is taken; the ninth is refused.
abbrev eighth_help : Sample
eighth_help = record {
  state = worker0 (working (helping (TryMark3 3) 0 2) no_helps 7) flagged;
  call = Step 0;
  at = 2;
  verdict = (Ok tt);
  row = row 5 50 3 (succ_of 3 false true) Linked;
  worker = working (helping HelpFlagged1 2 3) (set no_helps 7 (pending 0 2)) 8;
}

abbrev ninth_help_asked : Sample
ninth_help_asked = record {
  state = worker0 (working (helping (TryMark3 3) 0 2) unused 8) flagged;
  call = Step 0;
  at = 2;
  verdict = Err NinthHelp;
  row = row 5 50 3 (succ_of 3 false true) Linked;
  worker = working (helping (TryMark3 3) 0 2) unused 8;
}

-- The last pending help runs again at TryMark's line 6, and its slot becomes zero.
abbrev help_taken_up : Sample
help_taken_up = record {
  state = worker0 (working (helping (HelpMarked2 1) 2 3) (set no_helps 0 (pending 0 2)) 1) flagged;
  call = Step 0;
  at = 2;
  verdict = (Ok tt);
  row = row 5 50 3 (succ_of 1 false false) Linked;
  worker = fresh_worker (helping TryMark6 0 2);
}

-- A submit starts with all slots zero. The element of a request other than insert is stored as 0.
abbrev submitted : ℕ → ℕ → SearchCaller → Sample
submitted code element caller = record {
  state = worker0 (working (Idle (Found 7)) unused 0) empty_catalogue;
  call = Submit 0 code 5 9;
  at = 2;
  verdict = (Ok tt);
  row = free_row;
  worker = fresh_worker (Search SearchFrom1 (record { key = 5; element = element; curr = 0; caller = caller }));
}

pub samples : List Sample
samples =
    row_not_zero ∷ store_stays ∷ prev_is_held ∷ row_given_back ∷ backlink_written_over ∷ eighth_help ∷ ninth_help_asked ∷ help_taken_up
    ∷ submitted 1 0 Search1 ∷ submitted 2 9 Insert1 ∷ submitted 3 0 Delete1 ∷ []

pub samples_right : map (λ (x : Sample). left_by x.at (computed x.state x.call)) samples
    ≡ map (λ (x : Sample). left x.verdict x.row x.worker) samples
unfolding samples left_by computed
samples_right = refl

-- ---- States that are not well formed ----

abbrev broken_row : ℕ → Row → Catalogue
broken_row i r = with_row i r empty_catalogue

abbrev broken_worker : Worker → Catalogue
broken_worker k = worker0 k empty_catalogue

pub broken : List Catalogue
broken =
    -- row numbers above 127: in a row, at each kind of line, in a slot that is not in use
    broken_row 127 (row 0 0 0 (succ_of 128 false false) Free)
    ∷ broken_row 127 (row 0 0 128 (succ_of 0 false false) Free)
    ∷ broken_worker (fresh_worker (searching SearchFrom1 128 Search1))
    ∷ broken_worker (fresh_worker (searching (SearchFrom4 128) 0 Search1))
    ∷ broken_worker (fresh_worker (searching (SearchFrom5HelpMarked2 2 128) 0 Search1))
    ∷ broken_worker (fresh_worker (searching SearchFrom1 0 (TryFlag11 128)))
    ∷ broken_worker (fresh_worker (searching SearchFrom1 0 (Insert19 128)))
    ∷ broken_worker (fresh_worker (inserting (Insert4 128) 0))
    ∷ broken_worker (fresh_worker (inserting (Insert4 1) 128))
    ∷ broken_worker (fresh_worker (flagging 128 2))
    ∷ broken_worker (fresh_worker (flagging 0 128))
    ∷ broken_worker (fresh_worker (helping TryMark6 128 2))
    ∷ broken_worker (fresh_worker (helping TryMark6 0 128))
    ∷ broken_worker (fresh_worker (helping (TryMark3 128) 0 2))
    ∷ broken_worker (working (Idle NoAnswer) (set no_helps 7 (pending 128 0)) 0)
    ∷ broken_worker (working (Idle NoAnswer) (set no_helps 7 (pending 0 128)) 0)
    -- mark and flag both set
    ∷ broken_row 127 (row 0 0 0 (succ_of 0 true true) Free)
    -- rows 0 and 1 not linked
    ∷ broken_row 0 (row 0 0 0 (succ_of 1 false false) Free)
    ∷ broken_row 1 free_row
    -- nine pending helps, and pending helps outside HelpFlagged
    ∷ broken_worker (working (helping TryMark6 0 2) no_helps 9)
    ∷ broken_worker (working (Idle NoAnswer) no_helps 1)
    ∷ broken_worker (working (searching SearchFrom1 0 Search1) no_helps 1)
    ∷ broken_worker (working (inserting (Insert4 1) 0) no_helps 1)
    ∷ broken_worker (working (flagging 0 2) no_helps 1)
    -- held by no worker, by one that is idle, by one that names another row
    ∷ broken_row 2 (row 5 50 0 (succ_of 0 false false) (Held 8))
    ∷ broken_row 2 held
    ∷ with_row 2 held (with_row 3 held (broken_worker (fresh_worker (inserting (Insert6 1 3) 0))))
    -- named past line 4, and free, or linked, or held by another
    ∷ broken_worker (fresh_worker (inserting (Insert6 1 2) 0))
    ∷ broken_worker (fresh_worker (inserting (Insert17 0) 0))
    ∷ broken_worker (fresh_worker (searching SearchFrom1 0 (Insert19 2)))
    ∷ broken_worker (fresh_worker (Help TryMark6 (record { key = 5; element = 0; prev = 0; del = 2; caller = Insert16 0 2 })))
    ∷ with_worker (with_row 2 (row 5 50 0 (succ_of 0 false false) (Held 1)) (broken_worker (fresh_worker (inserting (Insert6 1 2) 0)))) 1 (fresh_worker (inserting (Insert6 1 2) 0))
    ∷ []

pub broken_refused : map well_formed broken ≡ map (λ _. false) broken
unfolding broken all_from line_numbers held_row holder_names named_is_held row_well worker_well well_formed
broken_refused = refl
