-- A run on its way: what was written so far, and that what is left to print makes it whole.
use Rattle.std.specs.Prelude.{◌≡◌, ℕ, zero, suc, ◌<◌, None, Ok, Err, List, [], ◌++◌, length, refl}
use Rattle.std.proofs.Common.{sym, ap, ◌∙◌, subst, append_assoc, arith}
use Rattle.std.specs.declared.option.Option.{Option}
use Rattle.std.specs.Io.KnownBytes.{Appends}
use Rattle.std.proofs.KnownBytes.{Appends-nil, Appends-trans}
use Rattle.model.specs.Schedule.{body, calls_of, file_verdict}
use Rattle.model.specs.Printed.{heading, last_line, refused_file, file_text, printed}
use Rattle.model.specs.declared.Refusal.{Refusal}
use Rattle.schedule.specs.declared.text.Text.{Text}
use Rattle.schedule.specs.declared.run.Run.{Run}
use Rattle.schedule.specs.declared.run.Event.{Event}
use Rattle.schedule.specs.Shown.{shown, Shows}
use Rattle.schedule.specs.Events.{start_run, Happens, Advances}
use Rattle.schedule.proofs.Whole.{left_to_print, Lasts, event_prints, still_enough, last_prints, start_lasts, refused_prints}
use Rattle.printer.specs.Written.{AppendsFront, all_lines}
use Rattle.printer.proofs.Fronts.{behind, longer}

-- The bytes `lines` were written, and with what is left to print from r on they are all lines.
pub record OnTheWay (file : List ℕ) (r : Run) (old new : Option (List ℕ)) : Type 0 where
  pub tries : ℕ
  pub lasts : Lasts file r tries
  pub lines : List ℕ
  pub whole : lines ++ left_to_print file r tries ≡ all_lines file
  pub written : Appends old new lines

pub at_start : (file : List ℕ) (a : Option (List ℕ)) → file_verdict file ≡ Ok tt → OnTheWay file start_run a a
unfolding calls_of
at_start file a accepted = record {
  tries = length (body file);
  lasts = start_lasts file accepted;
  lines = [];
  whole = refl;
  written = Appends-nil a;
}

module _ {file : List ℕ} {r : Run} {a b : Option (List ℕ)} (before : OnTheWay file r a b) where
  -- What follows where a record is left: its event's text, and what is left to print after it.
  module _ {e : Event} (inside : r.at < length file) (happens : Happens file r e) where
    record Follows : Type 0 where
      pub tries : ℕ
      pub lasts : Lasts file e.run tries
      pub whole : before.lines ++ (shown e.text ++ left_to_print file e.run tries) ≡ all_lines file

    follows : Follows
    follows = go before.tries before.lasts before.whole
      where
        go : (tries : ℕ) → Lasts file r tries → before.lines ++ left_to_print file r tries ≡ all_lines file → Follows
        go zero lasts whole = absurd (omega (arith, lasts.enough))
        go (suc tries) lasts whole = record {
          tries = tries;
          lasts = still_enough inside happens tries lasts;
          whole = ap (λ (l : List ℕ). before.lines ++ l) (sym (event_prints inside happens tries lasts.fits)) ∙ whole;
        }

    -- one event more
    pub one_more : (c : Option (List ℕ)) → Appends b c (shown e.text) → OnTheWay file e.run a c
    one_more c line = record {
      tries = follows.tries;
      lasts = follows.lasts;
      lines = before.lines ++ shown e.text;
      whole = append_assoc before.lines (shown e.text) (left_to_print file e.run follows.tries) ∙ follows.whole;
      written = Appends-trans a b c _ _ before.written line;
    }

    -- a write of its text that stopped
    pub stopped_there : (c : Option (List ℕ)) → AppendsFront b c (shown e.text) → AppendsFront a c (all_lines file)
    stopped_there c part =
        subst (AppendsFront a c) follows.whole (behind a b c before.lines _ before.written (longer b c (shown e.text) _ part))

  -- And the last line, where no record is left.
  module _ {end : Run} {last : Text} (over : Advances file r None end) (shows : Shows (last_line end.state) last) where
    whole_then : before.lines ++ shown last ≡ all_lines file
    whole_then =
        ap (λ (l : List ℕ). before.lines ++ l)
        (shows ∙ ap (λ (stopped : Run). last_line stopped.state) over.1 ∙ sym (last_prints file r over.0 before.tries))
        ∙ before.whole

    pub at_end : (c : Option (List ℕ)) → Appends b c (shown last) → Appends a c (all_lines file)
    at_end c line = subst (Appends a c) whole_then (Appends-trans a b c _ _ before.written line)

    pub stopped_at_end : (c : Option (List ℕ)) → AppendsFront b c (shown last) → AppendsFront a c (all_lines file)
    stopped_at_end c part = subst (AppendsFront a c) whole_then (behind a b c before.lines _ before.written part)

-- ---- The whole file ----

module _ (file : List ℕ) where
  accepted_whole : {first : Text} → (Ok tt) ≡ file_verdict file → Shows heading first → shown first ++ all_lines file ≡ printed file
  unfolding printed file_text
  accepted_whole accepted shows = rw (← accepted, shows)

  -- with the heading before them, these are the bytes of an accepted file
  pub all_told : (first : Text) (a b c : Option (List ℕ)) → (Ok tt) ≡ file_verdict file → Shows heading first
      → Appends a b (shown first) → Appends b c (all_lines file) → Appends a c (printed file)
  all_told first a b c accepted shows head told = subst (Appends a c) (accepted_whole accepted shows) (Appends-trans a b c _ _ head told)

  pub stopped_in_heading : (first : Text) (a b : Option (List ℕ)) → (Ok tt) ≡ file_verdict file → Shows heading first
      → AppendsFront a b (shown first) → AppendsFront a b (printed file)
  stopped_in_heading first a b accepted shows part = subst (AppendsFront a b) (accepted_whole accepted shows) (longer a b (shown first) _ part)

  pub stopped_in_lines : (first : Text) (a b c : Option (List ℕ)) → (Ok tt) ≡ file_verdict file → Shows heading first
      → Appends a b (shown first) → AppendsFront b c (all_lines file) → AppendsFront a c (printed file)
  stopped_in_lines first a b c accepted shows head part =
      subst (AppendsFront a c) (accepted_whole accepted shows) (behind a b c (shown first) _ head part)

  -- one line is the bytes of a refused file
  module _ (r : Refusal) (only : Text) (a b : Option (List ℕ)) (refused : Err r ≡ file_verdict file) (shows : Shows (refused_file r) only) where
    pub refused_told : Appends a b (shown only) → Appends a b (printed file)
    refused_told told = subst (Appends a b) (refused_prints file (sym refused) shows) told

    pub stopped_in_refusal : AppendsFront a b (shown only) → AppendsFront a b (printed file)
    stopped_in_refusal part = subst (AppendsFront a b) (refused_prints file (sym refused) shows) part
