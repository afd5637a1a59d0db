-- In a well-formed state the effect of every busy worker's line is sound.
use Rattle.std.specs.Prelude.{ℕ, ◌-◌, ◌≤◌, ◌<◌, true, false, ◌≡◌, refl, List, length}
use Rattle.std.proofs.Math.Decide.{dec_lt}
use Rattle.std.proofs.Common.{arith}
use Rattle.std.proofs.Math.ListN.{get_or-eq_default}
use Rattle.model.specs.State.{row_at, help_at, no_help, free_row, idle}
use Rattle.model.specs.Step.{line_effect, effect_of}
use Rattle.model.specs.WellFormed.{line_numbers, pending_numbers, inside_help_flagged, held_row}
use Rattle.model.specs.declared.Row.{Row}
use Rattle.model.specs.declared.Pending.{Pending}
use Rattle.model.specs.declared.Worker.{Worker}
use Rattle.model.specs.declared.Catalogue.{Catalogue}
use Rattle.model.specs.declared.Line.{Line}
use Rattle.model.specs.declared.Line.TheVariants.{Idle, Search, Insert, Flag, Help}
use Rattle.kept.specs.Ways.{worker_in, effect_in, line_of}
use Rattle.kept.specs.Sized.{Sized, EightHelps}
use Rattle.kept.specs.WellFormedFacts.{RowNumbers, free_row_numbers, HelpsWell, WellFormed}
use Rattle.kept.specs.LineNumbers.{search_numbers, insert_numbers, flag_numbers, help_numbers}
use Rattle.kept.specs.Sound.{Sound, GoodRows}
use Rattle.kept.specs.SoundInsert.{insert_line_sound}
use Rattle.kept.specs.SoundDelete.{flag_line_sound}
use Rattle.kept.specs.SoundSearch.{search_line_sound}
use Rattle.kept.specs.SoundHelp.{help_line_sound}
use Rattle.kept.specs.Conditions.{clash, every}

pub good_rows : (c : Catalogue) → Sized c → WellFormed c → GoodRows c.rows
good_rows c sized well = record { size = sized.rows; numbers = λ i. go i (dec_lt i 128) }
  where
    go : (i : ℕ) → Dec (i < 128) → RowNumbers (row_at c.rows i)
    go i (yes l) = (well.rows i l).numbers
    go i (no n) =
        let past : length c.rows ≤ i = rw sized.rows (omega arith) in
        rw (get_or-eq_default c.rows free_row past) free_row_numbers

line_effect_sound : (rows : List Row) → GoodRows rows → (w count : ℕ) (last : Pending) → pending_numbers 0 last ≡ true
    → (line : Line) → idle line ≡ false → line_numbers line ≡ true → (inside_help_flagged line ≡ false → count ≡ 0)
    → Sound rows w (held_row line) count (line_effect rows w count last line)
unfolding line_effect held_row
line_effect_sound rows good w count last h (Idle a) busy n none = absurd (clash refl busy)
line_effect_sound rows good w count last h (Search l f) busy n none =
    search_line_sound rows good w count (none refl) f l (search_numbers l f n)
line_effect_sound rows good w count last h (Insert l f) busy n none =
    insert_line_sound rows good w count (none refl) f l (insert_numbers l f n)
line_effect_sound rows good w count last h (Flag l f) busy n none =
    flag_line_sound rows good w count (none refl) f l (flag_numbers l f n)
line_effect_sound rows good w count last h (Help l f) busy n none = help_line_sound rows good w count last h f l (help_numbers l f n)

last_help : (k : Worker) → EightHelps k → HelpsWell k → pending_numbers 0 (help_at k.helps (k.count - 1)) ≡ true
last_help k eight h = every pending_numbers k.helps no_help h.slots (k.count - 1) (omega (arith, h.few))

pub effect_sound : (c : Catalogue) (w : ℕ) → Sized c → WellFormed c → w < 8 → idle (line_of c w) ≡ false
    → Sound c.rows w (held_row (line_of c w)) (worker_in c w).count (effect_in c w)
unfolding effect_of
effect_sound c w sized well inside busy =
    let k = worker_in c w in
    let mine = well.workers w inside in
    let last = last_help k (sized.helps w) mine.helps in
    line_effect_sound c.rows (good_rows c sized well) w k.count _ last k.line busy mine.numbers mine.helps.inside
