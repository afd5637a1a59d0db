-- What holds of an idle worker's line: it is the case `Idle`, names no row, and lies outside HelpFlagged.
use Rattle.std.specs.Prelude.{true, false, ◌≡◌, refl}
use Rattle.model.specs.State.{idle}
use Rattle.model.specs.WellFormed.{held_row, no_row_held, inside_help_flagged}
use Rattle.model.specs.declared.Answer.{Answer}
use Rattle.model.specs.declared.Line.{Line}
use Rattle.model.specs.declared.Line.TheVariants.{Idle, Search, Insert, Flag, Help}
use Rattle.kept.specs.Conditions.{clash}

pub if_idle : (P : Line → Type 0) → ((a : Answer) → P (Idle a)) → (l : Line) → idle l ≡ true → P l
if_idle P at_rest (Idle a) h = at_rest a
if_idle P at_rest (Search l f) h = absurd (clash h refl)
if_idle P at_rest (Insert l f) h = absurd (clash h refl)
if_idle P at_rest (Flag l f) h = absurd (clash h refl)
if_idle P at_rest (Help l f) h = absurd (clash h refl)

pub idle_names_none : (l : Line) → idle l ≡ true → held_row l ≡ no_row_held
unfolding held_row
idle_names_none = if_idle (λ l. held_row l ≡ no_row_held) (λ a. refl)

pub idle_outside : (l : Line) → idle l ≡ true → inside_help_flagged l ≡ false
idle_outside = if_idle (λ l. inside_help_flagged l ≡ false) (λ a. refl)
