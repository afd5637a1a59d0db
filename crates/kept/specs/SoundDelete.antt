-- Delete's lines and TryFlag's are sound: a delete holds no row.
use Rattle.std.specs.Prelude.{ℕ, Bool, ◌≡◌, List, eqb}
use Rattle.std.proofs.Math.Bool.{true, false}
use Rattle.std.proofs.Math.Path.{refl}
use Rattle.model.specs.State.{row_at, succ_of}
use Rattle.model.specs.Order.{has_key}
use Rattle.model.specs.Cas.{same_succ, succ_at}
use Rattle.model.specs.Effects.{go}
use Rattle.model.specs.Delete.{delete_2, delete_6, delete_7, try_flag_2, try_flag_4, try_flag_5, try_flag_9, try_flag_10, try_flag_12, flag_line}
use Rattle.model.specs.WellFormed.{is_row, no_row_held}
use Rattle.model.proofs.Choices.{if_known}
use Rattle.model.specs.declared.Row.{Row}
use Rattle.model.specs.declared.Succ.{Succ}
use Rattle.model.specs.declared.Answer.TheVariants.{Absent, Removed}
use Rattle.model.specs.declared.SearchCaller.TheVariants.{TryFlag11}
use Rattle.model.specs.declared.HelpCaller.TheVariants.{Delete6}
use Rattle.model.specs.declared.FlagFrame.{FlagFrame}
use Rattle.model.specs.declared.FlagLine.{FlagLine}
use Rattle.model.specs.declared.FlagLine.TheVariants.{TryFlag2, TryFlag4, TryFlag9, TryFlag10}
use Rattle.model.specs.declared.Line.{Line}
use Rattle.kept.specs.LineNumbers.{FlagNumbers}
use Rattle.kept.specs.NextLine.{NextLine, to_idle, to_flag, to_try_flag, to_help_flagged, to_search_from}
use Rattle.kept.specs.Sound.{Sound, SuccNumbers, GoodRows, cas_written, writes, reads}

pub delete_7_next : (count : ℕ) (rows : List Row) (target : ℕ) (result : Bool) → NextLine no_row_held count (delete_7 rows target result)
unfolding delete_7
delete_7_next count rows target result =
    if_known (NextLine no_row_held count) result (λ _. to_idle count (Removed (row_at rows target).element)) (λ _. to_idle count Absent)

delete_6_next : (count : ℕ) (f : FlagFrame) (result : Bool) → FlagNumbers f → NextLine no_row_held count (delete_6 f result)
delete_6_next count f result n = to_help_flagged count f.key 0 _ _ (Delete6 f.target result) n.prev n.target n.target

module _ (rows : List Row) (good : GoodRows rows) (w count : ℕ) (none : count ≡ 0) where
  read_on : (line : Line) → NextLine no_row_held count line → Sound rows w no_row_held count (go line)
  read_on line next = reads rows good w no_row_held count line next

  pub delete_2_sound : (key prev del : ℕ) → is_row prev ≡ true → is_row del ≡ true
      → Sound rows w no_row_held count (delete_2 rows key prev del)
  unfolding delete_2
  delete_2_sound key prev del p d =
      if_known (Sound rows w no_row_held count) (has_key rows del key)
      (λ _. read_on _ (to_try_flag count none key prev del p d))
      (λ _. read_on _ (to_idle count Absent))

  try_flag_2_sound : (f : FlagFrame) → FlagNumbers f → Sound rows w no_row_held count (try_flag_2 rows f)
  unfolding try_flag_2
  try_flag_2_sound f n =
      if_known (Sound rows w no_row_held count) (same_succ (succ_at rows f.prev) (succ_of f.target false true))
      (λ _. read_on _ (delete_6_next count f false n))
      (λ _. read_on _ (to_flag count none TryFlag4 f n))

  try_flag_5_next : (f : FlagFrame) (result : Succ) → FlagNumbers f → NextLine no_row_held count (try_flag_5 f result)
  unfolding try_flag_5
  try_flag_5_next f result n =
      if_known (NextLine no_row_held count) (same_succ result (succ_of f.target false false))
      (λ _. delete_6_next count f true n)
      (λ _. if_known (NextLine no_row_held count) (same_succ result (succ_of f.target false true))
      (λ _. delete_6_next count f false n)
      (λ _. to_flag count none TryFlag9 f n))

  try_flag_4_sound : (f : FlagFrame) → FlagNumbers f → Sound rows w no_row_held count (try_flag_4 rows f)
  unfolding try_flag_4
  try_flag_4_sound f n =
      let new : SuccNumbers (succ_of f.target false true) = record { right = n.target; apart = refl } in
      writes rows good w no_row_held count _ _
      (cas_written rows good f.prev (succ_of f.target false false) _ n.prev new)
      (try_flag_5_next f (succ_at rows f.prev) n)

  try_flag_9_sound : (f : FlagFrame) → FlagNumbers f → Sound rows w no_row_held count (try_flag_9 rows f)
  unfolding try_flag_9
  try_flag_9_sound f n =
      if_known (Sound rows w no_row_held count) (succ_at rows f.prev).mark
      (λ _. read_on _ (to_flag count none TryFlag10 f n))
      (λ _. read_on _ (to_search_from count none f.key 0 _ (TryFlag11 f.target) n.prev n.target))

  try_flag_10_sound : (f : FlagFrame) → FlagNumbers f → Sound rows w no_row_held count (try_flag_10 rows f)
  unfolding try_flag_10
  try_flag_10_sound f n =
      read_on _ (to_flag count none TryFlag9 _ (record { prev = (good.numbers f.prev).backlink; target = n.target }))

  pub try_flag_12_sound : (key prev del target : ℕ) → is_row prev ≡ true → is_row target ≡ true
      → Sound rows w no_row_held count (try_flag_12 key prev del target)
  unfolding try_flag_12
  try_flag_12_sound key prev del target p t =
      if_known (Sound rows w no_row_held count) (eqb del target)
      (λ _. read_on _ (to_try_flag count none key prev target p t))
      (λ _. read_on _ (to_idle count Absent))

  pub flag_line_sound : (f : FlagFrame) (l : FlagLine) → FlagNumbers f → Sound rows w no_row_held count (flag_line rows f l)
  unfolding flag_line
  flag_line_sound f TryFlag2 n = try_flag_2_sound f n
  flag_line_sound f TryFlag4 n = try_flag_4_sound f n
  flag_line_sound f TryFlag9 n = try_flag_9_sound f n
  flag_line_sound f TryFlag10 n = try_flag_10_sound f n
