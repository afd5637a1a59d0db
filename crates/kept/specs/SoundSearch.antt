-- SearchFrom's lines are sound, with what follows its return.
use Rattle.std.specs.Prelude.{ℕ, true, ◌≡◌, List, eqb}
use Rattle.std.proofs.Math.Bool.{false}
use Rattle.std.proofs.Math.Path.{refl}
use Rattle.model.specs.State.{row_at, succ_of}
use Rattle.model.specs.Order.{has_key}
use Rattle.model.specs.Cas.{succ_at}
use Rattle.model.specs.Effects.{go}
use Rattle.model.specs.HelpMarked.{help_marked_1, help_marked_2}
use Rattle.model.specs.SearchFrom.{search_2, reaches, search_from_returns, search_from_10, search_from_2, search_from_7, search_from_1, search_from_3_next_mark, search_from_3_curr_mark, search_from_3_curr_right, search_from_4, search_from_6, search_from_9, search_line}
use Rattle.model.specs.WellFormed.{is_row, no_row_held, held_in_search, search_caller_numbers, search_line_numbers}
use Rattle.model.proofs.Choices.{if_known}
use Rattle.model.specs.declared.Row.{Row}
use Rattle.model.specs.declared.Answer.TheVariants.{Found, Absent}
use Rattle.model.specs.declared.SearchCaller.{SearchCaller}
use Rattle.model.specs.declared.SearchCaller.TheVariants.{Search1, Insert1, Insert19, Delete1, TryFlag11}
use Rattle.model.specs.declared.SearchFrame.{SearchFrame}
use Rattle.model.specs.declared.SearchLine.{SearchLine}
use Rattle.model.specs.declared.SearchLine.TheVariants.{SearchFrom1, SearchFrom3NextMark, SearchFrom3CurrMark, SearchFrom3CurrRight, SearchFrom4, SearchFrom5HelpMarked1, SearchFrom5HelpMarked2, SearchFrom6, SearchFrom9}
use Rattle.model.specs.declared.Effect.{Effect}
use Rattle.model.specs.declared.Line.TheVariants.{Search}
use Rattle.kept.specs.LineNumbers.{SearchNumbers}
use Rattle.kept.specs.NextLine.{to_idle, to_search}
use Rattle.kept.specs.Sound.{Sound, SuccNumbers, GoodRows, cas_written, writes, reads}
use Rattle.kept.specs.SoundInsert.{insert_2_sound, insert_20_sound}
use Rattle.kept.specs.SoundDelete.{delete_2_sound, try_flag_12_sound}
use Rattle.std.proofs.lemmas.Bool.{and_parts, and_from}

module _ (rows : List Row) (good : GoodRows rows) (w count : ℕ) (none : count ≡ 0) where
  search_2_sound : (key curr : ℕ) → Sound rows w no_row_held count (search_2 rows key curr)
  unfolding search_2
  search_2_sound key curr =
      if_known (Sound rows w no_row_held count) (has_key rows curr key)
      (λ _. reads rows good w no_row_held count _ (to_idle count (Found (row_at rows curr).element)))
      (λ _. reads rows good w no_row_held count _ (to_idle count Absent))

  return_sound : (key element curr next : ℕ) (caller : SearchCaller) → is_row curr ≡ true → is_row next ≡ true
      → search_caller_numbers caller ≡ true
      → Sound rows w (held_in_search caller) count (search_from_returns rows key element curr next caller)
  unfolding search_from_returns
  return_sound key element curr next Search1 i j c = search_2_sound key curr
  return_sound key element curr next Insert1 i j c = insert_2_sound rows good w count none key element curr next i j
  return_sound key element curr next (Insert19 new) i j c = insert_20_sound rows good w count none key element curr next new c i j
  return_sound key element curr next Delete1 i j c = delete_2_sound rows good w count none key curr next i j
  return_sound key element curr next (TryFlag11 target) i j c = try_flag_12_sound rows good w count none key curr next target i c

  module _ (f : SearchFrame) (isrow : is_row f.curr ≡ true) (caller : search_caller_numbers f.caller ≡ true) where
    abbrev SearchSound : Effect → Type 0
    SearchSound e = Sound rows w (held_in_search f.caller) count e

    read_on : (l : SearchLine) → search_line_numbers l ≡ true → SearchSound (go (Search l f))
    read_on l n =
        let next = to_search count none l f (record { line = n; curr = isrow; caller = caller }) in
        reads rows good w (held_in_search f.caller) count _ next

    right_is_row : is_row (succ_at rows f.curr).right ≡ true
    right_is_row = (good.numbers f.curr).right

    search_from_10_sound : (next : ℕ) → is_row next ≡ true → SearchSound (search_from_10 rows f next)
    unfolding search_from_10
    search_from_10_sound next n = return_sound f.key f.element f.curr next f.caller isrow n caller

    search_from_2_sound : (next : ℕ) → is_row next ≡ true → SearchSound (search_from_2 rows f next)
    unfolding search_from_2
    search_from_2_sound next n =
        if_known SearchSound (reaches rows f next) (λ _. read_on (SearchFrom3NextMark next) n) (λ _. search_from_10_sound next n)

    search_from_7_sound : (next : ℕ) → is_row next ≡ true → SearchSound (search_from_7 rows f next)
    unfolding search_from_7
    search_from_7_sound next n =
        let onward = to_search count none SearchFrom9 _ (record { line = refl; curr = n; caller = caller }) in
        if_known SearchSound (reaches rows f next)
        (λ _. reads rows good w (held_in_search f.caller) count _ onward)
        (λ _. search_from_10_sound next n)

    search_from_1_sound : SearchSound (search_from_1 rows f)
    unfolding search_from_1
    search_from_1_sound = search_from_2_sound _ right_is_row

    search_from_3_next_mark_sound : (next : ℕ) → is_row next ≡ true → SearchSound (search_from_3_next_mark rows f next)
    unfolding search_from_3_next_mark
    search_from_3_next_mark_sound next n =
        if_known SearchSound (succ_at rows next).mark (λ _. read_on (SearchFrom3CurrMark next) n) (λ _. search_from_7_sound next n)

    search_from_3_curr_mark_sound : (next : ℕ) → is_row next ≡ true → SearchSound (search_from_3_curr_mark rows f next)
    unfolding search_from_3_curr_mark
    search_from_3_curr_mark_sound next n =
        if_known SearchSound (succ_at rows f.curr).mark
        (λ _. read_on (SearchFrom3CurrRight next) n)
        (λ _. read_on (SearchFrom4 next) n)

    search_from_3_curr_right_sound : (next : ℕ) → is_row next ≡ true → SearchSound (search_from_3_curr_right rows f next)
    unfolding search_from_3_curr_right
    search_from_3_curr_right_sound next n =
        if_known SearchSound (eqb (succ_at rows f.curr).right next)
        (λ _. search_from_7_sound next n)
        (λ _. read_on (SearchFrom4 next) n)

    search_from_4_sound : (next : ℕ) → is_row next ≡ true → SearchSound (search_from_4 rows f next)
    unfolding search_from_4
    search_from_4_sound next n =
        if_known SearchSound (eqb (succ_at rows f.curr).right next)
        (λ _. read_on (SearchFrom5HelpMarked1 next) n)
        (λ _. read_on SearchFrom6 refl)

    search_from_6_sound : SearchSound (search_from_6 rows f)
    unfolding search_from_6
    search_from_6_sound = read_on _ right_is_row

    search_from_9_sound : SearchSound (search_from_9 rows f)
    unfolding search_from_9
    search_from_9_sound = search_from_2_sound _ right_is_row

    line_sound : (l : SearchLine) → search_line_numbers l ≡ true → SearchSound (search_line rows f l)
    unfolding search_line help_marked_1 help_marked_2
    line_sound SearchFrom1 n = search_from_1_sound
    line_sound (SearchFrom3NextMark next) n = search_from_3_next_mark_sound next n
    line_sound (SearchFrom3CurrMark next) n = search_from_3_curr_mark_sound next n
    line_sound (SearchFrom3CurrRight next) n = search_from_3_curr_right_sound next n
    line_sound (SearchFrom4 next) n = search_from_4_sound next n
    line_sound (SearchFrom5HelpMarked1 next) n = read_on _ (and_from (is_row next) _ n (good.numbers next).right)
    line_sound (SearchFrom5HelpMarked2 next right) n =
        let unlinking : SuccNumbers (succ_of right false false) = record { right = (and_parts (is_row next) _ n).1; apart = refl } in
        writes rows good w (held_in_search f.caller) count _ _
        (cas_written rows good f.curr (succ_of next false true) _ isrow unlinking)
        (to_search count none SearchFrom6 f (record { line = refl; curr = isrow; caller = caller }))
    line_sound SearchFrom6 n = search_from_6_sound
    line_sound SearchFrom9 n = search_from_9_sound

  pub search_line_sound : (f : SearchFrame) (l : SearchLine) → SearchNumbers l f
      → Sound rows w (held_in_search f.caller) count (search_line rows f l)
  search_line_sound f l n = line_sound f n.curr n.caller l n.line
