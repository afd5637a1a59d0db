-- HelpFlagged's lines are sound, with those of TryMark and HelpMarked that it calls: the caller's held row stays held, and a help
-- is pushed or popped only inside HelpFlagged.
use Rattle.std.specs.Prelude.{ℕ, ◌≡◌, List, eqb}
use Rattle.std.proofs.Math.Bool.{true, false}
use Rattle.std.proofs.Math.Path.{refl}
use Rattle.std.proofs.Common.{eqb-true}
use Rattle.model.specs.State.{row_at, succ_of}
use Rattle.model.specs.Cas.{flagged_only, succ_at}
use Rattle.model.specs.Effects.{go}
use Rattle.model.specs.HelpMarked.{help_marked_1, help_marked_2}
use Rattle.model.specs.HelpFlagged.{with_backlink, help_flagged_1, help_flagged_2, try_mark_2, try_mark_3, try_mark_6, help_flagged_returns, help_flagged_4_help_marked_2, help_line}
use Rattle.model.specs.WellFormed.{is_row, held_in_help, help_caller_numbers, pending_numbers, help_line_numbers}
use Rattle.model.proofs.Choices.{if_known}
use Rattle.model.specs.declared.Row.{Row}
use Rattle.model.specs.declared.Pending.{Pending}
use Rattle.model.specs.declared.HelpCaller.{HelpCaller}
use Rattle.model.specs.declared.HelpCaller.TheVariants.{Insert8, Insert16, Delete6}
use Rattle.model.specs.declared.SearchCaller.TheVariants.{Insert19}
use Rattle.model.specs.declared.InsertLine.TheVariants.{Insert17}
use Rattle.model.specs.declared.HelpFrame.{HelpFrame}
use Rattle.model.specs.declared.HelpLine.{HelpLine}
use Rattle.model.specs.declared.HelpLine.TheVariants.{HelpFlagged1, HelpFlagged2, TryMark2, TryMark3, TryMark6, HelpMarked1, HelpMarked2}
use Rattle.model.specs.declared.Effect.{Effect}
use Rattle.model.specs.declared.Line.TheVariants.{Help}
use Rattle.model.specs.declared.Stack.TheVariants.{Push, Pop}
use Rattle.kept.specs.LineNumbers.{HelpNumbers}
use Rattle.kept.specs.NextLine.{NextLine, to_insert, to_help, to_help_flagged, to_search_from}
use Rattle.kept.specs.Sound.{Sound, SuccNumbers, GoodRows, one_row, cas_written, moves, writes, reads}
use Rattle.kept.specs.SoundDelete.{delete_7_next}
use Rattle.std.proofs.lemmas.Bool.{and_parts, and_from}

returns_next : (rows : List Row) (count : ℕ) → count ≡ 0 → (key element : ℕ) (caller : HelpCaller) → help_caller_numbers caller ≡ true
    → NextLine (held_in_help caller) count (help_flagged_returns rows key element caller)
unfolding help_flagged_returns
returns_next rows count none key element (Insert8 prev new) c =
    let parts = and_parts (is_row prev) _ c in
    to_search_from count none key element prev (Insert19 new) parts.0 parts.1
returns_next rows count none key element (Insert16 prev new) c =
    let parts = and_parts (is_row prev) _ c in
    to_insert count none (Insert17 new) _ (record { line = parts.1; prev = parts.0 })
returns_next rows count none key element (Delete6 target result) c = delete_7_next count rows target result

module _ (rows : List Row) (good : GoodRows rows) (w count : ℕ) (last : Pending) (last_numbers : pending_numbers 0 last ≡ true)
    (f : HelpFrame) (prev : is_row f.prev ≡ true) (del : is_row f.del ≡ true) (caller : help_caller_numbers f.caller ≡ true) where
  abbrev HelpSound : Effect → Type 0
  HelpSound e = Sound rows w (held_in_help f.caller) count e

  next_line : (l : HelpLine) → help_line_numbers l ≡ true → NextLine (held_in_help f.caller) count (Help l f)
  next_line l n = to_help count l f (record { line = n; prev = prev; del = del; caller = caller })

  read_on : (l : HelpLine) → help_line_numbers l ≡ true → HelpSound (go (Help l f))
  read_on l n = reads rows good w (held_in_help f.caller) count _ (next_line l n)

  help_flagged_1_sound : HelpSound (help_flagged_1 rows f)
  unfolding help_flagged_1
  help_flagged_1_sound =
      writes rows good w (held_in_help f.caller) count _ _
      (one_row rows good f.del (with_backlink (row_at rows f.del) f.prev) del (record {
        numbers = record { right = (good.numbers f.del).right; backlink = prev; apart = (good.numbers f.del).apart };
        save = record { standing = refl; key = refl; element = refl };
      }))
      (next_line HelpFlagged2 refl)

  help_flagged_2_sound : HelpSound (help_flagged_2 rows f)
  unfolding help_flagged_2
  help_flagged_2_sound = if_known HelpSound (succ_at rows f.del).mark (λ _. read_on HelpMarked1 refl) (λ _. read_on TryMark2 refl)

  try_mark_2_sound : HelpSound (try_mark_2 rows f)
  unfolding try_mark_2
  try_mark_2_sound = read_on _ (good.numbers f.del).right

  try_mark_3_sound : (right : ℕ) → is_row right ≡ true → HelpSound (try_mark_3 rows f right)
  unfolding try_mark_3
  try_mark_3_sound right n =
      let right_is_row = (good.numbers f.del).right in
      let marked : SuccNumbers (succ_of right true false) = record { right = n; apart = refl } in
      let swapped = cas_written rows good f.del (succ_of right false false) _ del marked in
      let next = to_help_flagged count f.key f.element f.del _ f.caller del right_is_row caller in
      let pushed = and_from (is_row f.prev) _ prev del in
      if_known HelpSound (flagged_only (succ_at rows f.del))
      (λ _. moves rows good w (held_in_help f.caller) count _ _ (Push _) next.numbers next.names swapped (refl, pushed))
      (λ _. writes rows good w (held_in_help f.caller) count _ _ swapped (next_line TryMark6 refl))

  try_mark_6_sound : HelpSound (try_mark_6 rows f)
  unfolding try_mark_6
  try_mark_6_sound = if_known HelpSound (succ_at rows f.del).mark (λ _. read_on HelpMarked1 refl) (λ _. read_on TryMark2 refl)

  help_flagged_4_help_marked_2_sound : (right : ℕ) → is_row right ≡ true → HelpSound (help_flagged_4_help_marked_2 rows count last f right)
  unfolding help_flagged_4_help_marked_2 help_marked_2
  help_flagged_4_help_marked_2_sound right n =
      let unlinking : SuccNumbers (succ_of right false false) = record { right = n; apart = refl } in
      let swapped = cas_written rows good f.prev (succ_of f.del false true) _ prev unlinking in
      let (last_prev, last_del) = and_parts (is_row last.prev) _ last_numbers in
      let again = to_help count TryMark6 _ (record { line = refl; prev = last_prev; del = last_del; caller = caller }) in
      if_known HelpSound (eqb count 0)
      (λ none. writes rows good w (held_in_help f.caller) count _ _ swapped
      (returns_next rows count (eqb-true count 0 none) f.key f.element f.caller caller))
      (λ _. moves rows good w (held_in_help f.caller) count _ _ Pop again.numbers again.names swapped refl)

  line_sound : (l : HelpLine) → help_line_numbers l ≡ true → HelpSound (help_line rows count last f l)
  unfolding help_line help_marked_1
  line_sound HelpFlagged1 n = help_flagged_1_sound
  line_sound HelpFlagged2 n = help_flagged_2_sound
  line_sound TryMark2 n = try_mark_2_sound
  line_sound (TryMark3 right) n = try_mark_3_sound right n
  line_sound TryMark6 n = try_mark_6_sound
  line_sound HelpMarked1 n = read_on _ (good.numbers f.del).right
  line_sound (HelpMarked2 right) n = help_flagged_4_help_marked_2_sound right n

pub help_line_sound : (rows : List Row) → GoodRows rows → (w count : ℕ) (last : Pending) → pending_numbers 0 last ≡ true
    → (f : HelpFrame) (l : HelpLine)
    → HelpNumbers l f → Sound rows w (held_in_help f.caller) count (help_line rows count last f l)
help_line_sound rows good w count last h f l n = line_sound rows good w count last h f n.prev n.del n.caller l n.line
