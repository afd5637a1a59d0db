-- Insert's lines are sound: line 4 takes a free row, a success links the held row, a duplicate gives it back.
use Rattle.std.specs.Prelude.{ℕ, true, ◌&&◌, ◌≡◌, ◌≢◌, List, set, ltb}
use Rattle.std.proofs.Math.Bool.{false}
use Rattle.std.proofs.Math.Path.{refl}
use Rattle.std.proofs.Common.{sym, lt-length-set}
use Rattle.model.specs.State.{row_at, free_row, succ_of}
use Rattle.model.specs.Order.{has_key}
use Rattle.model.specs.Cas.{same_succ, flagged_only, succ_at, with_succ}
use Rattle.model.specs.Effects.{go, go_writing}
use Rattle.model.specs.Insert.{insert_frame, insert_2, insert_20, lowest_free, insert_4, insert_6, insert_15, linked_row, insert_10_11, insert_17, insert_18, insert_line}
use Rattle.model.specs.Step.{written}
use Rattle.model.specs.WellFormed.{is_row, held_row, held_in_insert, no_row_held, line_numbers}
use Rattle.model.proofs.Choices.{if_known}
use Rattle.model.specs.declared.Row.{Row}
use Rattle.model.specs.declared.Succ.{Succ}
use Rattle.model.specs.declared.Standing.TheVariants.{Free, Held}
use Rattle.model.specs.declared.Answer.{Answer}
use Rattle.model.specs.declared.Answer.TheVariants.{Added, Duplicate, Full}
use Rattle.model.specs.declared.Line.TheVariants.{Idle, Insert}
use Rattle.model.specs.declared.SearchCaller.TheVariants.{Insert19}
use Rattle.model.specs.declared.HelpCaller.TheVariants.{Insert8, Insert16}
use Rattle.model.specs.declared.InsertFrame.{InsertFrame}
use Rattle.model.specs.declared.InsertLine.{InsertLine}
use Rattle.model.specs.declared.InsertLine.TheVariants.{Insert4, Insert6, Insert11, Insert17, Insert18}
use Rattle.model.specs.declared.Write.{Write}
use Rattle.model.specs.declared.Write.TheVariants.{TwoRows}
use Rattle.kept.specs.WellFormedFacts.{RowNumbers, free_row_numbers}
use Rattle.kept.specs.Sound.{Standings, kept, taken, given_up, RowStep, Sound, SuccNumbers, GoodRows, with_succ_lem, is_inside, succ_written, writes, reads}
use Rattle.kept.specs.NextLine.{NextLine, to_idle, to_insert, to_help_flagged, to_search_from}
use Rattle.kept.specs.LineNumbers.{InsertNumbers}
use Rattle.kept.specs.Conditions.{clash}
use Rattle.std.proofs.lemmas.Bool.{and_parts, and_from}
use Rattle.kept.specs.Stores.{after_store}
use Rattle.kept.specs.Standing.{held_not_linked, free_not_held}
use Rattle.kept.specs.FreeRows.{lowest_is_free}

-- ---- Rows taken and given up ----

-- a row that is no longer held, or never was: free or linked
abbrev NotHeld : Row → Type 0
NotHeld r = (v : ℕ) → r.standing ≢ Held v

step_with_succ : {w named named' i : ℕ} {old : Row} (r : Row) (s : Succ) → SuccNumbers s → RowStep w named named' i old r
    → RowStep w named named' i old (with_succ r s)
step_with_succ {w} {named} {named'} {i} {old} r s m t =
    record { numbers = (with_succ_lem r s t.numbers m).numbers; standings = go t.standings }
  where
    go : Standings w named named' i old r → Standings w named named' i old (with_succ r s)
    go (kept same there back) = kept (record { standing = same.standing; key = same.key; element = same.element }) there back
    go (taken free held names) = taken free held names
    go (given_up names after gone) = given_up names after gone

module _ (rows : List Row) (good : GoodRows rows) (w count : ℕ) where
  kept_there : {named named' : ℕ} (i : ℕ) → named ≢ i → named' ≢ i → RowStep w named named' i (row_at rows i) (row_at rows i)
  kept_there i before after = record {
    numbers = good.numbers i;
    standings = kept (record { standing = refl; key = refl; element = refl }) (λ e. absurd (before e)) (λ e. absurd (after e));
  }

  -- a free row is stored as a row that w holds, and w's next line names it
  takes : (new : ℕ) (r : Row) → is_row new ≡ true → RowNumbers r → (row_at rows new).standing ≡ Free → r.standing ≡ Held w
      → (i : ℕ) → i ≢ no_row_held → RowStep w no_row_held new i (row_at rows i) (row_at (set rows new r) i)
  takes new r isrow numbers free held i in_range =
      after_store rows new r free_row (is_inside rows good new isrow) (RowStep w no_row_held new i (row_at rows i)) i
      (λ e. record { numbers = numbers; standings = taken (rw e free) held (sym e) })
      (λ n. kept_there i (λ q. in_range (sym q)) (λ q. n (sym q)))

  -- the held row is stored as a row that nobody holds, and the request is finished
  gives_up : (new : ℕ) (r : Row) → is_row new ≡ true → RowNumbers r → NotHeld r
      → (i : ℕ) → i ≢ no_row_held → RowStep w new no_row_held i (row_at rows i) (row_at (set rows new r) i)
  gives_up new r isrow numbers gone i in_range =
      after_store rows new r free_row (is_inside rows good new isrow) (RowStep w new no_row_held i (row_at rows i)) i
      (λ e. record { numbers = numbers; standings = given_up (sym e) (λ q. in_range (sym q)) gone })
      (λ n. kept_there i (λ q. n (sym q)) (λ q. in_range (sym q)))

  finishes : (new : ℕ) (write : Write) (a : Answer)
      → ((i : ℕ) → i ≢ no_row_held → RowStep w new no_row_held i (row_at rows i) (row_at (written rows write) i))
      → Sound rows w new count (go_writing write (Idle a))
  unfolding line_numbers held_row
  finishes new write a steps = record { numbers = refl; steps = steps; stack = λ busy _. absurd (clash refl busy) }

  module _ (none : count ≡ 0) where
    read_on : (l : InsertLine) (f : InsertFrame) → InsertNumbers l f → Sound rows w (held_in_insert l) count (go (Insert l f))
    read_on l f n = reads rows good w (held_in_insert l) count (Insert l f) (to_insert count none l f n)

    pub insert_2_sound : (key element prev next : ℕ) → is_row prev ≡ true → is_row next ≡ true
        → Sound rows w no_row_held count (insert_2 rows key element prev next)
    unfolding insert_2
    insert_2_sound key element prev next p n =
        if_known (Sound rows w no_row_held count) (has_key rows prev key)
        (λ _. reads rows good w no_row_held count _ (to_idle count Duplicate))
        (λ _. read_on (Insert4 next) (insert_frame key element prev) (record { line = n; prev = p }))

    pub insert_20_sound : (key element prev next new : ℕ) → is_row new ≡ true → is_row prev ≡ true → is_row next ≡ true
        → Sound rows w new count (insert_20 rows key element prev next new)
    unfolding insert_20 written
    insert_20_sound key element prev next new isrow p n =
        if_known (Sound rows w new count) (has_key rows prev key)
        (λ _. finishes new _ Duplicate (gives_up new free_row isrow free_row_numbers (λ v held. free_not_held refl held)))
        (λ _. read_on (Insert6 next new) (insert_frame key element prev) (record { line = and_from (is_row next) _ n isrow; prev = p }))

    insert_4_sound : (f : InsertFrame) (next : ℕ) → InsertNumbers (Insert4 next) f
        → Sound rows w no_row_held count (insert_4 rows w f next)
    unfolding insert_4 line_numbers held_row written
    insert_4_sound f next n =
        let new = lowest_free rows in
        if_known (Sound rows w no_row_held count) (ltb new 128)
        (λ isrow. record {
          numbers = and_from (is_row next && is_row new) _ (and_from (is_row next) _ n.line isrow) n.prev;
          steps = takes new _ isrow (record { right = refl; backlink = refl; apart = refl }) (lowest_is_free rows isrow) refl;
          stack = λ _ _. none;
        })
        (λ _. reads rows good w no_row_held count _ (to_idle count Full))

    insert_6_sound : (f : InsertFrame) (next new : ℕ) → InsertNumbers (Insert6 next new) f
        → Sound rows w new count (insert_6 rows f next new)
    unfolding insert_6
    insert_6_sound f next new n =
        let caller = and_from (is_row f.prev) _ n.prev (and_parts (is_row next) _ n.line).1 in
        let right_is_row = (good.numbers f.prev).right in
        let helping = to_help_flagged count f.key f.element _ _ (Insert8 f.prev new) n.prev right_is_row caller in
        if_known (Sound rows w new count) (succ_at rows f.prev).flag
        (λ _. reads rows good w new count _ helping)
        (λ _. read_on (Insert11 next new) f (record { line = n.line; prev = n.prev }))

    insert_15_next : (f : InsertFrame) (new : ℕ) (result : Succ) → is_row new ≡ true → is_row f.prev ≡ true
        → is_row result.right ≡ true
        → NextLine new count (insert_15 f new result)
    unfolding insert_15
    insert_15_next f new result isnew p r =
        if_known (NextLine new count) (flagged_only result)
        (λ _. to_help_flagged count f.key f.element _ _ (Insert16 f.prev new) p r (and_from (is_row f.prev) _ p isnew))
        (λ _. to_insert count none (Insert17 new) f (record { line = isnew; prev = p }))

    -- On success the held row is linked first, and then prev points to it: prev may be the held row itself.
    links : (next new prev : ℕ) → is_row next ≡ true → is_row new ≡ true → is_row prev ≡ true
        → let linked = linked_row (with_succ (row_at rows new) (succ_of next false false)) in
        let after = with_succ (row_at (set rows new linked) prev) (succ_of new false false) in
        (i : ℕ) → i ≢ no_row_held → RowStep w new no_row_held i (row_at rows i) (row_at (set (set rows new linked) prev after) i)
    links next new prev isnext isnew isprev i in_range =
        let linked = linked_row (with_succ (row_at rows new) (succ_of next false false)) in
        let after = with_succ (row_at (set rows new linked) prev) (succ_of new false false) in
        let numbers : RowNumbers linked = record { right = isnext; backlink = (good.numbers new).backlink; apart = refl } in
        let link = gives_up new linked isnew numbers (λ v held. held_not_linked held refl) i in_range in
        let inside = lt-length-set rows new linked (is_inside rows good prev isprev) in
        let pointing : SuccNumbers (succ_of new false false) = record { right = isnew; apart = refl } in
        after_store (set rows new linked) prev after free_row inside (RowStep w new no_row_held i (row_at rows i)) i
        (λ e. rw (← e) (step_with_succ (row_at (set rows new linked) i) _ pointing link))
        (λ _. link)

    insert_10_11_sound : (f : InsertFrame) (next new : ℕ) → InsertNumbers (Insert11 next new) f
        → Sound rows w new count (insert_10_11 rows f next new)
    unfolding insert_10_11 written
    insert_10_11_sound f next new n =
        let (isnext, isnew) = and_parts (is_row next) _ n.line in
        let store = succ_of next false false in
        let result = succ_at (set rows new (with_succ (row_at rows new) store)) f.prev in
        let stored = succ_written rows good new store isnew (record { right = isnext; apart = refl }) in
        if_known (Sound rows w new count) (same_succ result store)
        (λ _. finishes new (TwoRows new _ f.prev _) Added (links next new f.prev isnext isnew n.prev))
        (λ _. writes rows good w new count _ _ stored (insert_15_next f new result isnew n.prev (stored f.prev).numbers.right))

    insert_17_sound : (f : InsertFrame) (new : ℕ) → InsertNumbers (Insert17 new) f → Sound rows w new count (insert_17 rows f new)
    unfolding insert_17
    insert_17_sound f new n =
        if_known (Sound rows w new count) (succ_at rows f.prev).mark
        (λ _. read_on (Insert18 new) f (record { line = n.line; prev = n.prev }))
        (λ _. reads rows good w new count _ (to_search_from count none f.key f.element _ (Insert19 new) n.prev n.line))

    insert_18_sound : (f : InsertFrame) (new : ℕ) → InsertNumbers (Insert18 new) f → Sound rows w new count (insert_18 rows f new)
    unfolding insert_18
    insert_18_sound f new n = read_on (Insert17 new) _ (record { line = n.line; prev = (good.numbers f.prev).backlink })

    pub insert_line_sound : (f : InsertFrame) (l : InsertLine) → InsertNumbers l f
        → Sound rows w (held_in_insert l) count (insert_line rows w f l)
    unfolding insert_line
    insert_line_sound f (Insert4 next) n = insert_4_sound f next n
    insert_line_sound f (Insert6 next new) n = insert_6_sound f next new n
    insert_line_sound f (Insert11 next new) n = insert_10_11_sound f next new n
    insert_line_sound f (Insert17 new) n = insert_17_sound f new n
    insert_line_sound f (Insert18 new) n = insert_18_sound f new n
