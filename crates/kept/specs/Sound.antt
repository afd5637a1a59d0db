-- What is asked of an effect, so that it leaves a well-formed state: good row numbers, and rows that are taken, given back or linked
-- only as the worker's next line says.
use Rattle.std.specs.Prelude.{ℕ, ◌<◌, true, false, ◌≡◌, ◌≢◌, List, length}
use Rattle.std.proofs.Math.Path.{refl}
use Rattle.std.proofs.Common.{sym, ◌∙◌, ltb-true}
use Rattle.model.specs.State.{row_at, free_row, idle}
use Rattle.model.specs.Cas.{cas, same_succ, succ_at, with_succ}
use Rattle.model.specs.Effects.{go, go_writing}
use Rattle.model.specs.Step.{written}
use Rattle.model.specs.WellFormed.{is_row, not_both, held_row, no_row_held, line_numbers, pending_numbers, inside_help_flagged}
use Rattle.model.proofs.Choices.{if_known}
use Rattle.model.specs.declared.Row.{Row}
use Rattle.model.specs.declared.Succ.{Succ}
use Rattle.model.specs.declared.Standing.TheVariants.{Free, Held}
use Rattle.model.specs.declared.Line.{Line}
use Rattle.model.specs.declared.Effect.{Effect}
use Rattle.model.specs.declared.Write.{Write}
use Rattle.model.specs.declared.Write.TheVariants.{NoRow, OneRow}
use Rattle.model.specs.declared.Stack.{Stack}
use Rattle.model.specs.declared.Stack.TheVariants.{Keep, Push, Pop}
use Rattle.kept.specs.WellFormedFacts.{RowNumbers}
use Rattle.kept.specs.NextLine.{NextLine}
use Rattle.kept.specs.Stores.{after_store}

-- the same save, with the same standing
pub record SameSave (old new : Row) : Type 0 where
  pub standing : new.standing ≡ old.standing
  pub key : new.key ≡ old.key
  pub element : new.element ≡ old.element

-- What a step of worker w may do to the standing of row i, where its line names the row `named` before and `named'` after.
pub data Standings (w named named' i : ℕ) (old new : Row) : Type 0 where
  kept : SameSave old new → (named ≡ i → named' ≡ i) → (named' ≡ i → named ≡ i) → Standings w named named' i old new
  taken : old.standing ≡ Free → new.standing ≡ Held w → named' ≡ i → Standings w named named' i old new
  given_up : named ≡ i → named' ≢ i → ((v : ℕ) → new.standing ≢ Held v) → Standings w named named' i old new

pub record RowStep (w named named' i : ℕ) (old new : Row) : Type 0 where
  pub numbers : RowNumbers new
  pub standings : Standings w named named' i old new

-- what becomes of `count` pending helps fits the next line
abbrev pub StackFits : ℕ → Line → Stack → Type 0
StackFits count line Keep = idle line ≡ false → inside_help_flagged line ≡ false → count ≡ 0
StackFits count line (Push h) = (inside_help_flagged line ≡ true) × (pending_numbers 0 h ≡ true)
StackFits count line Pop = inside_help_flagged line ≡ true

-- The next line's numbers are rows, and each row takes an allowed step. (`no_row_held` is the number of no row.)
pub record Sound (rows : List Row) (w named count : ℕ) (e : Effect) : Type 0 where
  pub numbers : line_numbers e.line ≡ true
  pub steps : (i : ℕ) → i ≢ no_row_held → RowStep w named (held_row e.line) i (row_at rows i) (row_at (written rows e.write) i)
  pub stack : StackFits count e.line e.stack

-- a row that is the same save, with good numbers
pub record KeptRow (old new : Row) : Type 0 where
  pub numbers : RowNumbers new
  pub save : SameSave old new

-- a write that keeps every save
abbrev pub KeepsSaves : List Row → Write → Type 0
KeepsSaves rows write = (i : ℕ) → KeptRow (row_at rows i) (row_at (written rows write) i)

-- a successor's numbers
pub record SuccNumbers (s : Succ) : Type 0 where
  pub right : is_row s.right ≡ true
  pub apart : not_both s ≡ true

pub with_succ_lem : (r : Row) (s : Succ) → RowNumbers r → SuccNumbers s → KeptRow r (with_succ r s)
with_succ_lem r s n m = record {
  numbers = record { right = m.right; backlink = n.backlink; apart = m.apart };
  save = record { standing = refl; key = refl; element = refl };
}

-- rows that a line may read: all of them, with good numbers
pub record GoodRows (rows : List Row) : Type 0 where
  pub size : length rows ≡ 128
  pub numbers : (i : ℕ) → RowNumbers (row_at rows i)

module _ (rows : List Row) (good : GoodRows rows) where
  pub is_inside : (i : ℕ) → is_row i ≡ true → i < length rows
  is_inside i h = rw good.size (ltb-true i 128 h)

  pub no_row : KeepsSaves rows NoRow
  unfolding written
  no_row i = record { numbers = good.numbers i; save = record { standing = refl; key = refl; element = refl } }

  pub one_row : (j : ℕ) (r : Row) → is_row j ≡ true → KeptRow (row_at rows j) r → KeepsSaves rows (OneRow j r)
  unfolding written
  one_row j r isrow new i =
      after_store rows j r free_row (is_inside j isrow) (KeptRow (row_at rows i)) i (λ e. rw e new) (λ n. no_row i)

  pub succ_written : (j : ℕ) (s : Succ) → is_row j ≡ true → SuccNumbers s → KeepsSaves rows (OneRow j (with_succ (row_at rows j) s))
  succ_written j s isrow m = one_row j _ isrow (with_succ_lem (row_at rows j) s (good.numbers j) m)

  pub cas_written : (j : ℕ) (old new : Succ) → is_row j ≡ true → SuccNumbers new → KeepsSaves rows (cas rows j old new)
  unfolding cas
  cas_written j old new isrow m =
      if_known (KeepsSaves rows) (same_succ (succ_at rows j) old) (λ _. succ_written j new isrow m) (λ _. no_row)

  module _ (w named count : ℕ) where
    -- a line that takes, gives up and links no row
    pub moves : (line : Line) (write : Write) (stack : Stack) → line_numbers line ≡ true → held_row line ≡ named → KeepsSaves rows write
        → StackFits count line stack → Sound rows w named count (record { line = line; write = write; stack = stack })
    moves line write stack numbers same keeps fits = record {
      numbers = numbers;
      steps = λ i _. record {
        numbers = (keeps i).numbers;
        standings = kept (keeps i).save (λ e. same ∙ e) (λ e. sym same ∙ e);
      };
      stack = fits;
    }

    pub writes : (write : Write) (line : Line) → KeepsSaves rows write → NextLine named count line
        → Sound rows w named count (go_writing write line)
    writes write line keeps next = moves line write Keep next.numbers next.names keeps next.helps

    pub reads : (line : Line) → NextLine named count line → Sound rows w named count (go line)
    reads line next = writes NoRow line no_row next
