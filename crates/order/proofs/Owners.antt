-- Flags have owners: each set flag is that of one unfinished delete, whose outermost help it is, and no two deletes own one row.
use Rattle.std.specs.Prelude.{ℕ, true, false, ◌≡◌, refl, ◌≢◌, List, [], ◌∷◌, eqb}
use Rattle.std.proofs.Common.{ap, sym, ◌∙◌, subst}
use Rattle.std.proofs.Math.Decide.{ℕ_discrete}
use Rattle.order.proofs.Table.{Table, right_of, flag_of, table_of}
use Rattle.order.proofs.Structure.{Structure, Helpable, flagged_for, already_marked}
use Rattle.order.proofs.StructureFacts.{above_not_head, flagged_right_above, predecessor_unique, flagged_not_tail}
use Rattle.order.proofs.Moves.{Move, nothing, links, marks, unlinks, flags, backlinks, private, FlagMove}
use Rattle.order.proofs.EmptyTable.{empty_unflagged}
use Rattle.order.proofs.Stack.{stack_in}
use Rattle.order.proofs.Facts.{AllHold, pending_facts, facts}
use Rattle.order.proofs.LineKnows.{running_help}
use Rattle.order.proofs.Lawful.{Removal, goes_on, claims, ends, no_row_removed, removed_in_help, removed_row, idle_removes_none}
use Rattle.order.proofs.Events.{Event, refused, submitted, stepped, Submitted, StepTaken, each_worker, next_line, other_line}
use Rattle.order.proofs.Sound.{Sound, all_fresh}
use Rattle.order.proofs.SoundKept.{step_lawful}
use Rattle.kept.specs.Conditions.{clash}
use Rattle.kept.specs.Ways.{effect_in, line_of}
use Rattle.model.specs.State.{row_at, empty_catalogue}
use Rattle.model.proofs.Choices.{if_both}
use Rattle.model.specs.Step.{first_line}
use Rattle.model.specs.declared.Row.{Row}
use Rattle.model.specs.declared.Worker.{Worker}
use Rattle.model.specs.declared.Catalogue.{Catalogue}
use Rattle.model.specs.declared.Pending.{Pending}
use Rattle.model.specs.declared.HelpCaller.{HelpCaller}
use Rattle.model.specs.declared.HelpCaller.TheVariants.{Insert8, Insert16, Delete6}
use Rattle.model.specs.declared.Line.{Line}
use Rattle.model.specs.declared.Line.TheVariants.{Idle, Search, Insert, Flag, Help}
use Rattle.model.specs.declared.Stepped.{Stepped}
use Rattle.model.specs.declared.Call.{Call}

-- the row that worker w removes
abbrev pub removed_by : Catalogue → ℕ → ℕ
removed_by c w = removed_row (line_of c w)

pub record Owner (c : Catalogue) (row : ℕ) : Type 0 where
  pub worker : ℕ
  pub removes : removed_by c worker ≡ row

pub record Owned (c : Catalogue) : Type 0 where
  pub owner : (p : ℕ) → flag_of (table_of c) p ≡ true → Owner c (right_of (table_of c) p)
  pub only : (u v row : ℕ) → row ≢ no_row_removed → removed_by c u ≡ row → removed_by c v ≡ row → u ≡ v

-- ---- An owner's outermost help ----

-- the prev of the help under all pending ones
abbrev pub outermost_prev : List Pending → ℕ → ℕ
outermost_prev [] prev = prev
outermost_prev (h ∷ hs) prev = outermost_prev hs h.prev

abbrev pub helped_from : Line → List Pending → ℕ
helped_from (Idle a) hs = 0
helped_from (Search l f) hs = 0
helped_from (Insert l f) hs = 0
helped_from (Flag l f) hs = 0
helped_from (Help l f) hs = outermost_prev hs f.prev

module _ (top w : ℕ) (R : Table) where
  outermost_help : (key element target : ℕ) (hs : List Pending) (prev del : ℕ) → Helpable R prev del
      → AllHold top w R (pending_facts key element (Delete6 target true) hs prev del) → Helpable R (outermost_prev hs prev) target
  outermost_help key element target [] prev del help (same, _) = rw same at help
  outermost_help key element target (h ∷ hs) prev del help (_, (helping, rest)) =
      outermost_help key element target hs h.prev h.del helping.help rest

  by_caller : (key element : ℕ) (caller : HelpCaller) (hs : List Pending) (prev del : ℕ) → Helpable R prev del
      → AllHold top w R (pending_facts key element caller hs prev del) → removed_in_help caller ≢ no_row_removed
      → Helpable R (outermost_prev hs prev) (removed_in_help caller)
  by_caller key element (Insert8 p new) hs prev del help known some = absurd (some refl)
  by_caller key element (Insert16 p new) hs prev del help known some = absurd (some refl)
  by_caller key element (Delete6 target true) hs prev del help known some = outermost_help key element target hs prev del help known
  by_caller key element (Delete6 target false) hs prev del help known some = absurd (some refl)

  -- the row that a delete removes is to be helped from its outermost prev
  pub removed_helpable : (l : Line) (hs : List Pending) → AllHold top w R (facts l hs) → removed_row l ≢ no_row_removed
      → Helpable R (helped_from l hs) (removed_row l)
  removed_helpable (Idle a) hs known some = absurd (some refl)
  removed_helpable (Search l f) hs known some = absurd (some refl)
  removed_helpable (Insert l f) hs known some = absurd (some refl)
  removed_helpable (Flag l f) hs known some = absurd (some refl)
  removed_helpable (Help l f) hs (fits, known) some =
      let both = running_help top w R l f.prev f.del _ known in
      by_caller f.key f.element f.caller hs f.prev f.del both.0 both.1 some

-- ---- Every event keeps the owners ----

-- a flag that stays keeps its row
flag_keeps_right : {top u : ℕ} {R R' : Table} → Move top u R R' → (p : ℕ) → flag_of R p ≡ true → flag_of R' p ≡ true
    → right_of R' p ≡ right_of R p
flag_keeps_right (nothing e) p h h' = cc
flag_keeps_right (links m) p h h' = m.right_other p (λ e. clash h (cc m.prev_unflagged)) (λ e. clash h (cc m.new_unflagged))
flag_keeps_right (marks m) p h h' = m.right= p
flag_keeps_right (unlinks m) p h h' = m.right_other p (λ e. clash h' (cc m.flag_prev))
flag_keeps_right (flags m) p h h' = m.right= p
flag_keeps_right (backlinks m) p h h' = m.right= p
flag_keeps_right (private m) p h h' = ap (λ (r : Row). r.succ.right) (m.other p (λ e. clash h' (cc m.unflagged)))

-- what is claimed by a flag was nobody's
claim_free : {top : ℕ} {R R' : Table} {prev target p : ℕ} → Structure top R → FlagMove R R' prev target → Helpable R p target → ⊥
claim_free {prev = prev} {p = p} sound m (flagged_for h e) =
    clash (cc (predecessor_unique sound p prev (sound.flag_regular p h) m.prev_regular (flagged_not_tail sound p h) m.prev_not_tail
    (e ∙ sym m.prev_right))) m.prev_unflagged
claim_free {prev = prev} sound m (already_marked h e) =
    clash (sound.marked_is_flagged prev m.prev_regular m.prev_not_tail (rw m.prev_right h)) m.prev_unflagged

first_removes_none : (code key element : ℕ) → removed_row (first_line code key element) ≡ no_row_removed
unfolding first_line
first_removes_none code key element =
    if_both (λ (l : Line). removed_row l ≡ no_row_removed) (eqb code 1) refl
    (if_both (λ (l : Line). removed_row l ≡ no_row_removed) (eqb code 2) refl refl)

-- the same rows flagged, and every worker removes what it removed
same_owners : {c c' : Catalogue} → c'.rows ≡ c.rows → ((v : ℕ) → removed_by c' v ≡ removed_by c v) → Owned c → Owned c'
same_owners {c} {c'} rows same owned = record {
  owner = λ p h.
      let o = owned.owner p (rw rows at h) in
      record { worker = o.worker; removes = same o.worker ∙ o.removes ∙ ap (λ (rows : List Row). right_of (row_at rows) p) (sym rows) };
  only = λ u v row some mine theirs. owned.only u v row some (sym (same u) ∙ mine) (sym (same v) ∙ theirs);
}

module _ {top : ℕ} {c c' : Catalogue} (sound : Sound top c) (owned : Owned c) where
  submit_keeps_owned : (w code key element : ℕ) → Submitted c c' w code key element → Owned c'
  submit_keeps_owned w code key element s = same_owners {c = c} {c' = c'} s.rows_same
      (each_worker s.worker (λ v k. removed_row k.line ≡ removed_by c v)
      (first_removes_none code key element ∙ sym (idle_removes_none (line_of c w) s.was_idle))
      (λ v differ. refl))
      owned

  -- worker w removed `before` and now removes `after`
  module _ (w : ℕ) (s : StepTaken c c' w) where
    now_removes : removed_by c' w ≡ removed_row (effect_in c w).line
    now_removes = ap removed_row (next_line s)

    still_removes : (v : ℕ) → v ≢ w → removed_by c' v ≡ removed_by c v
    still_removes v differ = ap removed_row (other_line s.worker v differ)

    -- the owner of a flag that was there, unless it is w and has ended
    kept_owner : (p : ℕ) (R' : Table) → Move top w (table_of c) R' → flag_of (table_of c) p ≡ true → flag_of R' p ≡ true
        → (removed_by c w ≡ right_of R' p → removed_row (effect_in c w).line ≡ right_of R' p) → Owner c' (right_of R' p)
    kept_owner p R' m h h' goes =
        let o = owned.owner p h in
        let same = flag_keeps_right m p h h' in
        elim (ℕ_discrete o.worker w) [
          | yes e ↦ record { worker = w; removes = now_removes ∙ goes (ap (removed_by c) (sym e) ∙ o.removes ∙ sym same) }
          | no e ↦ record { worker = o.worker; removes = still_removes o.worker e ∙ o.removes ∙ sym same }
        ]

    step_owner : (R' : Table) → Move top w (table_of c) R' → Removal (table_of c) R' (removed_by c w) (removed_row (effect_in c w).line)
        → (p : ℕ) → flag_of R' p ≡ true → Owner c' (right_of R' p)
    step_owner R' m (goes_on same no_new) p h = kept_owner p R' m (no_new p h) h (λ e. same ∙ e)
    step_owner R' m (ends none no_new gone) p h = kept_owner p R' m (no_new p h) h (λ e. absurd (gone p h (sym e)))
    step_owner R' m (claims {prev = prev} claim none) p h = elim (ℕ_discrete p prev) [
      | yes e ↦ record { worker = w; removes = now_removes ∙ sym (ap (right_of R') e ∙ claim.right= prev ∙ claim.prev_right) }
      | no e ↦
          let was = sym (claim.flag_other p e) ∙ h in
          kept_owner p R' m was h (λ q. absurd (above_not_head top (table_of c) p (right_of (table_of c) p)
          (flagged_right_above sound.structure p was) (sym (claim.right= p) ∙ sym q ∙ none)))
    ]

    -- w and another worker
    not_shared : (R' : Table) → Removal (table_of c) R' (removed_by c w) (removed_row (effect_in c w).line) → (v row : ℕ) → v ≢ w
        → row ≢ no_row_removed → removed_row (effect_in c w).line ≡ row → removed_by c v ≡ row → ⊥
    not_shared R' (goes_on same no_new) v row differ some mine theirs =
        differ (owned.only v w row some theirs (sym same ∙ mine))
    not_shared R' (ends none no_new gone) v row differ some mine theirs = some (sym mine ∙ none)
    not_shared R' (claims claim none) v row differ some mine theirs =
        let help = removed_helpable top v (table_of c) (line_of c v) (stack_in c v) (sound.known v) (λ e. some (sym theirs ∙ e)) in
        claim_free sound.structure claim (rw (theirs ∙ sym mine) at help)

    step_keeps_owned : Owned c'
    step_keeps_owned = record {
      owner =
          subst (λ (rows : List Row). (p : ℕ) → flag_of (row_at rows) p ≡ true → Owner c' (right_of (row_at rows) p)) (sym s.rows_written)
          (step_owner _ (step_lawful top c c' sound w s).move (step_lawful top c c' sound w s).removal);
      only = λ u v row some mine theirs. one u v row some mine theirs (ℕ_discrete u w) (ℕ_discrete v w);
    }
      where
        one : (u v row : ℕ) → row ≢ no_row_removed → removed_by c' u ≡ row → removed_by c' v ≡ row → Dec (u ≡ w) → Dec (v ≡ w) → u ≡ v
        one u v row some mine theirs (yes a) (yes b) = a ∙ sym b
        one u v row some mine theirs (yes a) (no b) = absurd (not_shared _ (step_lawful top c c' sound w s).removal v row b some
            (sym now_removes ∙ ap (removed_by c') (sym a) ∙ mine) (sym (still_removes v b) ∙ theirs))
        one u v row some mine theirs (no a) (yes b) = absurd (not_shared _ (step_lawful top c c' sound w s).removal u row a some
            (sym now_removes ∙ ap (removed_by c') (sym b) ∙ theirs) (sym (still_removes u a) ∙ mine))
        one u v row some mine theirs (no a) (no b) =
            owned.only u v row some (sym (still_removes u a) ∙ mine) (sym (still_removes v b) ∙ theirs)

pub event_keeps_owned : {top : ℕ} {c : Catalogue} {x : Call} {s : Stepped} → Sound top c → Owned c → Event c x s → Owned s.state
event_keeps_owned sound owned (refused r v same) = rw same owned
event_keeps_owned sound owned (submitted w code key element small is v s') = submit_keeps_owned sound owned w code key element s'
event_keeps_owned sound owned (stepped w small is v s') = step_keeps_owned sound owned w s'

pub empty_owned : Owned empty_catalogue
empty_owned = record {
  owner = λ p h. absurd (clash h (empty_unflagged p));
  only = λ u v row some mine theirs. absurd (some (sym mine ∙ ap (λ (k : Worker). removed_row k.line) (all_fresh u)));
}
