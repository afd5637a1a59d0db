-- A worker's facts survive every move that leaves the rows alone which it holds: once for each fact. Every move of another worker
-- does, and so does every move of linked rows alone.
use Rattle.std.specs.Prelude.{ℕ, true, ◌≡◌, ◌≢◌, ◌⊎◌, List, [], ◌∷◌}
use Rattle.std.proofs.Common.{ap, sym, ◌∙◌, subst, inl, inr, arith}
use Rattle.std.proofs.Math.Decide.{ℕ_discrete}
use Rattle.order.proofs.Table.{Table, mark_of, back_of, standing_of}
use Rattle.order.proofs.Structure.{Structure, Helpable, flagged_for, already_marked}
use Rattle.order.proofs.StructureFacts.{flagged_right_linked, help_del_linked, help_back, help_unique}
use Rattle.order.proofs.Moves.{Move, nothing, links, marks, unlinks, flags, backlinks, private}
use Rattle.order.proofs.PrivateKeeps.{linked_unchanged}
use Rattle.order.proofs.MovesKeep.{grow, grow_rank}
use Rattle.order.proofs.Facts.{Fact, key_fits, same_row, none_pending, at_most, above, below, save_of, marked, frozen, helpable, helping, holding, AtMost, Above, SaveOf, Helping, Holds, AllHold}
use Rattle.kept.specs.Conditions.{clash, contradiction}
use Rattle.kept.specs.Standing.{held_not_linked}
use Rattle.model.specs.declared.Row.{Row}
use Rattle.model.specs.declared.Standing.TheVariants.{Free, Held}

-- ---- Rows that a worker holds ----

-- the rows held by w are left as they are
abbrev pub LeavesHeld : ℕ → Table → Table → Type 0
LeavesHeld w R R' = (x : ℕ) → standing_of R x ≡ Held w → R' x ≡ R x

-- the move does not touch the row x that somebody holds
abbrev pub Apart : {top u : ℕ} {R R' : Table} → Move top u R R' → ℕ → Type 0
Apart (nothing e) x = Unit {0}
Apart (links {new = new} m) x = x ≢ new
Apart (marks m) x = Unit {0}
Apart (unlinks m) x = Unit {0}
Apart (flags m) x = Unit {0}
Apart (backlinks m) x = Unit {0}
Apart (private {new = new} m) x = x ≢ new

same_parts : (r s : Row) → r.key ≡ s.key → r.element ≡ s.element → r.backlink ≡ s.backlink → r.succ.right ≡ s.succ.right
    → r.succ.mark ≡ s.succ.mark → r.succ.flag ≡ s.succ.flag → r.standing ≡ s.standing → r ≡ s
same_parts r s key element back right mark flag standing =
    λ i. record {
      key = key i;
      element = element i;
      backlink = back i;
      succ = record { right = right i; mark = mark i; flag = flag i };
      standing = standing i;
    }

pub held_unchanged : {top u w : ℕ} {R R' : Table} → Structure top R → (m : Move top u R R') → (x : ℕ) → Apart m x
    → standing_of R x ≡ Held w → R' x ≡ R x
held_unchanged sound (nothing e) x apart h = ap (λ (S : Table). S x) (sym e)
held_unchanged sound (links m) x apart h =
    same_parts _ _ (m.key= x) (m.element= x) (m.back= x)
    (m.right_other x (λ e. held_not_linked h (cc m.prev_regular.linked)) apart) (m.mark= x) (m.flag= x) (m.standing_other x apart)
held_unchanged sound (marks {prev = prev} m) x apart h =
    same_parts _ _ (m.key= x) (m.element= x) (m.back= x) (m.right= x)
    (m.mark_other x (λ e. held_not_linked h (cc (flagged_right_linked sound prev m.prev_flagged, m.prev_right))))
    (m.flag= x) (m.standing= x)
held_unchanged sound (unlinks {prev = prev} m) x apart h =
    let other : x ≢ prev = λ e. held_not_linked h (cc (sound.flag_regular prev m.prev_flagged).linked) in
    same_parts _ _ (m.key= x) (m.element= x) (m.back= x) (m.right_other x other) (m.mark= x) (m.flag_other x other) (m.standing= x)
held_unchanged sound (flags m) x apart h =
    same_parts _ _ (m.key= x) (m.element= x) (m.back= x) (m.right= x) (m.mark= x)
    (m.flag_other x (λ e. held_not_linked h (cc m.prev_regular.linked))) (m.standing= x)
held_unchanged sound (backlinks {prev = prev} {del = del} m) x apart h =
    same_parts _ _ (m.key= x) (m.element= x)
    (m.back_other x (λ e. held_not_linked h (cc (help_del_linked sound prev del m.help))))
    (m.right= x) (m.mark= x) (m.flag= x) (m.standing= x)
held_unchanged sound (private m) x apart h = m.other x apart

apart_from_others : {top u w : ℕ} {R R' : Table} → u ≢ w → (m : Move top u R R') → (x : ℕ) → standing_of R x ≡ Held w → Apart m x
apart_from_others differ (nothing e) x h = tt
apart_from_others differ (links m) x h = λ e. differ (cc m.new_held)
apart_from_others differ (marks m) x h = tt
apart_from_others differ (unlinks m) x h = tt
apart_from_others differ (flags m) x h = tt
apart_from_others differ (backlinks m) x h = tt
apart_from_others {u = u} {w = w} {R = R} differ (private {new = new} m) x h = λ e. mine e m.before
  where
    mine : x ≡ new → (standing_of R new ≡ Free) ⊎ (standing_of R new ≡ Held u) → ⊥
    mine e (inl free) = contradiction (cc)
    mine e (inr held) = differ (cc)

pub others_leave_held : {top u w : ℕ} {R R' : Table} → Structure top R → u ≢ w → Move top u R R' → LeavesHeld w R R'
others_leave_held sound differ m x h = held_unchanged sound m x (apart_from_others differ m x h) h

-- ---- Helps ----

pub help_survives : {top u : ℕ} {R R' : Table} → Structure top R → Move top u R R' → (prev del : ℕ) → Helpable R prev del
    → Helpable R' prev del
help_survives sound m prev del (already_marked h e) =
    let g = grow sound m del (sound.mark_linked del h) in
    already_marked (g.mark h) (g.back h ∙ e)
help_survives sound (nothing q) prev del (flagged_for h e) = subst (λ (S : Table). Helpable S prev del) q (flagged_for h e)
help_survives sound (links m) prev del (flagged_for h e) =
    flagged_for (m.flag= prev ∙ h)
    (m.right_other prev (λ q. clash h (cc m.prev_unflagged)) (λ q. clash h (cc m.new_unflagged)) ∙ e)
help_survives sound (marks m) prev del (flagged_for h e) = flagged_for (m.flag= prev ∙ h) (m.right= prev ∙ e)
help_survives {R = R} {R' = R'} sound (unlinks {prev = other} m) prev del (flagged_for h e) = go (ℕ_discrete prev other)
  where
    go : Dec (prev ≡ other) → Helpable R' prev del
    go (yes q) =
        let gone : mark_of R del ≡ true = cc (m.del_marked, m.prev_right) in
        already_marked (m.mark= del ∙ gone) (m.back= del ∙ help_back sound prev del (flagged_for h e) gone)
    go (no q) = flagged_for (m.flag_other prev q ∙ h) (m.right_other prev q ∙ e)
help_survives sound (flags {prev = other} m) prev del (flagged_for h e) =
    flagged_for (elim (ℕ_discrete prev other) [ yes q ↦ cc m.flag_prev | no q ↦ m.flag_other prev q ∙ h ]) (m.right= prev ∙ e)
help_survives sound (backlinks m) prev del (flagged_for h e) = flagged_for (m.flag= prev ∙ h) (m.right= prev ∙ e)
help_survives sound (private m) prev del (flagged_for h e) =
    let r = linked_unchanged sound m prev (sound.flag_regular prev h).linked in
    flagged_for (cc) (cc)

-- a backlink once written is written again with the same row only
pub helping_survives : {top u : ℕ} {R R' : Table} → Structure top R → Move top u R R' → (prev del : ℕ) → Helping R prev del
    → Helping R' prev del
helping_survives {top = top} {R = R} {R' = R'} sound move prev del h =
    record { back_is = go move; help = help_survives sound move prev del h.help }
  where
    go : {u : ℕ} → Move top u R R' → back_of R' del ≡ prev
    go (nothing e) = cc h.back_is
    go (links m) = m.back= del ∙ h.back_is
    go (marks m) = m.back= del ∙ h.back_is
    go (unlinks m) = m.back= del ∙ h.back_is
    go (flags m) = m.back= del ∙ h.back_is
    go (private m) = cc (linked_unchanged sound m del (help_del_linked sound prev del h.help), h.back_is)
    go (backlinks {prev = other} {del = row} m) = elim (ℕ_discrete del row) [
      | yes e ↦ cc (m.back_del, help_unique sound prev other del h.help (rw e m.help))
      | no e ↦ m.back_other del e ∙ h.back_is
    ]

-- ---- Every fact ----

module _ {top u : ℕ} {R R' : Table} (sound : Structure top R) (m : Move top u R R') where
  pub at_most_survives : (x bound : ℕ) → AtMost top R x bound → AtMost top R' x bound
  at_most_survives x bound h =
      record { linked = (grow sound m x h.linked).linked; low = omega (arith, grow_rank sound m x h.linked) }

  pub above_survives : (x bound : ℕ) → Above top R x bound → Above top R' x bound
  above_survives x bound h =
      record { linked = (grow sound m x h.linked).linked; high = omega (arith, grow_rank sound m x h.linked) }

  pub save_survives : (x key : ℕ) → SaveOf R x key → SaveOf R' x key
  save_survives x key h =
      let g = grow sound m x h.linked in
      record { linked = g.linked; no_end = h.no_end; has_key = g.key ∙ h.has_key }

module _ (top w : ℕ) {u : ℕ} {R R' : Table} (sound : Structure top R) (m : Move top u R R') (leaves : LeavesHeld w R R') where
  pub fact_survives : (f : Fact) → Holds top w R f → Holds top w R' f
  fact_survives (key_fits key) h = h
  fact_survives (same_row x y) h = h
  fact_survives (none_pending hs) h = h
  fact_survives (at_most x bound) h = at_most_survives sound m x bound h
  fact_survives (above x bound) h = above_survives sound m x bound h
  fact_survives (below x y) h = record {
    linked = (grow sound m x h.linked).linked;
    next_linked = (grow sound m y h.next_linked).linked;
    lower = omega (arith, grow_rank sound m x h.linked, grow_rank sound m y h.next_linked);
  }
  fact_survives (save_of x key) h = save_survives sound m x key h
  fact_survives (marked x) h = (grow sound m x (sound.mark_linked x h)).mark h
  fact_survives (frozen x right) h =
      let g = grow sound m x (sound.mark_linked x h.mark_set) in
      record { mark_set = g.mark h.mark_set; right_is = g.right h.mark_set ∙ h.right_is }
  fact_survives (helpable prev del) h = help_survives sound m prev del h
  fact_survives (helping prev del) h = helping_survives sound m prev del h
  fact_survives (holding new key element) h =
      let same = leaves new h.held in
      record {
        held = cc h.held;
        has_key = cc h.has_key;
        has_element = cc h.has_element;
        back_zero = cc h.back_zero;
        unmarked = cc h.unmarked;
        unflagged = cc h.unflagged;
      }

  pub facts_survive : (fs : List Fact) → AllHold top w R fs → AllHold top w R' fs
  facts_survive [] hs = tt
  facts_survive (f ∷ fs) hs = (fact_survives f hs.0, facts_survive fs hs.1)
