-- The array of a text that bytes are appended to: zeros still stand behind the bytes that are held.
use Rattle.std.specs.Prelude.{◌≡◌, ℕ, ◌+◌, ◌-◌, ◌<◌, ◌≤◌, List, length, take, drop, replicate, slice_set}
use Rattle.std.proofs.Common.{ap, sym, ◌∙◌, arith, length-set, drop-set-lt}
use Rattle.std.proofs.lemmas.List.{drop-drop, drop-replicate}
use Rattle.std.proofs.lemmas.Slice.{drop-put_mid}
use borrow.Rule.Slice.PartMut.{put_mid, same_len_mid, mid_len}
use Rattle.schedule.specs.Padded.{Padded, held_length}

fewer : (len n : ℕ) → 48 - len - n ≡ 48 - (len + n)
fewer len n = omega arith

module _ {bytes : List ℕ} {len : ℕ} (padded : Padded bytes len) where
  longer : {new : List ℕ} (n : ℕ) → length (take len bytes) + n ≤ 48 → length new ≡ length bytes → drop (len + n) new ≡ drop (len + n) bytes
      → Padded new (len + n)
  longer n room size same = record {
    room = omega (arith, held_length padded);
    size = size ∙ padded.size;
    zeros =
        same ∙ sym (drop-drop n len bytes) ∙ ap (drop n) padded.zeros ∙ drop-replicate n (48 - len) 0
        ∙ ap (λ (k : ℕ). replicate k 0) (fewer len n);
  }

  -- by one byte
  pub pushed : (b : ℕ) → length (take len bytes) < 48 → Padded (slice_set bytes len b) (len + 1)
  pushed b room = longer 1 (omega arith) (length-set bytes len b) (drop-set-lt (len + 1) bytes len b (omega arith))

  -- by n bytes, which are written over the slice from `len` to `len + n`
  pub appended : (new : List ℕ) (n : ℕ) → length new ≡ n → length (take len bytes) + n ≤ 48 → Padded (put_mid len (len + n - len) bytes new) (len + n)
  appended new n all room =
      let inside : len + n ≤ length bytes = omega (arith, held_length padded, padded.size) in
      let size : length new ≡ len + n - len = omega arith in
      longer n room (same_len_mid len (len + n - len) bytes new (size ∙ sym (mid_len len (len + n) bytes inside)))
      (drop-put_mid len (len + n - len) bytes new (len + n) (omega arith) (omega arith) size)
