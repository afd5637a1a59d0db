-- What a text shows.
use Rattle.std.specs.Prelude.{◌≡◌, ℕ, List}
use Rattle.std.proofs.Common.{sym, ◌∙◌}
use Rattle.schedule.specs.declared.text.Text.{Text}

-- the bytes that it holds
abbrev pub shown : Text → List ℕ
shown text = text

-- the text shows these bytes, all of them and no other
abbrev pub Shows : List ℕ → Text → Type 0
Shows bytes text = shown text ≡ bytes

-- two texts that show the same are the same
pub shows_same : {bytes : List ℕ} {t u : Text} → Shows bytes t → Shows bytes u → t ≡ u
shows_same one other = one ∙ sym other
