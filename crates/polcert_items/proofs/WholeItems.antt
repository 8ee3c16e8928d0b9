-- The items of a text that was read to its end are right and sound.
use Rattle.std.proofs.Common.{◌≡◌, ◌∙◌, ℕ, Bool, false, Option, unwrap_or, List, sym, ap, arith}
use Rattle.polcert_items.proofs.Common.{Lexeme, Elements, Count, Entry, StartWeights, IsSound, preamble_in, ModelSoFar}
use Rattle.polcert_cells.specs.Steps.Sound.{draft_of}
use Rattle.polcert_format.specs.Text.{IsRightText}
use Rattle.polcert_format.proofs.SoundTexts.{right_text_sound}
use Rattle.polcert_items.specs.Steps.ModelSoFar.{known_of, IsWholeRead, said}

module _ (seen : List Lexeme) (k : ModelSoFar) where
  -- its items are right, with the preamble that is known
  pub whole_right : IsWholeRead seen k → IsRightText seen (preamble_in k) k
  whole_right = grind arith

  pub whole_sound : IsWholeRead seen k → IsSound (said k)
  whole_sound w = right_text_sound seen _ k (whole_right w)

-- what the items say, of the lines as they are held
pub said_is : (k : ModelSoFar) (discount : Option ℕ) (costs : Option Bool) (states actions observations : Option Elements)
    (start : Option StartWeights) (es : List Entry)
    → known_of discount costs states actions observations start es ≡ k → (g : ℕ) (c : Bool) (s a : Elements)
    → g ≡ unwrap_or discount 0 → c ≡ unwrap_or costs false → s ≡ unwrap_or states (Count 0) → a ≡ unwrap_or actions (Count 0)
    → said k ≡ draft_of g c s a observations start es
said_is k discount costs states actions observations start es e g c s a eg ec es_ ea = ap said (sym e)
    ∙ sym (λ j. draft_of (eg j) (ec j) (es_ j) (ea j) observations start es)
