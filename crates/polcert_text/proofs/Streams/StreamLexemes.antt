-- The lexeme that a stream scans, in pieces.
use Rattle.std.proofs.Common.{◌≡◌, ◌<◌, ◌≤◌, ◌⊎◌, inl, inr, ℕ, true, false, Option, Some, List, [], length, take, append-nil, Bool}
use Rattle.std.proofs.Common.{arith}
use Rattle.polcert_text.proofs.Common.{take-append-le, IsScanOf, is_over, is_stuck, front_len, EndsWithin, Ahead, visible, IsReadToLimit}
use Rattle.polcert_text.proofs.Common.{IsFrontSeen, Fills, ReadsOn, ScansLexeme, LexemePrefix, LexemeScan}
use Rattle.std.proofs.lemmas.List.{take-take, length-take}
use Rattle.polcert_text.specs.Steps.Streaming.{with_read}
use Rattle.polcert_text.proofs.Scanning.SeenLaws.{seen_over, seen_long, seen_all, seen_within}
use Rattle.polcert_text.proofs.Streams.StreamLaws.{visible_len, reads_nothing, reads_fill}

-- a front of the bytes below the limit stays so
front_stays : (a : Ahead) (given : List ℕ) (n : ℕ) → n ≤ length (visible a) → take n (visible (with_read a given)) ≡ take n (visible a)
front_stays = grind (arith, take-append-le, take-take, visible_len)

scanned_few : (bs : List ℕ) (scan : LexemeScan) → IsScanOf (take scan.len bs) scan → scan.len ≤ length bs
scanned_few bs scan was = omega (arith, length-take scan.len bs)

-- a scan of a front continues over more bytes
pub scan_stays : (now new : Ahead) (given : List ℕ) (scan : LexemeScan) → new ≡ with_read now given
    → IsScanOf (take scan.len (visible now)) scan → IsScanOf (take scan.len (visible new)) scan
scan_stays now new given scan is was = grind (arith, front_stays, scanned_few)

module _ {S : Type 0} (reads : S → ℕ → Option (List ℕ) → S → Type 0) (failures : S → ℕ) where
  -- a lexeme that ends within the bytes below the limit
  pub lexeme_ended : (old : Ahead) (s : S) (front : LexemePrefix) → old.place ≤ old.limit → EndsWithin (visible old) front
      → ScansLexeme reads failures old s (Some front) old s
  lexeme_ended old s front below ends = record {
    given = [];
    reads_on = reads_nothing reads _ old s below;
    within = omega arith;
    seen = λ tail none. record { front_is = inl (ends.longest tail); apart = λ _ _. inr ends.within };
  }

  -- within a lexeme
  pub record InLexeme (old : Ahead) (s : S) (scan : LexemeScan) (now : Ahead) (t : S) : Type 0 where
    pub given : List ℕ
    pub on : ReadsOn reads failures old s [] given now t
    pub scan_is : IsScanOf (take scan.len (visible now)) scan
    pub all : is_stuck scan.state ≡ false → scan.len ≡ length (visible now)

  pub lexeme_begins : (old : Ahead) (s : S) (scan : LexemeScan) → old.place ≤ old.limit → IsScanOf (take scan.len (visible old)) scan
      → (is_stuck scan.state ≡ false → scan.len ≡ length (visible old)) → InLexeme old s scan old s
  lexeme_begins old s scan below scan_is all = record { given = []; on = reads_nothing reads _ old s below; scan_is = scan_is; all = all }

  pub lexeme_continues : (old : Ahead) (s : S) (scan : LexemeScan) (now : Ahead) (t : S) (is_more : Bool) (new : Ahead) (u : S)
      (next : LexemeScan)
      → InLexeme old s scan now t → now.is_whole ≡ false → Fills reads failures now t is_more new u
      → IsScanOf (take next.len (visible new)) next → (is_stuck next.state ≡ false → next.len ≡ length (visible new))
      → InLexeme old s next new u
  lexeme_continues old s scan now t is_more new u next was unended f scan_is all = record {
    given = _;
    on = reads_fill reads _ old s [] was.given now t is_more new u was.on unended f;
    scan_is = scan_is;
    all = all;
  }

  -- the lexeme is known
  pub lexeme_ends : (old : Ahead) (s : S) (scan : LexemeScan) (now : Ahead) (t : S) → InLexeme old s scan now t
      → IsReadToLimit now ⊎ ((is_over scan.state ≡ true) ⊎ (400 < front_len scan.longest))
      → ScansLexeme reads failures old s scan.longest now t
  lexeme_ends old s scan now t was known = record {
    given = _;
    reads_on = was.on;
    within = seen_within _ scan was.scan_is;
    seen = at known;
  }
    where
      at : IsReadToLimit now ⊎ ((is_over scan.state ≡ true) ⊎ (400 < front_len scan.longest)) → (tail : List ℕ)
          → (IsReadToLimit now → tail ≡ [])
          → IsFrontSeen (visible now) tail scan.longest
      at (inl complete) tail none = seen_all _ tail scan was.scan_is was.all (none complete)
      at (inr (inl over)) tail none = seen_over _ tail scan was.scan_is over
      at (inr (inr long)) tail none = seen_long _ tail _ _ was.scan_is.longest long

  -- the true end comes next
  pub lexeme_at_end : (old : Ahead) (s : S) (scan : LexemeScan) (now : Ahead) (t : S) (new : Ahead) (u : S) → InLexeme old s scan now t
      → now.is_whole ≡ false → Fills reads failures now t false new u → ScansLexeme reads failures old s scan.longest new u
  lexeme_at_end = grind (arith, append-nil, scan_stays, lexeme_continues, lexeme_ends)
