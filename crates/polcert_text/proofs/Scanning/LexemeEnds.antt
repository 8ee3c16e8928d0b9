-- How far a scan may be behind the longest lexeme that it found.
use Rattle.std.proofs.Common.{◌≡◌, ◌+◌, ℕ, Bool, true, false, None, Some, List, ◌++◌, length, take, drop, take_all, refl, ◌∙◌, arith}
use Rattle.std.proofs.lemmas.List.{take-append-drop}
use Rattle.polcert_text.proofs.Common.{is_stuck, pending, IsFrontOf, IsScanOf, LexemeScan, state_after, kind_at, ByteClass, TokenKind}
use Rattle.polcert_text.proofs.Common.{State}
use Rattle.polcert_text.proofs.Scanning.LexemeLaws.{front_whatever_follows, stuck_state}

-- a state that has read a lexeme waits for nothing
pub none_pending : (state : State) (kind : TokenKind) → kind_at state ≡ Some kind → pending state ≡ 0
none_pending = grind arith

pub after_some : (state : State) (kind : TokenKind) (len : ℕ) → kind_at state ≡ Some kind → len ≡ len + pending state
after_some state kind len e = let none = none_pending state kind e in omega arith

pub after_none : (state next : State) (c : ByteClass) (longest len : ℕ) → next ≡ state_after state c → kind_at next ≡ None
    → (is_stuck state ≡ false → len ≡ longest + pending state) → is_stuck next ≡ false → len + 1 ≡ longest + pending next
after_none = grind arith

-- a scan that went through all bytes, or up to a byte that no lexeme continues with, has found the longest lexeme
pub scanned : (bs : List ℕ) (scan : LexemeScan) → IsScanOf (take scan.len bs) scan
    → (is_stuck scan.state ≡ false → scan.len ≡ length bs) → IsFrontOf bs scan.longest
scanned bs scan was all = go _ refl
  where
    joined : take scan.len bs ++ drop scan.len bs ≡ bs
    joined = take-append-drop _ bs

    go : (b : Bool) → is_stuck scan.state ≡ b → IsFrontOf bs scan.longest
    go true stuck = rw (← joined) (front_whatever_follows _ _ _ was.longest (was.state ∙ stuck_state _ stuck))
    go false not_stuck = rw (← take_all scan.len bs (omega (arith, all not_stuck))) was.longest
