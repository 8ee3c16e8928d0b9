-- Tokens that stand whole at the front of what is ahead, taken from a source together.
use Rattle.std.proofs.Common.{◌++◌, ℕ, Option, List, arith}
use Rattle.polcert_text.proofs.Common.{drop-append-le, BeginWith, passed, Lexeme, Stream, visible, TakenFrom}
use Rattle.std.proofs.lemmas.List.{length-drop}
use Rattle.polcert_text.proofs.Taken.BeginLaws.{taken_both}
use Rattle.polcert_text.proofs.Streams.StreamLaws.{tail_of, rest_bytes, visible_len}
use Rattle.polcert_text.proofs.Streams.StreamTakes.{rest_skipped}

pub passed_taken : {S : Type 0} (reads : S → ℕ → Option (List ℕ) → S → Type 0) (failures : S → ℕ) (limit : ℕ) (first : S)
    (tokens : List Lexeme) (old : Stream) (s : S) (n : ℕ) (ts : List Lexeme)
    → TakenFrom reads failures limit first tokens old s → BeginWith old.ahead.place (visible old.ahead) n ts
    → TakenFrom reads failures limit first (tokens ++ ts) (passed n old) s
passed_taken = grind (arith, length-drop, drop-append-le, taken_both, tail_of, rest_bytes, visible_len, rest_skipped)
