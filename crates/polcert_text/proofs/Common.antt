-- The names of std and of specs that several proofs of this crate cite, passed on from one place. Declares nothing.
pub use Rattle.polcert_text.specs.Beginning.{BeginWith, passed}
unfoldable pub use Rattle.polcert_text.specs.Bytes.{is_blank, is_digit, is_exponent_mark, is_hash, is_letter, is_line_end, is_name_byte}
unfoldable pub use Rattle.polcert_text.specs.Bytes.{is_point}
pub use Rattle.polcert_text.specs.Cut.{Ends, EndsAt, IsCut, IsFaultAt, IsTokenAt, Lexeme, Rest, TakesToken, is_glued, text_rest}
pub use Rattle.polcert_text.specs.Device.{HasFailed}
pub use Rattle.polcert_text.specs.FrontValues.{BeginWithValue}
pub use Rattle.polcert_text.specs.Fronts.{IsLongestGap, IsLongestLexeme}
pub use Rattle.polcert_text.specs.Gaps.{is_gap}
pub use Rattle.polcert_text.specs.Lexemes.{are_digits, is_empty, is_numeral, without_sign}
unfoldable pub use Rattle.polcert_text.specs.Lexemes.{kind_of}
pub use Rattle.polcert_text.specs.Millionths.{fraction_text, unsigned_text}
unfoldable pub use Rattle.polcert_text.specs.Millionths.{decimals}
pub use Rattle.polcert_text.specs.Numbers.{IsCeil, IsExact, IsFloor, IsReadable, IsRounded, exponent_of, fraction_of, is_lowering, largest}
pub use Rattle.polcert_text.specs.Numbers.{signed, whole_of}
unfoldable pub use Rattle.polcert_text.specs.Numbers.{exponent_size, millionth, significand, power_of, size_of}
pub use Rattle.polcert_text.specs.ReadTexts.{ReadsText}
pub use Rattle.polcert_text.specs.Reading.{lexeme_of}
pub use Rattle.polcert_text.specs.Sink.{Takes, TakesFront, WritesText}
pub use Rattle.polcert_text.specs.Source.{EachTextThatFits, Gives, IsText, more, nothing}
pub use Rattle.polcert_text.specs.Steps.Classes.{blank_class, digit_class, glue_class, hash_class, letter_class, mark_kind, point_class}
unfoldable pub use Rattle.polcert_text.specs.Steps.Classes.{class_of}
pub use Rattle.polcert_text.specs.Steps.FrontSizes.{AreDigitsFrom, EndsAsSize}
pub use Rattle.polcert_text.specs.Steps.Scaling.{IsScaled, Measures, size_cap, ceiling, is_away, is_nonzero, rounded, separates}
pub use Rattle.polcert_text.specs.Steps.Scan.{gap_after, gap_through, is_numeral_kind, kind_at, state_after, state_through}
pub use Rattle.polcert_text.specs.Steps.ScanOf.{EndsAsDigits, EndsWithin, IsFrontOf, IsNameOrMark, IsNumberFrom, IsScanOf, front_len}
pub use Rattle.polcert_text.specs.Steps.ScanOf.{is_over, is_stuck, pending}
pub use Rattle.polcert_text.specs.Steps.StreamTaken.{TakenFrom}
pub use Rattle.polcert_text.specs.Steps.Streaming.{Fills, IsReadToLimit, IsFrontSeen, ReadsOn, ScansLexeme, SkipsGap, EndsAsAnswered}
pub use Rattle.polcert_text.specs.Stream.{Ahead, CanFollow, Fails, GivesEnd, GivesToken, ReadsFrom, Stream, rest_with, skip, visible}
pub use Rattle.polcert_text.specs.TakenTokens.{Taken, token}
pub use Rattle.polcert_text.specs.declared.bytes.ByteClass.{ByteClass}
pub use Rattle.polcert_text.specs.declared.bytes.ByteClass.TheVariants.{Digit, Point}
pub use Rattle.polcert_text.specs.declared.number.Rounding.{Rounding}
pub use Rattle.polcert_text.specs.declared.source.SourceFault.TheVariants.{Device, Refused}
pub use Rattle.polcert_text.specs.declared.tokens.Gap.{Gap}
pub use Rattle.polcert_text.specs.declared.tokens.Gap.TheVariants.{Between, Comment, Ended}
pub use Rattle.polcert_text.specs.declared.tokens.LexemePrefix.{LexemePrefix}
pub use Rattle.polcert_text.specs.declared.tokens.LexemeScan.{LexemeScan}
pub use Rattle.polcert_text.specs.declared.tokens.State.{State}
pub use Rattle.polcert_text.specs.declared.tokens.State.TheVariants.{Fraction, Name, Single, Start, Stuck, Whole}
pub use Rattle.polcert_text.specs.declared.tokens.TokenFault.{TokenFault}
pub use Rattle.polcert_text.specs.declared.tokens.TokenKind.{TokenKind}
pub use Rattle.polcert_text.specs.declared.tokens.TokenKind.TheVariants.{Colon, Minus, Numeral}
pub use Rattle.std.proofs.Math.IntN.{pos-*ℤ-pos}
pub use Rattle.std.proofs.Math.Nat.{one-le-pow, pow-le-pow_right}
pub use Rattle.std.proofs.Math.Seq.{drop-append_seam, take-append-add}
pub use Rattle.std.proofs.lemmas.Bool.Decides.{nat_tests}
pub use Rattle.std.proofs.lemmas.Fmt.{decimal_nonempty, length-decimal-le}
pub use Rattle.std.proofs.lemmas.Int.{ints}
pub use Rattle.std.proofs.lemmas.Int.Digits.{digits_value_push}
pub use Rattle.std.proofs.lemmas.List.{drop-append-le, drop-take, drop_all, take-append-le, take_more, take_rest}
pub use Rattle.std.proofs.lemmas.List.Folds.{list_all-append, list_any-append}
pub use Rattle.std.specs.Char.{digit_value}
pub use Rattle.std.specs.List.{after_first, before_first, list_all, list_any, position_or_len}
pub use Rattle.std.specs.Str.Parse.{digits_value, digits_value_after}
