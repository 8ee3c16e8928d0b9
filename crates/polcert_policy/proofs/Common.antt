-- The names of std and of specs that several proofs of this crate cite, passed on from one place. Declares nothing.
pub use Rattle.polcert_cells.specs.Elements.{most_actions, most_states}
pub use Rattle.polcert_policy.specs.Fields.{is_joined, is_successor, is_successor_of, is_whole, minus_kind, number_at, numeral_kind}
pub use Rattle.polcert_policy.specs.Fields.{successor_of, whole_number_of}
pub use Rattle.polcert_policy.specs.FullForm.{action_line, after_value, values_text, vectors_text_up_to}
pub use Rattle.polcert_policy.specs.GraphText.{IsColumn, IsGraphRefusal, IsGraphText, IsGraphMisfit, IsWrongGraphToken, joined_minus}
pub use Rattle.polcert_policy.specs.Graphs.{HasNodesOnly, IsFirstBeyond, IsGraph, IsLooseGraph, IsPossibleGraph, IsProperGraph, PolicyGraph}
pub use Rattle.polcert_policy.specs.Graphs.{action_of, most_nodes, next_of, nodes, width}
pub use Rattle.polcert_policy.specs.Steps.GraphRead.{Advanced, AllBelow, AreNodesUpTo, HasCounts, HasNodes, IsApartFrom, IsLastMinus}
pub use Rattle.polcert_policy.specs.Steps.GraphRead.{IsRead, IsTokenRefusal, IsUnfinished}
pub use Rattle.polcert_policy.specs.Steps.Kept.{cap, kept_of}
pub use Rattle.polcert_policy.specs.Steps.VectorsRead.{AdvancedValue, AreUnfinished, AreVectorsUpTo, HasReadVectors, IsPartRefusal}
pub use Rattle.polcert_policy.specs.Steps.VectorsRead.{is_minus}
pub use Rattle.polcert_policy.specs.Steps.VectorsRead.{kept_sign, open_of}
pub use Rattle.polcert_policy.specs.VectorText.{IsPartColumn, IsPartMisfit, IsRefusedRoundedVectorsText, IsRoundedVectorsRefusal}
pub use Rattle.polcert_policy.specs.VectorText.{IsRoundedVectorsText, is_part_shaped, last_sign}
pub use Rattle.polcert_policy.specs.Vectors.{ArePossible, AreProper, AreProperVectors, AreVectors, CanShift, IsActionPart, IsInRange}
pub use Rattle.polcert_policy.specs.Vectors.{IsPart, IsRoundedVectors, IsValuePart, Part, PolicyVectors, shifted_by, sign_kind, tokens_of}
pub use Rattle.polcert_policy.specs.Vectors.{value_of, with_sign}
pub use Rattle.polcert_policy.specs.declared.fault.GraphFault.{GraphFault}
pub use Rattle.polcert_policy.specs.declared.fault.VectorFault.{VectorFault}
pub use Rattle.polcert_policy.specs.declared.graph_reading.GraphReading.{GraphReading}
pub use Rattle.polcert_policy.specs.declared.vectors_reading.VectorsReading.{VectorsReading}
unfoldable pub use Rattle.polcert_text.specs.Bytes.{is_blank, is_digit}
pub use Rattle.polcert_text.specs.Cut.{IsCut, Lexeme, Rest, text_limit, text_rest}
pub use Rattle.polcert_text.specs.FrontValues.{with_minus}
pub use Rattle.polcert_text.specs.Lexemes.{are_digits}
pub use Rattle.polcert_text.specs.Millionths.{scaled_text}
pub use Rattle.polcert_text.specs.Numbers.{IsReadable, IsRounded, largest}
unfoldable pub use Rattle.polcert_text.specs.Numbers.{size_of}
pub use Rattle.polcert_text.specs.ReadTexts.{ReadsText}
pub use Rattle.polcert_text.specs.Reading.{lexeme_of}
pub use Rattle.polcert_text.specs.Sink.{Takes, nothing}
pub use Rattle.polcert_text.specs.Steps.Scaling.{Measures}
pub use Rattle.polcert_text.specs.Steps.StreamTaken.{TakenFrom}
pub use Rattle.polcert_text.specs.Steps.TakenAhead.{ReadsOn, TakesAhead}
pub use Rattle.polcert_text.specs.TakenTokens.{Taken}
pub use Rattle.polcert_text.specs.declared.number.Rounding.{Rounding}
pub use Rattle.polcert_text.specs.declared.number.Rounding.TheVariants.{Down, Up}
pub use Rattle.polcert_text.specs.declared.tokens.TokenFault.{TokenFault}
pub use Rattle.polcert_text.specs.declared.tokens.TokenKind.{TokenKind}
pub use Rattle.polcert_text.specs.declared.tokens.TokenKind.TheVariants.{Minus, Name, Numeral, Plus}
pub use Rattle.std.proofs.lemmas.Grind.{common_steps}
pub use Rattle.std.proofs.lemmas.Int.{ints}
pub use Rattle.std.proofs.lemmas.List.{map-append, take_more, take_rest}
pub use Rattle.std.proofs.lemmas.List.FromFn.{get_or-map-range_with_len, length-map-range_with_len}
pub use Rattle.std.proofs.lemmas.Option.{get_or_from_slice_get, slice_get-get_or, slice_get-map}
pub use Rattle.std.specs.List.{AllZip, list_all, range_with_len}
