-- Values of vectors that stand whole at the front of some bytes, read together.
use Rattle.std.proofs.Common.{◌≡◌, ℤ, ◌<◌, true, Option, Some, None, [], ◌∷◌, ◌++◌, refl, sym, ap, subst, append_assoc, arith}
use Rattle.polcert_policy.proofs.Common.{Lexeme, with_minus, IsReadable, IsRounded, ReadsOn, Numeral, Minus, Rounding}
use Rattle.polcert_policy.proofs.Common.{minus_kind, sign_kind, kept_sign, is_minus, HasReadVectors, AdvancedValue, VectorsReading}
use Rattle.polcert_text.specs.FrontValues.{has_minus}
use Rattle.polcert_policy.proofs.VectorReadLaws.{read_sign, read_value}

module _ {way : Rounding} (old mid new : VectorsReading) (t : Lexeme) (value : ℤ) (begun : 0 < old.column) (none : old.sign ≡ None)
    (numeral : t.kind ≡ Numeral) (readable : IsReadable t.bytes)
    (states : mid.states ≡ old.states) (node : mid.node ≡ old.node) (column : mid.column ≡ old.column) (sign : mid.sign ≡ None)
    (values : mid.values.items ≡ old.values.items ++ value ∷ [])
    (next : AdvancedValue mid new) where
  plain_read : IsRounded way (is_minus old.sign) t.bytes value → ReadsOn (HasReadVectors way) old new (t ∷ [])
  plain_read rounded = λ g seen h. read_value g old mid new seen t value begun (cc numeral) readable rounded states node column
      sign values next h

  signed_read : (s : Lexeme) → s.kind ≡ Minus → IsRounded way true t.bytes value → ReadsOn (HasReadVectors way) old new (s ∷ t ∷ [])
  signed_read s kind rounded = λ g seen h.
      let signed = record old { sign = Some (kept_sign s) } in
      let minus = ap minus_kind kind in
      subst (λ ts. HasReadVectors way g ts new) (append_assoc seen (s ∷ []) (t ∷ []))
      (read_value g signed mid new (seen ++ s ∷ []) t value begun (cc numeral) readable
      (subst (λ b. IsRounded way b t.bytes value) (sym minus) rounded) states node column sign values next
      (read_sign g old signed seen s (kept_sign s) begun none refl refl refl refl refl (ap sign_kind kind) refl refl h))

  pub value_reads : (minus : Option Lexeme) → ((s : Lexeme) → minus ≡ Some s → s.kind ≡ Minus)
      → IsRounded way (has_minus minus) t.bytes value → ReadsOn (HasReadVectors way) old new (with_minus minus t)
  value_reads = grind (arith, plain_read, signed_read)
