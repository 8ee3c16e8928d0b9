-- A successor that stands whole at the front of some bytes.
use Rattle.std.proofs.Common.{◌≡◌, ◌∙◌, ℕ, ◌+◌, ◌≤◌, ◌==◌, min, true, ◌&&◌, Option, Some, None, [], ◌∷◌, ◌++◌, length, refl, sym, ap, List}
use Rattle.std.proofs.Common.{subst}
use Rattle.polcert_policy.proofs.Common.{Lexeme, are_digits, ReadsOn, Numeral, numeral_kind, minus_kind, whole_number_of, is_successor_of}
use Rattle.polcert_policy.proofs.Common.{number_at, cap, kept_of, IsRead, IsLastMinus, IsApartFrom, Advanced, GraphReading}
use Rattle.std.specs.Str.Parse.{digits_value}
use Rattle.polcert_policy.proofs.ReadLaws.{read_successor, last_minus}

-- no `-` is last, so that no token joins on
apart_none : (seen : List Lexeme) (t : Lexeme) → IsLastMinus seen None → IsApartFrom seen t
apart_none seen t last k s at e = ap (λ b. b && (numeral_kind t.kind && (t.place == s.place + length s.bytes))) (last k s at e)

pub successor_reads : (old mid new : GraphReading) (t : Lexeme) (value : ℕ) (successor : Option ℕ)
    → 2 ≤ old.column → old.minus ≡ None → new.minus ≡ None → mid.actions ≡ old.actions → mid.observations ≡ old.observations
    → mid.node ≡ old.node → mid.column ≡ old.column
    → mid.chosen ≡ old.chosen → mid.successors.items ≡ old.successors.items ++ successor ∷ [] → Advanced mid new
    → t.kind ≡ Numeral → are_digits t.bytes ≡ true → digits_value 10 t.bytes ≡ value → successor ≡ Some (min cap value)
    → ReadsOn (λ (_ : Unit {0}). IsRead) old new (t ∷ [])
successor_reads old mid new t value successor l none none_after ea eo en ec ecs es next numeral digits spelled kept = λ x seen h.
    let right = ap (λ k. is_successor_of k t.bytes) numeral ∙ digits in
    let same = kept ∙ sym (ap (λ k. kept_of (number_at k (whole_number_of t))) numeral ∙ ap (λ n. Some (min cap n)) spelled) in
    record {
      nodes = read_successor old mid new seen t successor l ea eo en ec ecs es next h.nodes
          (apart_none seen t (subst (IsLastMinus seen) none h.last)) right same;
      last = subst (IsLastMinus _) (sym none_after) (last_minus seen t _ None refl (ap minus_kind numeral));
    }
