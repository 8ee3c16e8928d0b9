-- The start item: the share that each state has, and the total of the shares.
-- Source: the POMDP file format page at pomdp.org, "the starting state": `start:` with `uniform`, a probability for
-- each state or one state; `start include:` and `start exclude:` with a list of states.
-- Our own: where one state is all there is, a single number stands for it: 0, its number, or 1, its probability; a list of
-- no states; and that the probabilities sum to one exactly.
use Rattle.std.specs.Prelude.{◌≡◌, ℕ, ◌<◌, ◌||◌, ◌==◌, Bool, true, not, List, [], ◌∷◌, length, ℤ, pos, ◌⊎◌, Some, codes, sum, map, if◌then◌else◌}
use Rattle.std.specs.List.{list_any, list_all, range_with_len, count_by, AllZip}
use Rattle.polcert_text.specs.Cut.{Lexeme}
use Rattle.polcert_text.specs.declared.tokens.TokenKind.TheVariants.{Colon}
pub use Rattle.polcert_cells.specs.declared.elements.StartWeights.{StartWeights}
use Rattle.polcert_cells.specs.Words.{IsWord, IsName}
use Rattle.polcert_cells.specs.Numbers.{IsWhole, AreNumbers, IsNumber, one}
use Rattle.polcert_cells.specs.Elements.{Elements, count_of, StandsFor, number_of}

-- Of n states those that the test picks, alike: a share of 1 for each, and their count as the total.
abbrev pub equal_weights : ℕ → (ℕ → Bool) → StartWeights
equal_weights n picks = record {
  weights = map (λ s. if picks s then 1 else 0) (range_with_len 0 n);
  total = count_by picks (range_with_len 0 n);
}

abbrev pub all_states : Elements → StartWeights
all_states states = equal_weights (count_of states) (λ s. true)

-- the state of this number alone
abbrev pub single : Elements → ℕ → StartWeights
single states s = equal_weights (count_of states) (λ n. n == s)

-- all of them that are above 0 are the same
abbrev pub is_level : List ℕ → Bool
is_level ps = list_all (λ p. list_all (λ q. p == 0 || q == 0 || p == q) ps) ps

-- Probabilities in millionths. If all that are above 0 are the same, these states are equally likely; else they are the
-- shares themselves, and one is the total. So `0.5 0.5` and `uniform` over two states denote the same start.
abbrev pub shares_of : List ℕ → StartWeights
shares_of ps =
    if is_level ps then (let alike_ones : StartWeights = record { weights = map (λ p. if not (p == 0) then 1 else 0) ps; total = count_by (λ p. not (p == 0)) ps } in alike_ones)
    else (let millionths : StartWeights = record { weights = ps; total = one } in millionths)

-- what stands after `start:`
pub data IsStartBody (states : Elements) : List Lexeme → StartWeights → Type 0 where
  uniform : {l : Lexeme} → IsWord (codes "uniform") l → IsStartBody states (l ∷ []) (all_states states)
  name : {l : Lexeme} {s : ℕ} → IsName l → number_of states l.bytes ≡ Some s → IsStartBody states (l ∷ []) (single states s)
  number : {l : Lexeme} {s : ℕ} → 1 < count_of states → IsWhole l s → s < count_of states → IsStartBody states (l ∷ []) (single states s)
  only_state : {ls : List Lexeme} {h : ℤ} → count_of states ≡ 1 → IsNumber ls h → (h ≡ pos 0) ⊎ (h ≡ pos one) → IsStartBody states ls (all_states states)
  probabilities : {ls : List Lexeme} (ps : List ℕ) → 1 < count_of states → AreNumbers ls (map pos ps) → length ps ≡ count_of states → sum ps ≡ one
      → IsStartBody states ls (shares_of ps)

-- the states that are listed; a repeat counts once
abbrev pub included : List ℕ → ℕ → Bool
included chosen s = list_any (λ n. n == s) chosen

-- the others
abbrev pub excluded : List ℕ → ℕ → Bool
excluded chosen s = not (included chosen s)

-- The lexemes after `start` give these shares. In the last two forms a state has to be left.
pub data IsStart (states : Elements) : List Lexeme → StartWeights → Type 0 where
  plain : {colon : Lexeme} {ls : List Lexeme} {found : StartWeights} → colon.kind ≡ Colon → IsStartBody states ls found → IsStart states (colon ∷ ls) found
  include : {word colon : Lexeme} {ls : List Lexeme} (chosen : List ℕ) → IsWord (codes "include") word → colon.kind ≡ Colon → AllZip (StandsFor states) ls chosen
      → 0 < (equal_weights (count_of states) (included chosen)).total → IsStart states (word ∷ colon ∷ ls) (equal_weights (count_of states) (included chosen))
  exclude : {word colon : Lexeme} {ls : List Lexeme} (chosen : List ℕ) → IsWord (codes "exclude") word → colon.kind ≡ Colon → AllZip (StandsFor states) ls chosen
      → 0 < (equal_weights (count_of states) (excluded chosen)).total → IsStart states (word ∷ colon ∷ ls) (equal_weights (count_of states) (excluded chosen))

abbrev pub is_positive : ℕ → Bool
is_positive p = not (p == 0)
