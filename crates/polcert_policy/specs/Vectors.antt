-- The token lists of vectors.
--
-- Restates the description of pomdp-solve's value function file, https://www.pomdp.org/code/alpha-file-spec.html: for
-- each vector the number of its action, and then a value for each state. Our own: vector n belongs to node n of a policy
-- graph, any line ends and comments may stand between the tokens, and values are rounded to whole millionths: down, or up
-- where they are to be a bound from above.
use Rattle.std.specs.Prelude.{◌≡◌, ℕ, ℤ, ◌+◌, ◌*◌, ◌<◌, ◌≤◌, ◌≤ℤ◌, ◌+ℤ◌, ◌⊎◌, neg_ℤ, map, flat_map, Bool, true, false, Option, Some, None, List, [], ◌∷◌, ◌++◌, length, slice_get, slice_index_or, pos}
use Rattle.std.specs.List.{range_with_len}
use Rattle.std.proofs.Common.{inl, inr}
use Rattle.polcert_text.specs.Cut.{Lexeme}
use Rattle.polcert_text.specs.Numbers.{IsRounded, IsReadable, largest}
use Rattle.polcert_text.specs.declared.number.Rounding.{Rounding}
use Rattle.polcert_text.specs.declared.number.Rounding.TheVariants.{Down}
use Rattle.polcert_text.specs.declared.tokens.TokenKind.{TokenKind}
use Rattle.polcert_text.specs.declared.tokens.TokenKind.TheVariants.{Plus, Minus}
use Rattle.polcert_cells.specs.Numbers.{IsWhole, IsNumeral}
use Rattle.polcert_policy.specs.Fields.{numeral_kind, minus_kind, is_whole, whole_number_of}
use Rattle.polcert_cells.specs.Elements.{most_states}
use Rattle.polcert_policy.specs.Graphs.{PolicyGraph, nodes, action_of, most_nodes}

-- a value for each node and state, node by node, in millionths
pub record PolicyVectors : Type 0 where
  pub nodes : ℕ
  pub states : ℕ
  pub values : List ℤ

abbrev pub value_of : PolicyVectors → ℕ → ℕ → ℤ
value_of v n s = slice_index_or v.values (n * v.states + s) (pos 0)

-- The tokens are these fields, one after another: an action (`inl`), of digits only, or a value (`inr`), perhaps after a sign, rounded this way.
pub data AreFields (rounding : Rounding) : List Lexeme → List (ℕ ⊎ ℤ) → Type 0 where
  none : AreFields rounding [] []
  action : {t : Lexeme} {ts : List Lexeme} {a : ℕ} {fs : List (ℕ ⊎ ℤ)} → IsWhole t a → AreFields rounding ts fs → AreFields rounding (t ∷ ts) (inl a ∷ fs)
  unsigned : {t : Lexeme} {ts : List Lexeme} {h : ℤ} {fs : List (ℕ ⊎ ℤ)} → IsNumeral (IsRounded rounding) false t h → AreFields rounding ts fs → AreFields rounding (t ∷ ts) (inr h ∷ fs)
  plus : {s t : Lexeme} {ts : List Lexeme} {h : ℤ} {fs : List (ℕ ⊎ ℤ)} → s.kind ≡ Plus → IsNumeral (IsRounded rounding) false t h → AreFields rounding ts fs → AreFields rounding (s ∷ t ∷ ts) (inr h ∷ fs)
  minus : {s t : Lexeme} {ts : List Lexeme} {h : ℤ} {fs : List (ℕ ⊎ ℤ)} → s.kind ≡ Minus → IsNumeral (IsRounded rounding) true t h → AreFields rounding ts fs → AreFields rounding (s ∷ t ∷ ts) (inr h ∷ fs)

-- the fields of vector n: the action of its node, and a value for each state
abbrev pub vector_fields : PolicyGraph → PolicyVectors → ℕ → List (ℕ ⊎ ℤ)
vector_fields g v n = inl (action_of g n) ∷ map (λ s. inr (value_of v n s)) (range_with_len 0 v.states)

-- the tokens are the vectors: the fields of all vectors, one after another
pub record AreVectorTokens (rounding : Rounding) (graph : PolicyGraph) (states : ℕ) (ts : List Lexeme) (v : PolicyVectors) : Type 0 where
  pub nodes_are : v.nodes ≡ nodes graph
  pub states_are : v.states ≡ states
  pub filled : length v.values ≡ nodes graph * states
  pub fields : AreFields rounding ts (flat_map (vector_fields graph v) (range_with_len 0 (nodes graph)))

-- ---- the same by the index of each number, as far as a list goes; the law `vectors_by_index` says that they agree

abbrev pub sign_kind : TokenKind → Bool
sign_kind Plus = true
sign_kind Minus = true
sign_kind _ = false

-- a numeral, and the sign before it, if it has one
pub record Part : Type 0 where
  pub sign : Option Lexeme
  pub token : Lexeme

abbrev pub with_sign : Option Lexeme → Lexeme → List Lexeme
with_sign None t = t ∷ []
with_sign (Some s) t = s ∷ t ∷ []

-- the tokens of the parts, one part after another
abbrev pub tokens_of : List Part → List Lexeme
tokens_of [] = []
tokens_of (p ∷ ps) = with_sign p.sign p.token ++ tokens_of ps

abbrev pub is_negative : Option Lexeme → Bool
is_negative None = false
is_negative (Some s) = minus_kind s.kind

pub record IsPart (p : Part) : Type 0 where
  pub numeral : numeral_kind p.token.kind ≡ true
  pub signed : (s : Lexeme) → p.sign ≡ Some s → sign_kind s.kind ≡ true

-- digits alone that spell the action
pub record IsActionPart (action : ℕ) (p : Part) : Type 0 where
  pub unsigned : p.sign ≡ None
  pub whole : is_whole p.token ≡ true
  pub value : whole_number_of p.token ≡ action

-- a number whose value, rounded to millionths, is this
pub record IsValuePart (rounding : Rounding) (p : Part) (value : ℤ) : Type 0 where
  pub part : IsPart p
  pub readable : IsReadable p.token.bytes
  pub rounded : IsRounded rounding (is_negative p.sign) p.token.bytes value

-- as far as they go, the parts are vectors of the graph with these values
pub record AreVectors (rounding : Rounding) (graph : PolicyGraph) (states : ℕ) (parts : List Part) (values : List ℤ) : Type 0 where
  pub action : (n : ℕ) (p : Part) → slice_get parts (n * (1 + states)) ≡ Some p → IsActionPart (action_of graph n) p
  pub value : (n s : ℕ) (p : Part) → s < states → slice_get parts (n * (1 + states) + (1 + s)) ≡ Some p → (h : ℤ) × (slice_get values (n * states + s) ≡ Some h) × IsValuePart rounding p h

-- the tokens are the vectors, with each value rounded this way
pub record IsRoundedVectors (rounding : Rounding) (graph : PolicyGraph) (states : ℕ) (ts : List Lexeme) (v : PolicyVectors) : Type 0 where
  pub nodes_are : v.nodes ≡ nodes graph
  pub states_are : v.states ≡ states
  pub parts : List Part
  pub spelled : ts ≡ tokens_of parts
  pub count : length parts ≡ nodes graph * (1 + states)
  pub filled : length v.values ≡ nodes graph * states
  pub records : AreVectors rounding graph states parts v.values

-- the tokens are the vectors, with each value rounded down
abbrev pub IsVectors : PolicyGraph → ℕ → List Lexeme → PolicyVectors → Type 0
IsVectors graph states ts v = IsRoundedVectors Down graph states ts v

-- the tokens begin a list that is vectors of the graph
abbrev pub ArePossible : Rounding → PolicyGraph → ℕ → List Lexeme → Type 0
ArePossible rounding graph states ts = (more : List Lexeme) × ((v : PolicyVectors) × IsRoundedVectors rounding graph states (ts ++ more) v)

-- from -10,000,000 to 10,000,000, in millionths
abbrev pub IsInRange : ℤ → Type 0
IsInRange h = (neg_ℤ (pos largest) ≤ℤ h) × (h ≤ℤ pos largest)

-- what is true of all vectors
pub record AreProper (nodes states : ℕ) (values : List ℤ) : Type 0 where
  pub some_nodes : 1 ≤ nodes
  pub few_nodes : nodes ≤ most_nodes
  pub some_states : 1 ≤ states
  pub few_states : states ≤ most_states
  pub filled : length values ≡ nodes * states
  pub in_range : (k : ℕ) (h : ℤ) → slice_get values k ≡ Some h → IsInRange h

abbrev pub AreProperVectors : PolicyVectors → Type 0
AreProperVectors v = AreProper v.nodes v.states v.values

-- the same vectors with one number added to every value
abbrev pub shifted_by : PolicyVectors → ℤ → PolicyVectors
shifted_by v by = record { nodes = v.nodes; states = v.states; values = map (λ h. h +ℤ by) v.values }

-- with this number added every value stays in range
abbrev pub CanShift : PolicyVectors → ℤ → Type 0
CanShift v by = (n s : ℕ) → n < v.nodes → s < v.states → IsInRange (value_of v n s +ℤ by)
