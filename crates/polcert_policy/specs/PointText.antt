-- A text of belief points, and what stands where one is refused.
use Rattle.std.specs.Prelude.{◌≡◌, ◌≢◌, ℕ, ◌+◌, ◌*◌, ◌<◌, ◌≤◌, Some, None, List, length, slice_get}
use Rattle.polcert_text.specs.Cut.{Lexeme, Rest, IsCut, text_rest, text_limit}
use Rattle.polcert_text.specs.Tokens.{AreTokens}
use Rattle.polcert_text.specs.TakenTokens.{Taken}
use Rattle.polcert_policy.specs.Stops.{FirstBadToken}
use Rattle.polcert_policy.specs.Points.{PointValues}
use Rattle.polcert_policy.specs.PointFields.{AreFieldTokens}
use Rattle.polcert_policy.specs.PointTokens.{PointsSoFar, nothing_read, TakesAll, IsWrongPoint}
use Rattle.polcert_policy.specs.declared.points_reading.PointField.TheVariants as fields
use Rattle.polcert_policy.specs.declared.fault.PointFault.{PointFault}
use Rattle.polcert_policy.specs.declared.fault.PointFault.TheVariants as faults

-- the text is tokens without a fault, and they are the fields of the points
abbrev pub IsPointsText : ℕ → ℕ → ℕ → List ℕ → PointValues → Type 0
IsPointsText states actions observations text p = (ts : List Lexeme) × AreTokens text ts × AreFieldTokens states actions observations ts p

-- ---- the same by what is read token by token; the law `points_by_fields` says that they agree

-- whole points, which may name any number
pub record AreLoosePoints (states actions observations : ℕ) (ts : List Lexeme) (p : PointValues) : Type 0 where
  pub last : PointsSoFar
  pub read : TakesAll states actions observations nothing_read ts last
  pub whole : last.field ≡ fields.Number
  pub points_are : p ≡ record { states = states; actions = actions; observations = observations; rows = last.rows; values = last.values; names = last.names }

-- each named point is one of the points
abbrev pub NamesPointsOnly : PointValues → Type 0
NamesPointsOnly p = (k m : ℕ) → slice_get p.names k ≡ Some (Some m) → m < length p.rows

-- the tokens are the points
pub record ArePointTokens (states actions observations : ℕ) (ts : List Lexeme) (p : PointValues) : Type 0 where
  pub loose : AreLoosePoints states actions observations ts p
  pub bound : NamesPointsOnly p

-- ---- refusals

-- as far as they go, the tokens can be points
abbrev pub BeginPoints : ℕ → ℕ → ℕ → List Lexeme → Type 0
BeginPoints states actions observations ts = (last : PointsSoFar) × TakesAll states actions observations nothing_read ts last

-- after these tokens the token is wrong, for this reason
abbrev pub IsWrongAfter : ℕ → ℕ → ℕ → List Lexeme → Lexeme → PointFault → Type 0
IsWrongAfter states actions observations ts t fault = (last : PointsSoFar) × TakesAll states actions observations nothing_read ts last × IsWrongPoint states last t fault

-- The tokens but for the last begin points, and with the last they don't, for this reason.
abbrev pub PointsFirstBadToken : ℕ → ℕ → ℕ → List Lexeme → PointFault → Type 0
PointsFirstBadToken states actions observations tokens fault = FirstBadToken (λ ts. BeginPoints states actions observations ts)
    (λ before token. IsWrongAfter states actions observations before token fault) tokens

abbrev pub HasWrongPoint : ℕ → ℕ → ℕ → List ℕ → PointFault → Type 0
HasWrongPoint states actions observations text fault = (tokens : List Lexeme) × ((rest : Rest) × Taken (text_rest text text_limit) tokens rest × PointsFirstBadToken states actions observations tokens fault)

-- The text ends cleanly at this place, after tokens that begin points and are none: inside a point.
pub record EndsInsidePoint (states actions observations : ℕ) (text : List ℕ) (place : ℕ) : Type 0 where
  pub tokens : List Lexeme
  pub cut : IsCut (text_rest text text_limit) tokens None
  pub place_is : place ≡ length text
  pub last : PointsSoFar
  pub read : TakesAll states actions observations nothing_read tokens last
  pub inside : last.field ≢ fields.Number

-- the first by point, action and observation that names no point
pub record IsFirstUnknown (p : PointValues) (point action observation : ℕ) : Type 0 where
  pub number : ℕ
  pub action_is : action < p.actions
  pub observation_is : observation < p.observations
  pub named : slice_get p.names ((point * p.actions + action) * p.observations + observation) ≡ Some (Some number)
  pub unknown : length p.rows ≤ number
  pub first : (k m : ℕ) → k < (point * p.actions + action) * p.observations + observation → slice_get p.names k ≡ Some (Some m) → m < length p.rows

-- the text is points but for the bound on the points that are named, and this is the first that breaks it
pub record HasFirstUnknown (states actions observations : ℕ) (text : List ℕ) (point action observation : ℕ) : Type 0 where
  pub tokens : List Lexeme
  pub points : PointValues
  pub cut : IsCut (text_rest text text_limit) tokens None
  pub loose : AreLoosePoints states actions observations tokens points
  pub unknown : IsFirstUnknown points point action observation

-- what stands in a text that is refused for this reason
abbrev pub IsPointsRefusal : ℕ → ℕ → ℕ → List ℕ → PointFault → Type 0
IsPointsRefusal states actions observations text (faults.Token fault) = (ts : List Lexeme) × IsCut (text_rest text text_limit) ts (Some fault) × BeginPoints states actions observations ts
IsPointsRefusal states actions observations text (faults.Truncated place) = EndsInsidePoint states actions observations text place
IsPointsRefusal states actions observations text (faults.NextOutOfRange point action observation) = HasFirstUnknown states actions observations text point action observation
IsPointsRefusal states actions observations text faults.Memory = Unit {0}
IsPointsRefusal states actions observations text fault = HasWrongPoint states actions observations text fault

-- except out of memory, a refused text is no points
abbrev pub IsNoPointsText : ℕ → ℕ → ℕ → List ℕ → PointFault → Type 0
IsNoPointsText states actions observations text faults.Memory = Unit {0}
IsNoPointsText states actions observations text _ = (p : PointValues) → IsPointsText states actions observations text p → ⊥

-- the text is refused for this reason: all that is promised of a refusal
pub record IsRefusedPointsText (states actions observations : ℕ) (fault : PointFault) (text : List ℕ) : Type 0 where
  pub no_points : IsNoPointsText states actions observations text fault
  pub refusal : IsPointsRefusal states actions observations text fault
