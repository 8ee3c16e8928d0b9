-- The one printed text of belief points, in the form that polcert_policy/specs/PointFields.antt reads.
--
-- For each point a line with its number and a weight for each state, and for each action a line with its value and for each observation the
-- number of the point that is named, or `-`; one blank between. Weights and values are decimal numbers without trailing zeros.
use Rattle.std.specs.Prelude.{ℕ, zero, suc, ◌==◌, if◌then◌else◌, ℤ, Option, Some, None, List, [], ◌++◌, decimal, codes}
use Rattle.polcert_text.specs.Millionths.{unsigned_text, scaled_text}
use Rattle.polcert_policy.specs.Points.{PointValues, point_count, point_weight, value_at, named_at}

-- what stands after item k of this many on a line: a blank, or after the last the line's end
abbrev pub after_item : ℕ → ℕ → List ℕ
after_item count k = if suc k == count then codes "\n" else codes " "

abbrev pub weight_text : (ℕ → ℕ) → ℕ → ℕ → List ℕ
weight_text weights states s = unsigned_text (weights s) ++ after_item states s

-- the weights of the first states, this many
abbrev pub weights_text : (ℕ → ℕ) → ℕ → ℕ → List ℕ
weights_text weights states zero = []
weights_text weights states (suc s) = weights_text weights states s ++ weight_text weights states s

abbrev pub named_text : Option ℕ → List ℕ
named_text None = codes "-"
named_text (Some j) = decimal j

abbrev pub point_name_text : (ℕ → Option ℕ) → ℕ → ℕ → List ℕ
point_name_text names observations z = named_text (names z) ++ after_item observations z

-- the points that are named for the first observations, this many
abbrev pub names_text : (ℕ → Option ℕ) → ℕ → ℕ → List ℕ
names_text names observations zero = []
names_text names observations (suc z) = names_text names observations z ++ point_name_text names observations z

abbrev pub point_value_text : ℤ → List ℕ
point_value_text h = scaled_text h ++ codes " "

abbrev pub action_text : PointValues → ℕ → ℕ → List ℕ
action_text p i a = point_value_text (value_at p i a) ++ names_text (named_at p i a) p.observations p.observations

-- the first actions of point i, this many
abbrev pub actions_text : PointValues → ℕ → ℕ → List ℕ
actions_text p i zero = []
actions_text p i (suc a) = actions_text p i a ++ action_text p i a

abbrev pub point_number_text : ℕ → List ℕ
point_number_text i = decimal i ++ codes " "

abbrev pub point_text : PointValues → ℕ → List ℕ
point_text p i = point_number_text i ++ (weights_text (point_weight p i) p.states p.states ++ actions_text p i p.actions)

-- the first points, this many
abbrev pub points_text_up_to : PointValues → ℕ → List ℕ
points_text_up_to p zero = []
points_text_up_to p (suc i) = points_text_up_to p i ++ point_text p i

abbrev pub points_text : PointValues → List ℕ
points_text p = points_text_up_to p (point_count p)
