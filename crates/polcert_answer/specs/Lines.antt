-- The lines that the program writes.
--
-- The line that sums a model up. It is our own: `pomdp: 2 states, 1 actions, 2 observations, discount 0.95, reward`
-- and a line end; of an MDP, whose end states are observed, `mdp: 2 states, 1 actions, discount 0.5, reward`. The counts
-- are decimal, and their words stay plural. The discount is written as a number of millionths is, with no trailing zeros.
use Rattle.std.specs.Prelude.{◌≡◌, ◌++◌, ◌*◌, ℕ, ℤ, Bool, true, false, if◌then◌else◌, List, [], codes, decimal, pos}
use Rattle.polcert_text.specs.Millionths.{scaled_text}
use Rattle.polcert_cells.specs.Preamble.{is_mdp}
use Rattle.polcert_cells.specs.Meaning.{Meaning, states_of, actions_of, observations_of}
use Rattle.polcert_policy.specs.Vectors.{PolicyVectors}
use Rattle.polcert_check.specs.declared.survey.Verdict.{Verdict}
use Rattle.polcert_check.specs.declared.survey.Verdict.TheVariants.{Yes, Short, NoSuccessor}
use Rattle.polcert_check.specs.declared.above.AboveVerdict.{AboveVerdict}
use Rattle.polcert_check.specs.declared.above.AboveVerdict.TheVariants as above
use Rattle.polcert_check.specs.Horizon.{Controller, step_scale, one}
use Rattle.polcert_check.specs.StartWorth.{IsBestStart, IsStartWorth, IsCeilQuotient}
use Rattle.polcert_check.specs.StartMost.{IsStartMost}
use Rattle.polcert_answer.specs.declared.lines.VerdictLine.{VerdictLine}
use Rattle.polcert_answer.specs.declared.lines.VerdictLine.TheVariants as lines

-- a count, and the words after it
abbrev pub count_text : ℕ → List ℕ → List ℕ
count_text count words = decimal count ++ words

-- the end of the line: whether the model's text gives rewards or costs
abbrev pub earnings_word : Bool → List ℕ
earnings_word false = codes ", reward\n"
earnings_word true = codes ", cost\n"

abbrev pub kind_word : Bool → List ℕ
kind_word mdp = if mdp then codes "mdp: " else codes "pomdp: "

-- (an MDP has no observations of its own)
abbrev pub observation_count_text : Meaning → List ℕ
observation_count_text m = if is_mdp m.preamble then [] else count_text (observations_of m) (codes " observations, ")

abbrev pub counts_text : Meaning → List ℕ
counts_text m = kind_word (is_mdp m.preamble) ++ count_text (states_of m) (codes " states, ") ++ count_text (actions_of m) (codes " actions, ")
    ++ observation_count_text m

abbrev pub discount_text : Meaning → List ℕ
discount_text m = codes "discount " ++ scaled_text (pos m.preamble.discount) ++ earnings_word m.preamble.costs

abbrev pub summary_line : Meaning → List ℕ
summary_line m = counts_text m ++ discount_text m

-- ---- the lines of a verdict
--
-- Our own too: `yes: start node 0, at least -20`, `no: node 0, state 0, short by 0.000001`, and
-- `no: node 0, state 0, observation 1 has no successor`, each with a line end.

abbrev pub at_least_line : ℕ → ℤ → List ℕ
at_least_line n worth = codes "yes: start node " ++ count_text n (codes ", at least ") ++ scaled_text worth ++ codes "\n"

-- the beginning of a no, as far as the words after the state
abbrev pub pair_text : ℕ → ℕ → List ℕ → List ℕ
pair_text n s words = codes "no: node " ++ count_text n (codes ", state ") ++ count_text s words

-- a no for an amount, which these words lead to
abbrev pub amount_line : ℕ → ℕ → List ℕ → ℤ → List ℕ
amount_line n s words by = pair_text n s words ++ scaled_text by ++ codes "\n"

abbrev pub short_line : ℕ → ℕ → ℤ → List ℕ
short_line n s by = amount_line n s (codes ", short by ") by

abbrev pub lack_line : ℕ → ℕ → ℕ → List ℕ
lack_line n s z = pair_text n s (codes ", observation ") ++ count_text z (codes " has no successor\n")

-- The line of a verdict: a yes names the node that is worth most from the model's start, the least number on ties, and its
-- worth there, rounded down; an amount is divided by its scale and rounded up, so that it is never 0.
abbrev pub IsVerdictLine : Meaning → Controller → PolicyVectors → Verdict → List ℕ → Type 0
IsVerdictLine m c v Yes line = (n : ℕ) × (worth : ℤ) × IsBestStart m v n × IsStartWorth m v n worth × (line ≡ at_least_line n worth)
IsVerdictLine m c v (Short n s amount) line = (by : ℤ) × IsCeilQuotient amount (step_scale c * one) by × (line ≡ short_line n s by)
IsVerdictLine m c v (NoSuccessor n s z) line = line ≡ lack_line n s z

-- ---- the lines of a verdict from above
--
-- `yes: every start node, at most -20`, `no: node 0, state 0, long by 0.000001`, and the line of a missing successor as before.

abbrev pub at_most_line : ℤ → List ℕ
at_most_line most = codes "yes: every start node, at most " ++ scaled_text most ++ codes "\n"

abbrev pub long_line : ℕ → ℕ → ℤ → List ℕ
long_line n s by = amount_line n s (codes ", long by ") by

-- The line of a verdict from above: a yes names what no node is worth more than from the model's start, rounded up; an amount is
-- divided by its scale and rounded up, so that it is never 0.
abbrev pub IsAboveVerdictLine : Meaning → Controller → PolicyVectors → AboveVerdict → List ℕ → Type 0
IsAboveVerdictLine m c v above.Yes line = (most : ℤ) × IsStartMost m v most × (line ≡ at_most_line most)
IsAboveVerdictLine m c v (above.Long n s amount) line = (by : ℤ) × IsCeilQuotient amount (step_scale c * one) by × (line ≡ long_line n s by)
IsAboveVerdictLine m c v (above.NoSuccessor n s z) line = line ≡ lack_line n s z

-- the line that says this
abbrev pub line_text : VerdictLine → List ℕ
line_text (lines.AtLeast n worth) = at_least_line n worth
line_text (lines.AtMost most) = at_most_line most
line_text (lines.Short n s by) = short_line n s by
line_text (lines.Long n s by) = long_line n s by
line_text (lines.NoSuccessor n s z) = lack_line n s z
