-- The lines of a verdict in every model near the text's. Our own: `yes: every model within 0.0000015, start node 0, at least -20`, with a
-- distance of rewards `yes: every model within 0.01, rewards within 0.5, start node 0, at least -20`, and from above
-- `yes: every model within 5 %, every start node, at most -20`, each with a line end. A no is the line that `polcert` writes.
use Rattle.std.specs.Prelude.{◌≡◌, ◌++◌, ◌*◌, ◌==◌, if◌then◌else◌, ℕ, ℤ, List, [], codes}
use Rattle.polcert_text.specs.Millionths.{scaled_text}
use Rattle.polcert_cells.specs.Meaning.{Meaning}
use Rattle.polcert_policy.specs.Vectors.{PolicyVectors}
use Rattle.polcert_check.specs.Horizon.{Controller, one, step_scale}
use Rattle.polcert_check.specs.StartWorth.{IsCeilQuotient}
use Rattle.polcert_check.specs.declared.survey.Verdict.{Verdict}
use Rattle.polcert_check.specs.declared.survey.Verdict.TheVariants.{Yes, Short, NoSuccessor}
use Rattle.polcert_check.specs.declared.above.AboveVerdict.{AboveVerdict}
use Rattle.polcert_check.specs.declared.above.AboveVerdict.TheVariants as above
use Rattle.polcert_answer.specs.Lines.{count_text, lack_line, long_line, short_line}
use Rattle.polcert_robust.specs.declared.distance.Spread.{Spread}
use Rattle.polcert_robust.specs.Start.{IsStartMostNear, IsStartWorthNear, scaled_start_total}
use Rattle.polcert_robust_answer.specs.Distances.{parts_at}
use Rattle.polcert_robust_answer.specs.declared.lines.NearLine.{NearLine}
use Rattle.polcert_robust_answer.specs.declared.lines.NearLine.TheVariants as lines
use Rattle.polcert_robust_answer.specs.declared.within.Within.{Within}

-- the distance of rewards, if it is not 0
abbrev pub rewards_words : Within → List ℕ
rewards_words w = if w.rewards_by == 0 then [] else codes ", rewards within " ++ w.rewards_text.now

-- the distance of probabilities
abbrev pub nearness_words : Within → List ℕ
nearness_words w = w.text.now ++ (if w.is_percent then codes " %" else [])

-- the beginning of a yes, with the distances as they were typed
abbrev pub models_words : Within → List ℕ
models_words w = codes "yes: every model within " ++ nearness_words w ++ rewards_words w

-- a yes: a node and its worth from the worst start, or from above what no node is worth more than
abbrev pub worth_line : Within → ℕ → ℤ → List ℕ
worth_line w n worth = models_words w ++ codes ", start node " ++ count_text n (codes ", at least ") ++ scaled_text worth ++ codes "\n"

abbrev pub most_line : Within → ℤ → List ℕ
most_line w most = models_words w ++ codes ", every start node, at most " ++ scaled_text most ++ codes "\n"

-- how far starts may lie from the model's, in whole parts of its scale and in percent
abbrev pub start_by : Within → Meaning → Spread
start_by w m = record { parts = parts_at w.by (scaled_start_total m); percent = w.percent }

-- The line of a verdict: a yes names the node that is worth most from its worst start near the model's, the least number on ties, and its
-- worth there, rounded down; an amount is divided by its scale and rounded up, so that it is never 0.
abbrev pub IsNearLine : Within → Meaning → Controller → PolicyVectors → Verdict → List ℕ → Type 0
IsNearLine w m c v Yes line = (n : ℕ) × (worth : ℤ) × IsStartWorthNear m (start_by w m) v n worth × (line ≡ worth_line w n worth)
IsNearLine w m c v (Short n s amount) line = (by : ℤ) × IsCeilQuotient amount (step_scale c * one) by × (line ≡ short_line n s by)
IsNearLine w m c v (NoSuccessor n s z) line = line ≡ lack_line n s z

-- The line of a verdict from above: a yes names what no node is worth more than from any start near the model's, rounded up.
abbrev pub IsNearAboveLine : Within → Meaning → Controller → PolicyVectors → AboveVerdict → List ℕ → Type 0
IsNearAboveLine w m c v above.Yes line = (most : ℤ) × IsStartMostNear m (start_by w m) v most × (line ≡ most_line w most)
IsNearAboveLine w m c v (above.Long n s amount) line = (by : ℤ) × IsCeilQuotient amount (step_scale c * one) by × (line ≡ long_line n s by)
IsNearAboveLine w m c v (above.NoSuccessor n s z) line = line ≡ lack_line n s z

-- the line that says this
abbrev pub line_text : Within → NearLine → List ℕ
line_text w (lines.AtLeast n worth) = worth_line w n worth
line_text w (lines.AtMost most) = most_line w most
line_text w (lines.Short n s by) = short_line n s by
line_text w (lines.Long n s by) = long_line n s by
line_text w (lines.NoSuccessor n s z) = lack_line n s z
