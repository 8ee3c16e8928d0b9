use Rattle.std.proofs.Common.{◌∙◌, cond, List, [], ℕ, ap, codes, sym}
use Rattle.polcert_text.proofs.Printing.Written.{as_text}
use Rattle.polcert_answer.proofs.Common.{meaning, observations_of, count_text}
use Rattle.polcert_model.specs.Contents.{Contents}
use Rattle.polcert_model.proofs.WrittenParts.{wrote_nothing}
use Rattle.polcert_answer.proofs.lines.write_observation_count.Goals as goal

abbrev count : Contents → List ℕ
count m = count_text (observations_of (meaning m)) (codes " observations, ")

pub returns-then-is_mdp : goal.returns-then-is_mdp
returns-then-is_mdp g c = wrote_nothing (sym (ap (λ b. cond b [] (count c.args.model.now)) (sym c.is_mdp.ensures ∙ c.if-is_mdp.true)))

pub returns-else-is_mdp : goal.returns-else-is_mdp
returns-else-is_mdp g c =
    as_text (sym (ap (λ b. cond b [] (count c.args.model.now)) (sym c.is_mdp.ensures ∙ c.if-is_mdp.false)))
    (rw c.observations.ensures.elements at c.write_count.ensures)
