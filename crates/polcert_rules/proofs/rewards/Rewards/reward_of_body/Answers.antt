use Rattle.std.proofs.Common.{◌∙◌, ◌<◌, ◌+◌, pos, get_or, drop, All, FitsSigned, w64, subst, sym, ap, rules}
use Rattle.std.proofs.lemmas.Int.{to_z-of_z}
use Rattle.std.proofs.lemmas.List.Elements.{All-drop}
use Rattle.polcert_rules.proofs.Common.{key_base, most_places, IsLastBody, RewardRules, cell_in}
use Rattle.polcert_rules.proofs.RewardLaws.RewardValues.{all_open, body_reward, no_reward, small_indices}
use Rattle.polcert_rules.proofs.rewards.Rewards.reward_of_body.Goals as goal

pub cell_in-cell-requires-clause-small : goal.cell_in-cell-requires-clause-small
cell_in-cell-requires-clause-small c =
    subst (All (λ i. i < key_base)) (sym c.indices_after-left.ensures)
    (All-drop (λ i. i < key_base) _ _ (small_indices _ _ c.requires))

pub returns-in-Some : goal.returns-in-Some
returns-in-Some c p entries are within last =
    let fits : FitsSigned w64 c.number_at.result = search rules in
    let cell = c.cell_in-cell.ensures ∙ ap (cell_in _ _)
    c.indices_after-left.ensures in
    let b = c.in-Some.body in
    let of_self = (c.number_at.ensures ∙ ap (λ k. get_or c.self.inside.bodies.numbers.items (b.start + k) (pos 0)) cell)
    ∙ ap (λ rewards. get_or rewards.numbers
    (b.start + cell_in rewards.shape.states rewards.shape.observations (drop b.places c.args.indices.now)) (pos 0)) c.self.view_is in
    to_z-of_z w64 _ fits ∙ of_self
    ∙ body_reward p _ _ _ b are (all_open p _ within)
    (subst (IsLastBody p.costs entries c.args.self.now.numbers c.args.indices.now) c.in-Some.is last)

pub returns-in-None : goal.returns-in-None
returns-in-None c p entries are within last = no_reward p _ _
    (subst (IsLastBody p.costs entries c.args.self.now.numbers c.args.indices.now) c.in-None.is last)
