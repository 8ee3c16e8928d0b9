use Rattle.std.proofs.Common.{◌≡◌, ◌∙◌, ◌+◌, ◌<◌, ℕ, [], ◌∷◌, drop, get_or, pos, map, sym, ap, subst, arith, rules}
use Rattle.polcert_rules.proofs.Common.{count_of, dimensions, Reward, AreWithin, RewardRules, cell_in}
use Rattle.polcert_rules.specs.Steps.NamedCells.{cell_of}
use Rattle.polcert_rules.proofs.RewardLaws.RewardValues.{all_open, body_reward, next_cell}
use Rattle.polcert_rules.proofs.rewards.Rewards.numbers_of.Goals as goal

pub returns-clause-rewards : goal.returns-clause-rewards
returns-clause-rewards c p entries are list is z l last =
    let b = c.args.body in
    let shape = c.self.inside.shape in
    let within : AreWithin (map count_of (dimensions p Reward)) (cell_of c.args.at z) = search rules in
    let first = c.cell_in-first.ensures ∙ ap (cell_in shape.states shape.observations) c.indices_after-left.ensures in
    let next = ap (λ k. k + z) first
    ∙ next_cell shape.states shape.observations b.places c.args.at.action c.args.at.start c.args.at.end z c.if-body-eq0.false
    (omega (arith, c.if-body-ge-MOST_PLACES.false)) in
    let size = ap (λ (rewards : RewardRules). rewards.shape.observations) c.self.view_is in
    let read = c.numbers_from.ensures.numbers list is z (subst (λ n. z < n) (sym size) l)
    ∙ ap (λ k. get_or c.self.inside.bodies.numbers.items (b.start + k) (pos 0)) next in
    sym (read ∙ ap (λ (rewards : RewardRules). get_or rewards.numbers
    (b.start + cell_in rewards.shape.states rewards.shape.observations (drop b.places (cell_of c.args.at z))) (pos 0)) c.self.view_is
    ∙ body_reward p entries c.args.self.now (cell_of c.args.at z) b are (all_open p (cell_of c.args.at z) within) last)
