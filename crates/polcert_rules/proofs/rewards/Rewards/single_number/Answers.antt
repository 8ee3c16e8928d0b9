use Rattle.std.proofs.Common.{◌∙◌, ◌+◌, pos, get_or, FitsSigned, w64, subst, sym, ap, rules, refl}
use Rattle.std.proofs.lemmas.Int.{to_z-of_z}
use Rattle.polcert_rules.proofs.Common.{same_Some, RewardRules, IsLastBody}
use Rattle.polcert_rules.specs.Steps.RewardSearch.{IsSingle}
use Rattle.polcert_rules.proofs.RewardLaws.RewardValues.{single_reward, no_reward}
use Rattle.polcert_rules.proofs.rewards.Rewards.single_number.Goals as goal

pub returns-in-None : goal.returns-in-None
returns-in-None c p entries are h is cell within last =
    sym (no_reward p _ cell (subst (IsLastBody p.costs entries c.args.self.now.numbers cell) c.in-None.is last)) ∙ same_Some _ _ is

pub returns-then-gives_single_number : goal.returns-then-gives_single_number
returns-then-gives_single_number c p entries are h is cell within last =
    let fits : FitsSigned w64 c.number_at.result = search rules in
    single_reward p _ _ cell _ are within (subst (λ (rewards : RewardRules). IsSingle rewards.shape.observations c.in-Some.body.places)
    c.self.view_is (c.if-gives_single_number.ensures refl))
    (subst (IsLastBody p.costs entries c.args.self.now.numbers cell) c.in-Some.is last)
    ∙ sym (to_z-of_z w64 _ fits ∙ (c.number_at.ensures ∙ ap
    (λ (rewards : RewardRules). get_or rewards.numbers (c.in-Some.body.start + 0) (pos 0)) c.self.view_is)) ∙ same_Some _ _ is
