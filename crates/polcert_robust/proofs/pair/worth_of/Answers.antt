use Rattle.std.proofs.Common.{◌≡◌, ◌∙◌, ℤ, pos, ◌*ℤ◌, rules, arith, ap}
use Rattle.std.proofs.lemmas.Int.{to_z-of_z}
use mir.Syntax.{w128}
use Rattle.polcert_robust.specs.Steps.Pairs.{most_worth}
use Rattle.polcert_robust.proofs.Levels.{two_fit}
use Rattle.polcert_robust.proofs.Worths.{worth_is, worth_small}
use Rattle.polcert_robust.proofs.pair.worth_of.Goals as goal

pub overflow_add-result : goal.overflow_add-result
overflow_add-result c =
    let a = c.weigh_number-earned.ensures
    ∙ ap (λ (y : ℤ). pos 1000000 *ℤ y) (to_z-of_z w128 c.least_reward-least.result (search rules)) in
    let b = c.weigh_number-later.ensures
    ∙ ap (λ (y : ℤ). pos c.args.discount *ℤ y) (search rules) in
    (two_fit c.weigh_number-earned.result _ _ (search rules) (search rules)
    (worth_small c.least_reward-least.result c.args.value _ _ c.args.discount
    c.least_reward-least.ensures.small c.requires.discount c.requires.value a b) (omega arith)).0

pub returns-clause-is : goal.returns-clause-is
returns-clause-is c =
    let a = c.weigh_number-earned.ensures
    ∙ ap (λ (y : ℤ). pos 1000000 *ℤ y) (to_z-of_z w128 c.least_reward-least.result (search rules)) in
    let b = c.weigh_number-later.ensures
    ∙ ap (λ (y : ℤ). pos c.args.discount *ℤ y) (search rules) in
    (two_fit _ c.weigh_number-later.result most_worth (search rules) (search rules)
    (worth_small c.least_reward-least.result c.args.value c.weigh_number-earned.result c.weigh_number-later.result c.args.discount
    c.least_reward-least.ensures.small c.requires.discount c.requires.value a b) (omega arith)).1
    ∙ worth_is c.args.reward c.least_reward-least.result c.args.value c.weigh_number-earned.result c.weigh_number-later.result c.args.by
    c.args.discount
    (search rules) a b

pub returns-clause-small : goal.returns-clause-small
returns-clause-small c =
    let a = c.weigh_number-earned.ensures
    ∙ ap (λ (y : ℤ). pos 1000000 *ℤ y) (to_z-of_z w128 c.least_reward-least.result (search rules)) in
    let b : c.weigh_number-later.result ≡ pos c.args.discount *ℤ c.args.value = search rules in
    let small =
    worth_small c.least_reward-least.result _ c.weigh_number-earned.result _ _
    c.least_reward-least.ensures.small c.requires.discount c.requires.value a b in
    rw (two_fit c.weigh_number-earned.result _ _ (search rules) (search rules) small (omega arith)).1
    small
