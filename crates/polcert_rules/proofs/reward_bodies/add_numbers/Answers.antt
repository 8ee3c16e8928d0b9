use Rattle.std.proofs.Common.{◌≡◌, ◌∙◌, ◌++◌, ◌∷◌, [], ℤ, pos, get_or, FitsSigned, w64, rules, ap}
use Rattle.std.proofs.lemmas.Int.{to_z-of_z}
use Rattle.polcert_rules.proofs.Common.{worth}
use Rattle.polcert_rules.proofs.RewardLaws.RewardLists.{one_more}
use Rattle.polcert_rules.proofs.reward_bodies.add_numbers.Goals as goal

pub loop-h-preserved : goal.loop-h-preserved
loop-h-preserved c =
    let read = get_or c.args.written.now c.loop-h.h-index (pos 0) in
    let fits : FitsSigned w64 read = search rules in
    let fits_again : FitsSigned w64 c.reward_of.result = search rules in
    one_more _ _ _ _ _ _ _ _
    c.loop-h-test.true (c.reward_of.ensures ∙ ap (worth c.args.costs) (to_z-of_z w64 read fits))
    (c.in_ok-push.ensures.items ∙ ap (λ (h : ℤ). c.loop-h.numbers.items ++ h ∷ []) (to_z-of_z w64 c.reward_of.result fits_again))
    c.loop-h.invariant
