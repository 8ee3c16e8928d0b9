use Rattle.std.proofs.Common.{◌≡◌, ◌∙◌, ◌++◌, List, [], ◌∷◌, false, ℤ, map, refl, sym, ap, rules}
use Rattle.polcert_rules.proofs.Common.{worth}
use Rattle.polcert_rules.proofs.reward_bodies.signed_rewards.Goals as goal

same : (hs : List ℤ) → hs ≡ map (worth false) hs
same [] = refl
same (h ∷ hs) = ap (λ ks. h ∷ ks) (same hs)

pub returns-then-not-costs : goal.returns-then-not-costs
returns-then-not-costs c =
    let rewards : c.args.costs ≡ false = search rules in
    same _ ∙ sym (ap (λ b. map (worth b) c.args.written.items) rewards)

pub returns : goal.returns
returns c =
    c.in_ok-add_numbers.ensures ∙ ap (λ hs. hs ++ map (worth c.args.costs) c.as_slice.result.now) c.in_ok-numbers.ensures.items
    ∙ ap (map (worth c.args.costs)) c.as_slice.ensures.value
