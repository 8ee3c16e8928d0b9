use Rattle.std.proofs.Common.{◌≡◌, ◌-ℤ◌, ◌∙◌, ℤ, pos, true, to_z, of_z, w64, not, refl, rules, ap, arith, subst, sym}
use Rattle.std.proofs.lemmas.Int.{fits_signed_from_abs, to_z-of_z}
use mir.Syntax.{w128}
use Rattle.polcert_check.specs.Steps.Factored.{IsLeastOf}
use Rattle.polcert_robust.specs.Steps.EndMeans.{IsSharedReward}
use Rattle.polcert_robust.specs.Steps.Pairs.{cells_of, near_controller, near_table}
use Rattle.polcert_robust.specs.Steps.Sides.{turned}
use Rattle.polcert_robust.proofs.EndMeans.{both, difference_fits, mean_from, mean_without, none_of, shared_of, some_of}
use Rattle.polcert_robust.proofs.Worths.{o_scale_small}
use Rattle.polcert_robust.proofs.pair.kept_mean.Goals as goal

pub returns-then-have_rewards : goal.returns-then-have_rewards
returns-then-have_rewards g c =
    let k = near_controller c.args.end.now.pair.now.input.now in
    let t = cells_of c.args.end.now.pair.now.input.now in
    let i = near_table c.args.end.now.pair.now.input.now in
    let none = none_of _ (cc) in
    let complete =
    subst (IsLeastOf _) none c.requires.missing in
    rw (to_z-of_z w128 c.args.found.mean (search rules)) (record {
      ready = record {
        kept = λ is. record {
          complete = complete;
          without = λ no. absurd (both _ c.if-have_rewards.true no);
          full = λ yes. mean_from _ k c.args.end.now.pair.now.input.now.distance.t_by _ _ _
              _ c.args.end.now.end (c.requires.same c.if-have_rewards.true) _ _
              c.args.end.now.pair.now.start c.requires.found;
        };
        shared = λ is no. absurd (both _ c.if-have_rewards.true no);
        found = λ no. absurd (both true refl no);
        full = λ yes. c.requires.found;
      };
      missing = refl;
    })

pub end_reward-requires : goal.end_reward-requires
end_reward-requires g c =
    let t = cells_of c.args.end.now.pair.now.input.now in
    omega arith

pub returns : goal.returns
returns g c =
    let k = near_controller c.args.end.now.pair.now.input.now in
    let t = cells_of c.args.end.now.pair.now.input.now in
    let i = near_table c.args.end.now.pair.now.input.now in
    let none = none_of _ (cc) in
    let complete =
    subst (IsLeastOf _) none c.requires.missing in
    let limits = g.met.C.Cells.is_within_limits _ in
    let reward : to_z w64 (of_z w64 c.end_reward.result) ≡ c.end_reward.result = grind arith in
    let part = rw reward at c.reward_part.ensures.is in
    let least : ℤ = turned c.args.end.now.pair.now.input.now.side c.end_reward.result -ℤ pos c.args.end.now.pair.now.input.now.distance.r_by
    in
    let fits = fits_signed_from_abs w128 (c.args.found.mean -ℤ c.reward_part.result)
    (difference_fits c.args.found.mean c.reward_part.result t.o_scale (o_scale_small t limits) c.requires.small c.reward_part.ensures.small)
    in
    let (h, known) = some_of _ (c.is_none.ensures ∙ ap not c.if-is_none.false) in
    let each = c.args.end.now.reward h known in
    let shared : IsSharedReward i k _ _ _ least = λ z zl.
    shared_of _
    _ _
    _
    (each z zl ∙ sym (each 0 (omega arith)) ∙ sym c.end_reward.ensures.is) in
    let without = mean_without _ k c.args.end.now.pair.now.input.now.distance.t_by
    _ _ _
    _ complete _ least _ shared c.requires.found in
    rw (to_z-of_z w128 c.args.found.mean (search rules), to_z-of_z w128 c.reward_part.result (search rules))
    (rw (to_z-of_z w128 _ fits, part) (record {
      ready = record {
        kept = λ is. record {
          complete = complete;
          without = λ no. without;
          full = λ yes. absurd (both _ yes c.if-have_rewards.false);
        };
        shared = λ is no. (least, shared);
        found = λ no. absurd (both true refl no);
        full = λ yes. absurd (both _ yes c.if-have_rewards.false);
      };
      missing = refl;
    }))
