use Rattle.std.proofs.Common.{◌≡◌, ◌∙◌, ◌<◌, ℕ, map, length, set, FitsSigned, to_z, of_z, w64, sym, ap, refl, subst, arith, rules}
use Rattle.std.proofs.Common.{below_more, get_or-set_other, get_or-set_same}
use Rattle.std.proofs.lemmas.Int.{to_z-of_z}
use Rattle.polcert_rules.proofs.Common.{count_of, dimensions, reward, Reward, AreIndices, table_key, most_places, max_option, rule_at}
use Rattle.polcert_rules.proofs.Common.{IsNewest, AreWithin, cell_at, RewardCell}
use Rattle.polcert_rules.specs.Keys.{FitsKey}
use Rattle.polcert_rules.specs.Steps.NamedCells.{cell_of}
use Rattle.polcert_rules.proofs.Indexes.NamedLaws.{found_in}
use Rattle.polcert_rules.proofs.rewards.Rewards.fill_named.Goals as goal

pub loop-i-preserved : goal.loop-i-preserved
loop-i-preserved c =
    let i = c.loop-i.i in
    let list = c.args.list.now in
    let z = (rule_at list.rules i).observation in
    let new : RewardCell = record { observation = z; reward = to_z w64 (of_z w64 c.reward_of_body-reward.result) } in
    let room : i < length c.loop-i.cells = omega (arith, c.loop-i-test.true, c.if-cells-list.false, c.loop-i.auto.cells) in
    let here : cell_at (set c.loop-i.cells i new) i ≡ new = get_or-set_same c.loop-i.cells i new _ room in
    let other : (k : ℕ) → k < i → cell_at (set c.loop-i.cells i new) k ≡ cell_at c.loop-i.cells k =
    λ k l. get_or-set_other c.loop-i.cells i k new _ (λ e. absurd (omega (arith, e, l))) in
    let small : AreIndices most_places (cell_of c.args.at z) = search rules in
    let noted = found_in list.rules list.count i z c.loop-i-test.true refl list.distinct in
    let newest : IsNewest c.args.self.now.rules (FitsKey most_places (table_key Reward) (cell_of c.args.at z)) c.max_option.result =
    subst (IsNewest c.args.self.now.rules (FitsKey most_places (table_key Reward) (cell_of c.args.at z)))
    (ap (max_option list.whole) noted ∙ sym c.max_option.ensures) (c.requires.newest z (search rules)) in
    record {
      named = below_more (λ k. (cell_at (set c.loop-i.cells i new) k).observation ≡ (rule_at list.rules k).observation) i
          (λ k l. ap (λ (x : RewardCell). x.observation) (other k l) ∙ c.loop-i.invariant.named k l)
          (ap (λ (x : RewardCell). x.observation) here);
      within = below_more (λ k. (cell_at (set c.loop-i.cells i new) k).observation < c.args.self.now.shape.observations) i
          (λ k l. subst (λ (x : RewardCell). x.observation < c.args.self.now.shape.observations) (sym (other k l))
          (c.loop-i.invariant.within k l))
          (subst (λ (x : RewardCell). x.observation < c.args.self.now.shape.observations) (sym here) (search rules));
      each = λ p entries are.
          let within : AreWithin (map count_of (dimensions p Reward)) (cell_of c.args.at z) = search rules in
          let fits : FitsSigned w64 c.reward_of_body-reward.result = search rules in
          below_more (λ k. reward p entries (cell_of c.args.at (cell_at (set c.loop-i.cells i new) k).observation)
          ≡ (cell_at (set c.loop-i.cells i new) k).reward) i
          (λ k l. subst (λ (x : RewardCell). reward p entries (cell_of c.args.at x.observation) ≡ x.reward) (sym (other k l))
          (c.loop-i.invariant.each p entries are k l))
          (subst (λ (x : RewardCell). reward p entries (cell_of c.args.at x.observation) ≡ x.reward) (sym here)
          (sym (to_z-of_z w64 c.reward_of_body-reward.result fits
          ∙ c.reward_of_body-reward.ensures p entries are within
          (c.body_of-body.ensures (cell_of c.args.at z) p entries small are newest))));
    }
