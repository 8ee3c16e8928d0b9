use Rattle.std.proofs.Common.{◌≡◌, ◌∙◌, ◌+◌, ◌*◌, [], ◌∷◌, map, FitsSigned, to_z, of_z, w64, sym, subst, arith, rules}
use Rattle.std.proofs.lemmas.Int.{to_z-of_z}
use Rattle.polcert_rules.proofs.Common.{slice_get-get_or, count_of, dimensions, Reward, AreIndices, table_key, most_places, IsNewest}
use Rattle.polcert_rules.proofs.Common.{AreWithin, RewardCell}
use Rattle.polcert_rules.specs.Keys.{FitsKey}
use Rattle.polcert_rules.proofs.RewardLaws.CellRewards.{cells_more}
use Rattle.polcert_rules.proofs.rewards.Rewards.fill_cells.Goals as goal

pub loop-i-preserved : goal.loop-i-preserved
loop-i-preserved c =
    let i = c.loop-i.i in
    let a = c.args.action in
    let s = c.args.start in
    let at = c.in-Some.at in
    let list = c.args.list in
    let x : RewardCell = record {
      observation = at.end * c.self.inside.shape.observations + at.observation;
      reward = to_z w64 (of_z w64 c.single_or_given-reward.result);
    } in
    let get = slice_get-get_or _ i _ c.loop-i-test.true in
    let shape : c.args.self.now.shape.observations ≡ c.self.inside.shape.observations = search rules in
    let fits : FitsSigned w64 c.single_or_given-reward.result = search rules in
    cells_more _ a s list i _ _ x _ c.loop-i.invariant
    (omega (arith, c.loop-i-test.true, c.if-cells-list.false, c.loop-i.auto.cells)) (omega (arith, c.if-number-next.false)) get
    (record {
      end = at.end;
      observation = at.observation;
      number = search rules;
      end_within = search rules;
      within = search rules;
      names = c.in-Some.ensures.names;
      alone = λ e z l f. c.in-Some.ensures.alone e z (omega (arith, l, shape)) f;
      earns = λ newest p entries are. sym (to_z-of_z w64 _ fits ∙ c.single_or_given-reward.ensures p _ are (search rules)
          (c.body_of-covering.ensures (a ∷ s ∷ at.end ∷ at.observation ∷ []) p _ (search rules) are
          (subst (IsNewest c.args.self.now.rules (FitsKey _ _ (a ∷ s ∷ at.end ∷ at.observation ∷ [])))
          (sym c.max_option.ensures) newest)));
    })
