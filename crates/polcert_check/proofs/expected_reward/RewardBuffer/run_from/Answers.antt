use Rattle.std.proofs.Common.{rules, arith, ◌∙◌}
use Rattle.std.proofs.lemmas.Int.{to_z-of_z}
use Rattle.polcert_check.proofs.Common.{w128, CellTable}
use Rattle.polcert_check.proofs.Walking.Runs.{constant_row}
use Rattle.polcert_check.proofs.expected_reward.RewardBuffer.run_from.Goals as goal

pub returns-in-Some-clause-run : goal.returns-in-Some-clause-run
returns-in-Some-clause-run g c = record {
  end = c.requires.end;
  reward = to_z-of_z w128 c.sum_of_row.result (search rules) ∙ c.sum_of_row.ensures;
  same = c.find_rewards.ensures.until c.in-Some.row c.in-Some.is;
  constant = λ t. constant_row (g.C.Cells.table c.args.cells.now) c.args.a c.args.s c.args.e c.in-Some.row
      c.find_rewards.new.exceptions c.constant.result (c.find_rewards.ensures.row c.in-Some.row c.in-Some.is) c.constant.ensures.all
      (search rules);
}

pub returns-in-None : goal.returns-in-None
returns-in-None g c =
    let is = to_z-of_z w128 _ (search rules) ∙ c.sum_rewards.ensures in
    record {
      here = is;
      run = record { end = c.requires.end; reward = is; same = c.same_rewards_until.ensures; constant = λ none. grind arith };
    }

pub sum_of_row-requires-clause-row : goal.sum_of_row-requires-clause-row
sum_of_row-requires-clause-row g c = c.find_rewards.ensures.row c.in-Some.row c.in-Some.is
