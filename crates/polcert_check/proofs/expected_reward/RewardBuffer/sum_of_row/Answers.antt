use Rattle.std.proofs.Common.{rules, arith, ◌≡◌, ◌∙◌, ◌^◌, ◌<◌, ℕ, ℤ, pos, length, slice_index_or, sym, subst, to_z, of_z, w64}
use Rattle.std.proofs.lemmas.Int.{to_z-of_z}
use Rattle.polcert_cells.specs.CommonRewards.{AreRewardsBut, base_reward, HasBase}
use Rattle.polcert_cells.specs.declared.common_reward.BaseRewards.{BaseRewards}
use Rattle.polcert_check.proofs.Common.{w128, CellTable}
use Rattle.polcert_check.specs.Steps.Exceptions.{AreListedBut}
use Rattle.polcert_check.proofs.Walking.Excepted.{small_of}
use Rattle.polcert_check.proofs.Walking.RowOfBoth.{end_excepted}
use Rattle.polcert_check.proofs.expected_reward.RewardBuffer.sum_of_row.Goals as goal

pub sum_excepted-requires-clause-rewards : goal.sum_excepted-requires-clause-rewards
sum_excepted-requires-clause-rewards g c =
    let m : CellTable = g.C.Cells.table c.args.cells.now in
    let rewards = subst (λ (b : BaseRewards). AreRewardsBut (base_reward b) (m.r c.args.a c.args.s c.args.e) m.observations
    c.args.row.exceptions c.args.self.now.exceptions) c.in-Common.is c.requires.row.rewards in
    let same : to_z w64 (of_z w64 c.in-Common.reward) ≡ c.in-Common.reward = to_z-of_z w64 c.in-Common.reward (search rules) in (
      m.o c.args.a c.args.e,
      m.r c.args.a c.args.s c.args.e,
      m.observations,
      2 ^ 64,
      end_excepted m (g.met.C.Cells.is_proper c.args.cells.now) (g.met.C.Cells.is_within_limits c.args.cells.now) c.args.a c.args.s
          c.requires.action c.requires.start c.args.e c.requires.end _ _ _ _
          (λ k weight l post. search rules) (search rules) (rw same (small_of c.in-Common.reward (search rules)))
          (subst (λ (h : ℤ). AreRewardsBut (λ z. h) (m.r c.args.a c.args.s c.args.e) m.observations c.args.row.exceptions
          c.args.self.now.exceptions) (sym same) rewards),
    )

pub sum_filled-requires-clause-rewards : goal.sum_filled-requires-clause-rewards
sum_filled-requires-clause-rewards g c =
    let m : CellTable = g.C.Cells.table c.args.cells.now in
    let r = m.r c.args.a c.args.s c.args.e in
    let list = c.in-Listed.list.now in
    let rewards = subst (λ (b : BaseRewards). AreRewardsBut (base_reward b) r m.observations c.args.row.exceptions
    c.args.self.now.exceptions) c.in-Listed.is c.requires.row.rewards in
    let size : length list ≡ m.observations = subst (λ (b : BaseRewards). HasBase b m.observations) c.in-Listed.is c.requires.row.size in
    let are : AreListedBut list r c.args.row.exceptions c.args.self.now.exceptions = record {
      rewards = subst (λ n. AreRewardsBut (λ z. slice_index_or list z (pos 0)) r n c.args.row.exceptions c.args.self.now.exceptions)
          (sym size) rewards;
      limited = λ z zl. (g.met.C.Cells.is_within_limits c.args.cells.now).r c.args.a c.args.s c.args.e z c.requires.action c.requires.start
          c.requires.end (subst (λ n. z < n) size zl);
    } in
    λ z zl. c.fill_listed.ensures r are z (subst (λ n. z < n) (sym size) zl)

pub returns-in-Common : goal.returns-in-Common
returns-in-Common g c =
    let m : CellTable = g.C.Cells.table c.args.cells.now in
    let rewards = subst (λ (b : BaseRewards). AreRewardsBut (base_reward b) (m.r c.args.a c.args.s c.args.e) m.observations
    c.args.row.exceptions c.args.self.now.exceptions) c.in-Common.is c.requires.row.rewards in
    let same : to_z w64 (of_z w64 c.in-Common.reward) ≡ c.in-Common.reward = to_z-of_z w64 c.in-Common.reward (search rules) in
    to_z-of_z w128 c.sum_excepted.result (search rules)
    ∙ c.sum_excepted.ensures _ _ _ _ (end_excepted m (g.met.C.Cells.is_proper c.args.cells.now)
    (g.met.C.Cells.is_within_limits c.args.cells.now) c.args.a c.args.s c.requires.action c.requires.start c.args.e c.requires.end _ _ _ _
    (λ k weight l post. search rules) (search rules) (rw same (small_of c.in-Common.reward (search rules)))
    (subst (λ (h : ℤ). AreRewardsBut (λ z. h) (m.r c.args.a c.args.s c.args.e) m.observations c.args.row.exceptions
    c.args.self.now.exceptions) (sym same) rewards))
