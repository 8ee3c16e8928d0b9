use Rattle.std.proofs.Common.{◌≡◌, ◌∙◌, ◌<◌, ◌+◌, ◌*◌, ◌/◌, ◌%◌, ℕ, [], ◌∷◌, Some, None, map, length, slice_get, FitsSigned, w64, sym, ap}
use Rattle.std.proofs.Common.{subst, arith, rules, div-lt_iff_lt-mul, mod-lt, div-add-mod', mul_comm, Option}
use Rattle.std.proofs.lemmas.Int.{to_z-of_z}
use Rattle.polcert_rules.proofs.Common.{div-mul-add, mod-mul-add, mul-add-lt, same_Some, slice_get-get_or, count_of, dimensions, reward}
use Rattle.polcert_rules.proofs.Common.{Reward, AreIndices, table_key, most_places, max_option, IsNewest, AreWithin, IsCommonReward}
use Rattle.polcert_rules.proofs.Common.{AreOrdered, cell_at, CommonReward, RewardRules, NamesEnd}
use Rattle.polcert_rules.specs.Keys.{FitsKey}
use Rattle.polcert_rules.proofs.Indexes.NotedLaws.{later_none}
use Rattle.polcert_rules.proofs.RewardLaws.CellRewards.{some_factor, newest_named, none_named}
use Rattle.polcert_rules.proofs.rewards.Rewards.find_row.Goals as goal

pub returns-clause-common : goal.returns-clause-common
returns-clause-common c p entries are common is =
    let a = c.args.action in
    let s = c.args.start in
    let list = c.in-Some.list in
    let rewards = c.args.self.now in
    let cells = c.fill_cells.new.cells in
    let n : ℕ = length list.named.now in
    let all = c.fill_cells.ensures.cells c.if-not-fill_cells.false in
    let fits : FitsSigned w64 c.in-Some-single_number.reward = search rules in
    let get : (k : ℕ) → k < n → slice_get list.named.now k ≡ Some _ =
    λ k l. slice_get-get_or list.named.now k (record { key = 0; number = 0 }) l in
    let newest : (e z : ℕ) → e < rewards.shape.states → z < rewards.shape.observations → (x : Option ℕ)
    → IsNewest list.named.now (NamesEnd list.low e z) x
    → IsNewest rewards.rules (FitsKey most_places (table_key Reward) (a ∷ s ∷ e ∷ z ∷ [])) (max_option list.whole x) = λ e z el zl x m.
    subst (λ (r : RewardRules). IsNewest r.rules (FitsKey most_places (table_key Reward) (a ∷ s ∷ e ∷ z ∷ [])) (max_option list.whole x))
    c.self.view_is
    (c.in-Some.ensures.newest e z (search rules) (search rules) x m) in
    subst (λ (x : CommonReward). IsCommonReward (λ k. reward p entries
    (a ∷ s ∷ k / rewards.shape.observations ∷ k % rewards.shape.observations ∷ [])) (rewards.shape.states * rewards.shape.observations) x
    cells) (same_Some _ _ is) (record {
      room = c.fill_cells.ensures.room c.if-not-fill_cells.false;
      distinct = λ j k l m e. let up = all.1.rising j k l m in absurd (omega (arith, up, e));
      within = λ k l.
          let cell = all.1.each k _ l (get k l) in
          rw cell.number (subst (λ (m : ℕ). cell.end * rewards.shape.observations + cell.observation < m)
          (mul_comm rewards.shape.observations rewards.shape.states)
          (mul-add-lt cell.end rewards.shape.observations cell.observation rewards.shape.states cell.end_within cell.within));
      each = λ k l.
          let cell = all.1.each k _ l (get k l) in
          let at_end : (cell_at cells k).observation / rewards.shape.observations ≡ cell.end =
          ap (λ m. m / rewards.shape.observations) cell.number
          ∙ div-mul-add cell.end rewards.shape.observations cell.observation cell.within in
          let at_last : (cell_at cells k).observation % rewards.shape.observations ≡ cell.observation =
          ap (λ m. m % rewards.shape.observations) cell.number
          ∙ mod-mul-add cell.end rewards.shape.observations cell.observation cell.within in
          rw (at_end, at_last) (cell.earns (newest cell.end cell.observation cell.end_within cell.within _
          (newest_named rewards a s list all.0 cells all.1 k _ l (get k l) l)) p entries are);
      others = λ k l unnamed.
          let some : 0 < rewards.shape.observations = some_factor k rewards.shape.states rewards.shape.observations l in
          let e = k / rewards.shape.observations in
          let z = k % rewards.shape.observations in
          let el : e < rewards.shape.states = (div-lt_iff_lt-mul some).1 l in
          let zl : z < rewards.shape.observations = mod-lt k some in
          let none = none_named rewards a s list all.0 cells all.1 e z zl
          (λ j m same. unnamed j m (same ∙ div-add-mod' k rewards.shape.observations)) in
          let small : AreIndices most_places (a ∷ s ∷ e ∷ z ∷ []) = search rules in
          let within : AreWithin (map count_of (dimensions p Reward)) (a ∷ s ∷ e ∷ z ∷ []) = search rules in
          let whole : IsNewest rewards.rules (FitsKey most_places (table_key Reward) (a ∷ s ∷ e ∷ z ∷ [])) list.whole =
          subst (IsNewest rewards.rules (FitsKey most_places (table_key Reward) (a ∷ s ∷ e ∷ z ∷ []))) (later_none list.whole)
          (newest e z el zl None none) in
          c.single_number.ensures p entries are c.in-Some-single_number.reward c.in-Some-single_number.is (a ∷ s ∷ e ∷ z ∷ []) within
          (c.body_of.ensures (a ∷ s ∷ e ∷ z ∷ []) p entries small are whole)
          ∙ sym (to_z-of_z w64 c.in-Some-single_number.reward fits);
    })

pub returns-clause-rising : goal.returns-clause-rising
returns-clause-rising c = λ common is. subst (λ x. AreOrdered x c.fill_cells.new.cells) (same_Some _ _ is)
    (c.fill_cells.ensures.cells c.if-not-fill_cells.false).1.rising
