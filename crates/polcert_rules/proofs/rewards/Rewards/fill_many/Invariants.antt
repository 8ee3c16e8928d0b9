use Rattle.std.proofs.Common.{◌≡◌, ℕ, ◌+◌, ◌-◌, ◌<◌, ◌≤◌, List, [], ◌∷◌, get_or, pos}
use Rattle.polcert_rules.proofs.Common.{Entry, Preamble, reward, AreRewardsOf}
use Rattle.polcert_rules.proofs.rewards.Rewards.fill_many.Given as goal

-- the rewards so far
abbrev pub invariant-loop-done : goal.invariant-loop-done
invariant-loop-done l = record {
  within : l.done ≤ l.count;
  filled : (p : Preamble) (entries : List Entry) → AreRewardsOf p entries l.self → (i : ℕ) → i < l.done
      → get_or l.rewards i (pos 0) ≡ reward p entries (l.at.action ∷ l.at.start ∷ l.at.end ∷ (l.first + i) ∷ []);
}

abbrev pub decreases-loop-done : goal.decreases-loop-done
decreases-loop-done l = l.count - l.done
