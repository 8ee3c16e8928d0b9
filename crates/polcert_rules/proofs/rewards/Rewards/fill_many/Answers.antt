use Rattle.std.proofs.Common.{◌≡◌, ◌+◌, [], ◌∷◌, None, get_or, pos, subst, arith}
use Rattle.polcert_rules.proofs.Common.{get_or-replicate, reward}
use Rattle.polcert_rules.proofs.RowLaws.FilledParts.{filled_part}
use Rattle.polcert_rules.proofs.rewards.Rewards.fill_many.Goals as goal

pub loop-done-preserved : goal.loop-done-preserved
loop-done-preserved c = record {
  within = omega (arith, c.min-size.ensures, c.loop-done.invariant.within);
  filled = λ p entries are. filled_part
      (λ i h. h ≡ reward p entries (c.args.at.action ∷ c.args.at.start ∷ c.args.at.end ∷ (c.args.first + i) ∷ []))
      _ _ _ _ _ _ (omega arith) (omega arith)
      (c.loop-done.invariant.filled p _ are)
      (λ i l.
      let place : c.args.first + c.loop-done.done + i ≡ c.args.first + (c.loop-done.done + i) = omega arith in
      subst (λ z. get_or c.fill_noted.new.rewards i (pos 0)
      ≡ reward p entries (c.args.at.action ∷ c.args.at.start ∷ c.args.at.end ∷ z ∷ [])) place (c.fill_noted.ensures p _ are i l));
}

pub fill_noted-requires-clause-nothing : goal.fill_noted-requires-clause-nothing
fill_noted-requires-clause-nothing c = λ i. get_or-replicate 1001 i None None
