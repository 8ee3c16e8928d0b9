use Rattle.std.proofs.Common.{pos, sym, subst, rules}
use Rattle.std.proofs.lemmas.Int.{to_z-of_z}
use mir.Syntax.{w64}
use Rattle.polcert_policy.proofs.ShiftLaws.{CanAdd, sum_fits, push_shifted}
use Rattle.polcert_policy.proofs.vectors.shifted_values.Goals as goal

pub overflow_add-value : goal.overflow_add-value
overflow_add-value c = sum_fits c.args.values.now _ (pos 0) _
    (subst (CanAdd c.args.values.now) (sym (to_z-of_z w64 _ c.ranges.by)) c.requires) c.loop-value-test.true (search rules)

pub loop-value-preserved : goal.loop-value-preserved
loop-value-preserved c = push_shifted c.args.values.now _ _ _ (pos 0) _
    (subst (CanAdd c.args.values.now) (sym (to_z-of_z w64 _ c.ranges.by)) c.requires) c.loop-value-test.true (search rules)
    c.loop-value.invariant c.in_ok-push.ensures
