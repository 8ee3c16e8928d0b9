use Rattle.std.proofs.Common.{List, Contains, subst, sym, arith}
use Rattle.polcert_rules.proofs.Common.{Rule}
use Rattle.polcert_rules.proofs.Keyed.KeyRanges.{drop_whole}
use Rattle.polcert_rules.proofs.index.is_cut.Goals as goal

pub returns : goal.returns
returns c above = record {
  within = omega (arith, c.if-place-rules.false);
  front = c.all_below.ensures c.if-not-all_below.false;
  rest = λ r among. c.none_below.ensures above r (subst (λ xs. Contains xs r) (sym (drop_whole c.args.place c.args.rules.now)) among);
}
