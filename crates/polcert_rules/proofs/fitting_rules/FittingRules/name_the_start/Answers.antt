use Rattle.std.proofs.Common.{◌≡◌, ◌∙◌, Bool, true, sym, arith}
use Rattle.std.specs.Prelude.{not, IsFalse}
use Rattle.polcert_rules.proofs.Indexes.FittingLaws.{starts_unnamed}
use Rattle.polcert_rules.proofs.fitting_rules.FittingRules.name_the_start.Goals as goal

true_of : (b : Bool) → IsFalse (not b) → b ≡ true
true_of b h = grind arith

pub returns : goal.returns
returns c = λ unseen rules a s are. starts_unnamed _ a s _ are (sym c.if-is_some.false ∙ c.is_some.ensures) _ _
    c.is_empty.ensures c.if-not-is_empty.false c.is_empty-2.ensures (true_of _ unseen)
