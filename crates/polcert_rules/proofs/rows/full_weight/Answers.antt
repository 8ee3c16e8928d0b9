use Rattle.std.proofs.Common.{◌≡◌, ◌∙◌, ◌*◌, slice_index, sym, ap, arith}
use Rattle.polcert_rules.proofs.Common.{get_or_past}
use Rattle.polcert_rules.proofs.rows.full_weight.Goals as goal

pub returns-in-Some : goal.returns-in-Some
returns-in-Some c = c.column_weight.ensures ∙ ap (λ k. k * c.args.columns) (c.in-Some.ensures.lookup.3.1 0)

pub returns-in-None : goal.returns-in-None
returns-in-None c =
    let none : 0 ≡ 0 * c.args.columns = omega arith in
    none ∙ ap (λ k. k * c.args.columns) (sym (get_or_past c.args.numbers.now c.args.column 0 c.in-None.ensures.lookup.3))
