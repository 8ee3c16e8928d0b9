use Rattle.std.proofs.Common.{◌≤◌, ◌+◌, ◌-◌, ◌*◌}
use Rattle.polcert_rules.proofs.Common.{Rule, key_base}
use Rattle.polcert_rules.proofs.RowLaws.Cells.{IsBetween, all_of, with_columns}
use Rattle.polcert_rules.proofs.row.add_columns_at.Goals as goal

pub add_part-requires : goal.add_part-requires
add_part-requires c = all_of (λ r. c.args.start ≤ r.key) _
    (λ r among. ((c.rules_from_at-rest.ensures.kept r).0 ((c.rules_before-part.ensures.kept r).0 among).0).1)

pub returns : goal.returns
returns c =
    let part = c.rules_before-part.result.now in
    with_columns _ part _ _ _ (λ r. let outer = c.rules_before-part.ensures.kept r in let inner = c.rules_from_at-rest.ensures.kept r in
    ((λ h. let o = outer.0 h in let i = inner.0 o.0 in (i.0, i.1, o.1)), (λ h. outer.1 (inner.1 (h.0, h.1), h.2))))
    c.in_ok-add_part.ensures
