use Rattle.std.proofs.Common.{◌≡◌, ℕ, ⊎_elim, sym, subst, arith, rules}
use Rattle.polcert_check.proofs.Common.{cases_lt}
use Rattle.polcert_check.proofs.end_values.has_same_rows.Goals as goal

pub loop-s-preserved : goal.loop-s-preserved
loop-s-preserved g c s e sl el =
    let m = g.C.Cells.table _ in
    let here = c.is_same_row.ensures _ _ _ (search rules) c.t_row.ensures
    c.t_row-in-loop-s.ensures e el in
    ⊎_elim (λ less. c.loop-s.invariant s e less el)
    (λ ge. subst (λ n. m.t c.args.a n e ≡ m.t c.args.a 0 e) (sym (omega (arith, sl, ge))) (sym here))
    (cases_lt s _)
