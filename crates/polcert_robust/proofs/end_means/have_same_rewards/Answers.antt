use Rattle.std.proofs.Common.{◌≡◌, ℕ, ⊎_elim, subst, refl, arith, rules}
use Rattle.std.proofs.lemmas.Bool.{cases_lt}
use Rattle.polcert_robust.proofs.end_means.have_same_rewards.Goals as goal

pub loop-s-preserved : goal.loop-s-preserved
loop-s-preserved g c s e z sl el zl =
    let m = g.C.Cells.table _ in
    let here = c.has_same_rewards.ensures (search rules) e z el zl in
    ⊎_elim (λ less. c.loop-s.invariant s e z less el zl)
    (λ ge. subst (λ (n : ℕ). m.r c.args.a n e z ≡ m.r c.args.a 0 e z) (omega arith) here)
    (cases_lt s c.loop-s.s)

pub loop-s-init : goal.loop-s-init
loop-s-init g c s e z sl el zl =
    let m = g.C.Cells.table _ in
    subst (λ (n : ℕ). m.r c.args.a n e z ≡ m.r c.args.a 0 e z) (omega arith) refl
