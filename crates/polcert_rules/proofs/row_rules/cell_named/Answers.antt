use Rattle.std.proofs.Common.{◌+◌, ◌*◌, ◌-◌, ◌%◌, ⊎_elim, inl, inr, arith}
use Rattle.polcert_rules.proofs.Indexes.CellLaws.{last_place, place_last, below_two}
use Rattle.polcert_rules.proofs.row_rules.cell_named.Goals as goal

pub returns-then-last-ge2-clause-names : goal.returns-then-last-ge2-clause-names
returns-then-last-ge2-clause-names c = place_last _ _ _ (inr (inr (omega (arith, c.if-key-first.false, c.if-last-ge2.true))))

pub returns-then-last-ge2-clause-alone : goal.returns-then-last-ge2-clause-alone
returns-then-last-ge2-clause-alone c e z l f =
    ⊎_elim (λ is. absurd (omega (arith, is, c.if-key-first.false, c.if-last-ge2.true)))
    (λ g. ⊎_elim (λ is. absurd (omega (arith, is, c.if-key-first.false, c.if-last-ge2.true)))
    (λ is. (
      omega (arith, is, l, c.requires.few, c.if-key-first.false, c.if-last-ge2.true),
      omega (arith, is, l, c.requires.few, c.if-key-first.false, c.if-last-ge2.true),
    )) g)
    (last_place _ z _ f)

pub returns-then-observations-eq1-clause-names : goal.returns-then-observations-eq1-clause-names
returns-then-observations-eq1-clause-names c =
    place_last _ 0 _ (⊎_elim (λ zero. inl (omega (arith, zero, c.if-key-first.false)))
    (λ one. inr (inl (omega (arith, one, c.if-key-first.false))))
    (below_two ((c.args.key - (c.args.low + 32768)) % 16384) (omega (arith, c.if-last-ge2.false))))

pub returns-then-observations-eq1-clause-alone : goal.returns-then-observations-eq1-clause-alone
returns-then-observations-eq1-clause-alone c e z l f =
    ⊎_elim (λ is. (omega (arith, is, c.if-key-first.false, c.if-last-ge2.false), omega (arith, l, c.if-observations-eq1.true)))
    (⊎_elim (λ is. (omega (arith, is, c.if-key-first.false, c.if-last-ge2.false), omega (arith, l, c.if-observations-eq1.true)))
    (λ is. absurd (omega (arith, is, l, c.if-observations-eq1.true, c.if-key-first.false, c.if-last-ge2.false))))
    (last_place _ z _ f)
