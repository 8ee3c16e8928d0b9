use Rattle.std.proofs.Common.{◌∙◌, ◌<◌, ◌++◌, ℕ, zero, suc, List, [], ◌∷◌, length, subst, sym, arith}
use Rattle.polcert_cells.specs.declared.entries.Place.{Place}
use Rattle.polcert_rules.specs.Keys.{key_base, AreDigits, digit, most_places}
use Rattle.polcert_rules_tests.proofs.tests.places.Goals as goal
use Rattle.polcert_rules_tests.proofs.tests.places.Goals.{then-len-lt4, else-len-lt4}

one_more : (m : ℕ) (ps : List Place) (p : Place) → AreDigits m ps → length ps < m → digit p < key_base → AreDigits m (ps ++ p ∷ [])
one_more zero ps p a l d = absurd (omega arith)
one_more (suc m) [] p a l d = (d, tt)
one_more (suc m) (q ∷ ps) p a l d = (a.0, one_more m ps p a.1 (omega arith) d)

pub loop-element-preserved : goal.loop-element-preserved
loop-element-preserved c = elim c.if-len-lt4.branch [
  | then-len-lt4 w ↦
      subst (AreDigits most_places) (sym (w.places-is ∙ w.push.ensures))
      (one_more most_places c.loop-element.places w.place.result c.loop-element.invariant (omega (arith, c.len.ensures, w.if-len-lt4.true))
      w.place.ensures)
  | else-len-lt4 w ↦ subst (AreDigits most_places) (sym w.places-is) c.loop-element.invariant
]
