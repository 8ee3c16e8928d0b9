-- A verdict says yes exactly if the vectors pass in every model within, and a no is refuted by one of them.
use Rattle.std.proofs.Common.{◌≡◌, ℕ, ◌<◌, ◌↔◌, ℤ, pos, ◌-ℤ◌, ◌<ℤ◌, refl, subst, arith}
use Rattle.polcert_cells.specs.Tables.{CellTable, IsProper}
use Rattle.polcert_policy.specs.Graphs.{PolicyGraph, IsProperGraph, nodes}
use Rattle.polcert_policy.specs.Vectors.{PolicyVectors}
use Rattle.polcert_check.specs.Horizon.{Controller, Fits, controller_of}
use Rattle.polcert_check.specs.Shortfall.{Lacks}
use Rattle.polcert_check.specs.declared.survey.Verdict.{Verdict}
use Rattle.polcert_check.specs.declared.survey.Verdict.TheVariants.{Yes, Short, NoSuccessor}
use Rattle.polcert_check.proofs.Certificates.{closed_is}
use Rattle.polcert_check.proofs.Horizons.EveryHorizon.{passes_if_promised}
use Rattle.polcert_check.proofs.Sums.Ring.{linear}
use Rattle.polcert_robust.specs.Intervals.{IntervalTable, around}
use Rattle.polcert_robust.specs.RobustVerdict.{IsRobustVerdict, MeetsHorizonInEveryModel, PassesInEveryModel}
use Rattle.polcert_robust.specs.Worst.{MayLack, within_model}
use Rattle.polcert_robust.proofs.Backings.{not_robust}
use Rattle.polcert_robust.proofs.Exactly.{high_some, lies_around, only_then}
use Rattle.polcert_robust.proofs.Horizons.{near}
use Rattle.polcert_robust.proofs.Refuting.{refutes}
use Rattle.polcert_robust.proofs.Step.{left_some, passes_within, right_some, some_product}
use Rattle.polcert_robust.specs.declared.distance.Spread.{Spread}

module _ (x : CellTable) (graph : PolicyGraph) (vectors : PolicyVectors) (t_by o_by : Spread) (r_by : ℕ) (t_some : 0 < x.t_scale)
    (o_some : 0 < x.o_scale)
    (proper : IsProper x) (is_graph : IsProperGraph graph) (fits : Fits x graph vectors) where
  abbrev pub intervals : IntervalTable
  intervals = around x t_by o_by r_by

  abbrev pub c : Controller
  c = controller_of x graph vectors

  pub known : (n : ℕ) → n < nodes graph → c.action n < x.actions
  known n nl = (closed_is x graph _ fits is_graph).actions_in_range n nl

  pub exact : (v : Verdict) → IsRobustVerdict intervals c v → (v ≡ Yes) ↔ PassesInEveryModel intervals c
  exact v is = (
    (λ yes. passes_within intervals c t_some o_some known (subst (IsRobustVerdict intervals c) yes is)),
    (λ passes. not_robust _ c v t_some o_some is (only_then x c t_by o_by r_by proper known (passes 1))),
  )

  pub short_fails : (value backing amount : ℤ) → amount ≡ value -ℤ backing → pos 0 <ℤ amount → backing <ℤ value
  short_fails value backing amount is some = omega (arith, linear)

  -- the text's own model lacks what may be lacked near it
  pub lacks_itself : (n s z : ℕ) → MayLack intervals c n s z → Lacks (within_model c 1 x) n s z
  lacks_itself n s z (none, (e, el, some)) = (
    none,
    (
      e,
      el,
      some_product _ _ (high_some t_by _ (left_some _ _ some)) (high_some o_by _ (right_some _ _ some)),
    ),
  )

  pub horizon : (v : Verdict) → IsRobustVerdict intervals c v → MeetsHorizonInEveryModel intervals c v
  horizon Yes robust = near x graph _ t_by o_by r_by t_some o_some is_graph fits robust
  horizon (Short n s amount) (nl, sl, before, lacks, short, some) =
      let (m, lies, fails) = refutes _ c x (lies_around x t_by o_by r_by proper) refl refl n s (known n nl) sl _ _
      short.worst
      (short_fails _ _ _ short.is
      some) in
      (m, lies, λ promise. fails (passes_if_promised _ n s promise))
  horizon (NoSuccessor n s z) (nl, sl, before, (zl, lack, least)) = (
    x,
    lies_around x t_by o_by r_by proper,
    λ promise. (passes_if_promised _ n s promise).lacks_none z zl (lacks_itself n s z lack),
  )
