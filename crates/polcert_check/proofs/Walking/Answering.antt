-- What the verdict says of every horizon, and how large an amount it names.
use Rattle.std.proofs.Common.{ℤ}
use Rattle.std.proofs.Common.{◌≡◌, pos, ◌<ℤ◌, subst, arith, rules}
use Rattle.polcert_check.proofs.Common.{Controller, MeetsHorizon, IsWithinLimits, IsVerdict, NamesSmallAmount, Verdict, Yes, Short}
use Rattle.polcert_check.proofs.Common.{NoSuccessor, IsController, ValuesAreWithin, IsPair, IsFound, sided, Check, Findings, Side}
use Rattle.polcert_check.proofs.Lowerings.Shorts.{short_le}
use Rattle.polcert_check.proofs.Mirrors.Sides.{sided_limits, sided_values}
use Rattle.polcert_check.proofs.Walking.Outcomes.{verdict_is}
use Rattle.polcert_check.proofs.Horizons.EveryHorizon.{every_horizon}
use Rattle.polcert_check.proofs.Horizons.Refused.{refused_short, refused_lacking, cut_run}

module _ (c : Controller) where
  pub meets_horizon : IsController c → (v : Verdict) → IsVerdict c v → MeetsHorizon c v
  meets_horizon p Yes is = every_horizon c p is
  meets_horizon p (Short n s amount) is = refused_short c n s (subst (λ (x : ℤ). pos 0 <ℤ x) is.4 is.5)
  meets_horizon p (NoSuccessor n s z) is = (refused_lacking c n s z is.3.0 is.3.1, cut_run c n s z is.3.0 is.3.1)

  -- ---- how large an amount is
  pub verdict_small : IsController c → IsWithinLimits c.cells → ValuesAreWithin c → (v : Verdict) → IsVerdict c v
      → NamesSmallAmount c v
  verdict_small h1 h2 h3 v h4 = grind (arith, short_le)

-- ---- what is found from either side
pub surveyed : (side : Side) (k : Controller) → IsController k → IsWithinLimits k.cells → ValuesAreWithin k → (f : Findings)
    → f.mode ≡ Check → IsFound (sided side k) (IsPair (sided side k)) f
    → IsVerdict (sided side k) f.first × MeetsHorizon (sided side k) f.first × NamesSmallAmount (sided side k) f.first
surveyed side k p limits values f mode found = search (rules, sided_limits, sided_values, verdict_is, meets_horizon, verdict_small)
