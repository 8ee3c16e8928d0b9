-- What passes in the worst case keeps its promise for every number of steps, in every model that lies within the intervals, from either
-- side.
use Rattle.std.proofs.Common.{◌≡◌, ℕ, ◌<◌, ℤ, pos, neg_ℤ, ◌*ℤ◌, ◌≤ℤ◌, subst, arith}
use Rattle.polcert_cells.specs.Tables.{CellTable}
use Rattle.polcert_policy.specs.Graphs.{PolicyGraph, IsProperGraph}
use Rattle.polcert_policy.specs.Vectors.{PolicyVectors}
use Rattle.polcert_check.specs.Above.{MeetsEveryHorizonAbove, PassesAbove}
use Rattle.polcert_check.specs.Horizon.{Controller, Fits, MeetsEveryHorizon, controller_of}
use Rattle.polcert_check.specs.Shortfall.{Passes}
use Rattle.polcert_check.specs.Steps.Mirrored.{mirrored}
use Rattle.polcert_check.specs.Steps.Ranges.{IsClosed, IsController}
use Rattle.polcert_check.proofs.Certificates.{closed_is}
use Rattle.polcert_check.proofs.Horizons.EveryHorizon.{every_horizon}
use Rattle.polcert_check.proofs.Mirrors.FromAbove.{passes_above, horizons_above}
use Rattle.polcert_check.proofs.Sums.Ring.{linear, neg_product}
use Rattle.polcert_robust.specs.Intervals.{IntervalTable, LiesWithin, around, negated}
use Rattle.polcert_robust.specs.Worst.{IsRobust, negated_values, within_model}
use Rattle.polcert_robust.proofs.Step.{passes_within}
use Rattle.polcert_robust.specs.declared.distance.Spread.{Spread}

-- the controller is for these intervals
pub record IsFor (i : IntervalTable) (c : Controller) : Type 0 where
  pub actions : c.cells.actions ≡ i.actions
  pub observations : c.cells.observations ≡ i.observations
  pub closed : IsClosed c

known_in : (i : IntervalTable) (c : Controller) → IsFor i c → (n : ℕ) → n < c.nodes → c.action n < i.actions
known_in i c is n nl = rw (← is.actions) (is.closed.actions_in_range n nl)

pub controller_within : (i : IntervalTable) (c : Controller) → IsFor i c → (parts : ℕ) (m : CellTable) → LiesWithin i parts m
    → IsController (within_model c parts m)
controller_within i c is parts m lies = record {
  cells = lies.rows;
  closed = record {
    actions_in_range = λ n nl. rw lies.actions (known_in i c is n nl);
    next_in_range = λ n z k nl zl. is.closed.next_in_range n z k nl (omega arith);
  };
}

pub horizons_within : (i : IntervalTable) (c : Controller) → 0 < i.t_scale → 0 < i.o_scale → IsFor i c → IsRobust i c
    → (parts : ℕ) (m : CellTable) → LiesWithin i parts m → MeetsEveryHorizon (within_model c parts m)
horizons_within i c t_some o_some is robust parts m lies =
    every_horizon _ (controller_within i c is parts m lies)
    (passes_within i c t_some o_some (known_in i c is) robust parts m lies)

-- ---- from above
abbrev pub negated_model : CellTable → CellTable
negated_model m = record m { r = λ a s e z. neg_ℤ (m.r a s e z) }

turned : (p l r h : ℤ) → (p *ℤ l) ≤ℤ r → r ≤ℤ (p *ℤ h) → ((p *ℤ neg_ℤ h) ≤ℤ neg_ℤ r) × (neg_ℤ r ≤ℤ (p *ℤ neg_ℤ l))
turned p l r h from to = (omega (arith, linear, neg_product p h), omega (arith, linear, neg_product p l))

pub negated_lies : (i : IntervalTable) (parts : ℕ) (m : CellTable) → LiesWithin i parts m → LiesWithin (negated i) parts (negated_model m)
negated_lies i parts m lies = record {
  states = lies.states;
  actions = lies.actions;
  observations = lies.observations;
  discount = lies.discount;
  rows = record { t_rows = lies.rows.t_rows; o_rows = lies.rows.o_rows };
  t = lies.t;
  o = lies.o;
  r = λ a s e z al sl el zl. turned (pos parts) _ _ _ (lies.r a s e z al sl el zl).0 (lies.r a s e z al sl el zl).1;
}

pub passes_above_within : (i : IntervalTable) (c : Controller) → 0 < i.t_scale → 0 < i.o_scale → IsFor i c
    → IsRobust (negated i) (mirrored c)
    → (parts : ℕ) (m : CellTable) → LiesWithin i parts m → PassesAbove (within_model c parts m)
passes_above_within i c t_some o_some is robust parts m lies =
    passes_above _
    (subst Passes (λ j. record (mirrored (within_model c parts m)) { value = λ n s. neg_product (pos parts) (c.value n s) j })
    (passes_within _ _ t_some o_some (known_in i c is) robust parts
    _ (negated_lies i parts m lies)))

pub horizons_above_within : (i : IntervalTable) (c : Controller) → 0 < i.t_scale → 0 < i.o_scale → IsFor i c
    → IsRobust (negated i) (mirrored c)
    → (parts : ℕ) (m : CellTable) → LiesWithin i parts m → MeetsEveryHorizonAbove (within_model c parts m)
horizons_above_within i c t_some o_some is robust parts m lies =
    horizons_above _ (controller_within i c is parts m lies)
    (passes_above_within i c t_some o_some is robust parts m lies)

-- ---- around a model
pub is_for_around : (x : CellTable) (graph : PolicyGraph) (vectors : PolicyVectors) (t_by o_by : Spread) (r_by : ℕ) → IsProperGraph graph
    → Fits x graph vectors
    → IsFor (around x t_by o_by r_by) (controller_of x graph vectors)
is_for_around x graph vectors t_by o_by r_by proper fits =
    record { actions = λ j. x.actions; observations = λ j. x.observations; closed = closed_is x graph _ fits proper }

pub near : (x : CellTable) (graph : PolicyGraph) (vectors : PolicyVectors) (t_by o_by : Spread) (r_by : ℕ) → 0 < x.t_scale → 0 < x.o_scale
    → IsProperGraph graph → Fits x graph vectors
    → IsRobust (around x t_by o_by r_by) (controller_of x graph vectors)
    → (parts : ℕ) (m : CellTable) → LiesWithin (around x t_by o_by r_by) parts m
    → MeetsEveryHorizon (within_model (controller_of x graph vectors) parts m)
near x graph vectors t_by o_by r_by t_some o_some proper fits =
    horizons_within _ _ t_some o_some
    (is_for_around x graph _ t_by o_by r_by proper fits)

-- rewards of the cells play no part in the worst case
pub robust_mirrored : (i : IntervalTable) (c : Controller) → IsRobust i (negated_values c) → IsRobust i (mirrored c)
robust_mirrored i c robust n s nl sl =
    let p = robust n s nl sl in
    record {
      lacks_none = p.lacks_none;
      seen = _;
      ends = _;
      worst = record { seen_worst = p.worst.seen_worst; ends_worst = p.worst.ends_worst };
      not_short = p.not_short;
    }

pub near_above : (x : CellTable) (graph : PolicyGraph) (vectors : PolicyVectors) (t_by o_by : Spread) (r_by : ℕ) → 0 < x.t_scale
    → 0 < x.o_scale
    → IsProperGraph graph → Fits x graph vectors
    → IsRobust (negated (around x t_by o_by r_by)) (negated_values (controller_of x graph vectors))
    → (parts : ℕ) (m : CellTable) → LiesWithin (around x t_by o_by r_by) parts m
    → MeetsEveryHorizonAbove (within_model (controller_of x graph vectors) parts m)
near_above x graph vectors t_by o_by r_by t_some o_some proper fits robust =
    horizons_above_within _ _ t_some o_some
    (is_for_around x graph _ t_by o_by r_by proper fits)
    (robust_mirrored _ _ robust)
