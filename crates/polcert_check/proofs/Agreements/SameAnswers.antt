-- What a check says of one table it says of every table with the same cells.
use Rattle.std.proofs.Common.{List}
use Rattle.std.proofs.Common.{◌≡◌, ℕ, ◌<◌, ℤ, Some, None, [], ◌∷◌, length, sym, refl, ◌∙◌, subst, arith}
use Rattle.polcert_check.proofs.Common.{All-contains, CellTable, PolicyGraph, IsProperGraph, nodes, PolicyVectors, LowerFault, Verdict}
use Rattle.polcert_check.proofs.Common.{Controller, controller_of, runs, Promise, RewardPromise, HasCutRun, MeetsHorizon, IsRunInRange}
use Rattle.polcert_check.proofs.Common.{Passes, PassesBefore, IsLeastLacking, IsVerdict, lowered_by, IsLeast, CanLower, NoneLacks}
use Rattle.polcert_check.proofs.Common.{IsFirstLack, IsFirstShort, IsNotMended, IsNotLowered, IsLeastConstant, IsLeastMove, IsClosed}
use Rattle.polcert_check.proofs.Common.{HasSameCells}
use Rattle.polcert_check.specs.Horizon.{Fits}
use Rattle.polcert_check.specs.declared.fault.LowerFault.TheVariants as faults
use Rattle.polcert_check.specs.declared.survey.Verdict.TheVariants as verdicts
use Rattle.polcert_check.proofs.Horizons.Enumerated.{All-runs}
use Rattle.polcert_check.proofs.Certificates.{closed_is}
use Rattle.polcert_check.proofs.Agreements.SameCells.{with_cells, runs_same, is_cut_same, weight_same, promise_same, reward_promise_same}
use Rattle.polcert_check.proofs.Agreements.SameCells.{short_same, lacks_same, lacks_back, pair_same, passes_same}

-- ---- a controller over cells that agree, and back
module _ (c : Controller) (p : IsClosed c) (y : CellTable) (same : HasSameCells c.cells y) where
  closed_with : IsClosed (with_cells c y)
  closed_with = record { actions_in_range = p.actions_in_range; next_in_range = p.next_in_range }

  agrees_back : HasSameCells (with_cells c y).cells c.cells
  agrees_back = grind (arith, same.t, same.o, same.r)

  -- ---- the verdict
  before_same : (n s : ℕ) → PassesBefore c n s → PassesBefore (with_cells c y) n s
  before_same n s before m t ml tl earlier = pair_same c p y same m t ml tl (before m t ml tl earlier)

  none_lacking : (n s : ℕ) → n < c.nodes → s < c.cells.states → IsLeastLacking c n s None → IsLeastLacking (with_cells c y) n s None
  none_lacking n s nl sl none z zl lacks = none z zl (lacks_back c p y same n s z nl sl zl lacks)

  least_lacking : (n s z : ℕ) → n < c.nodes → s < c.cells.states → IsLeastLacking c n s (Some z)
      → IsLeastLacking (with_cells c y) n s (Some z)
  least_lacking n s z nl sl (zl, lacks, least) = (
    zl,
    lacks_same c p y same n s z nl sl zl lacks,
    λ i less also. least i less
        (lacks_back c p y same n s i nl sl (omega (arith, less, zl)) also),
  )

  pub verdict_with : (answer : Verdict) → IsVerdict c answer → IsVerdict (with_cells c y) answer
  verdict_with verdicts.Yes passes = passes_same c p y same passes
  verdict_with (verdicts.Short n s amount) (nl, sl, before, none, is, more) =
      (nl, sl, before_same n s before, none_lacking n s nl sl none, is ∙ sym (short_same c p y same n s nl sl), more)
  verdict_with (verdicts.NoSuccessor n s z) (nl, sl, before, least) =
      (nl, sl, before_same n s before, least_lacking n s z nl sl least)

  -- ---- the promise
  promise_back : (k n s : ℕ) → n < c.nodes → s < c.cells.states → Promise (with_cells c y) k n s → Promise c k n s
  promise_back = promise_same (with_cells c y) closed_with c.cells agrees_back

  cut_run_with : (n s z : ℕ) → n < c.nodes → s < c.cells.states → HasCutRun c n s z → HasCutRun (with_cells c y) n s z
  cut_run_with n s z nl sl (e, among, cut, some) =
      let run : List (ℕ × ℕ) = (e, z) ∷ [] in
      let in_range : IsRunInRange c.cells run = (All-contains (λ u. (length u ≡ 1) × IsRunInRange c.cells u) (runs c.cells 1) run
      (All-runs c.cells 1) among).1 in
      (e, rw (runs_same c y 1) among, is_cut_same c y (Some n) run ∙ cut, rw (weight_same c p y same run n s nl sl in_range) some)

  pub horizon_with : (answer : Verdict) → IsVerdict c answer → MeetsHorizon c answer → MeetsHorizon (with_cells c y) answer
  horizon_with verdicts.Yes is meets = λ k n s nl sl. (
    promise_same c p y same k n s nl sl (meets k n s nl sl).0,
    reward_promise_same c p y same k n s nl sl (meets k n s nl sl).1,
  )
  horizon_with (verdicts.Short n s amount) is meets = λ promise. meets (promise_back 1 n s is.0 is.1 promise)
  horizon_with (verdicts.NoSuccessor n s z) is meets =
      (λ promise. meets.0 (promise_back 1 n s is.0 is.1 promise), cut_run_with n s z is.0 is.1 meets.1)

  -- ---- lowering
  lowered_passes : (by : ℕ) → Passes (lowered_by c by) → Passes (lowered_by (with_cells c y) by)
  lowered_passes by = passes_same (lowered_by c by) (record { actions_in_range = p.actions_in_range; next_in_range = p.next_in_range }) y
      same

  lowered_back : (by : ℕ) → Passes (lowered_by (with_cells c y) by) → Passes (lowered_by c by)
  lowered_back by = passes_same (lowered_by (with_cells c y) by)
      (record { actions_in_range = p.actions_in_range; next_in_range = p.next_in_range }) c.cells agrees_back

  least_with : (by : ℕ) → IsLeast c by → IsLeast (with_cells c y) by
  least_with by (passes, least) = (lowered_passes by passes, λ d less also. least d less (lowered_back d also))

  none_lacks_with : NoneLacks c → NoneLacks (with_cells c y)
  none_lacks_with none n s nl sl = none_lacking n s nl sl (none n s nl sl)

  first_lack_with : (n s z : ℕ) → IsFirstLack c n s z → IsFirstLack (with_cells c y) n s z
  first_lack_with n s z (nl, sl, least, first) =
      (nl, sl, least_lacking n s z nl sl least, λ m t ml tl earlier. none_lacking m t ml tl (first m t ml tl earlier))

  first_short_with : (n s : ℕ) (amount : ℤ) → IsFirstShort c n s amount → IsFirstShort (with_cells c y) n s amount
  first_short_with n s amount (nl, sl, is, more, first) = (
    nl,
    sl,
    is ∙ sym (short_same c p y same n s nl sl),
    more,
    λ m t ml tl earlier. rw (short_same c p y same m t ml tl)
        (first m t ml tl earlier),
  )

  -- `Can` says by which constants all values stay in range
  pub not_mended_with : (Can : ℕ → Type 0) (fault : LowerFault) → IsNotMended c Can fault → IsNotMended (with_cells c y) Can fault
  not_mended_with Can (faults.NoSuccessor n s z) first = first_lack_with n s z first
  not_mended_with Can (faults.NoConstant n s amount) (none, no_constant, first) =
      (none_lacks_with none, (λ by passes. no_constant by (lowered_back by passes)), first_short_with n s amount first)
  not_mended_with Can faults.OutOfRange (none, (by, least, out)) = (none_lacks_with none, (by, least_with by least, out))
  not_mended_with Can faults.Memory nothing = nothing

  pub least_move_with : (Can : ℕ → Type 0) (x : ℤ) → IsLeastMove c Can x → IsLeastMove (with_cells c y) Can x
  least_move_with Can x (by, is, least, can) = (by, is, least_with by least, can)

-- ---- two tables
module _ (x y : CellTable) (graph : PolicyGraph) (vectors : PolicyVectors) (same : HasSameCells x y) where
  table_is : record x { t = y.t; o = y.o; r = y.r } ≡ y
  table_is = rw (same.states, same.actions, same.observations, same.discount, same.t_scale, same.o_scale) refl

  pub moved : (P : Controller → Type 0) → P (with_cells (controller_of x graph vectors) y) → P (controller_of y graph vectors)
  moved P = subst (λ (t : CellTable). P (controller_of t graph vectors)) table_is

  pub fits_same : Fits x graph vectors → Fits y graph vectors
  fits_same fits =
      record {
        actions = fits.actions ∙ same.actions;
        observations = fits.observations ∙ same.observations;
        nodes_same = fits.nodes_same;
        states = fits.states ∙ same.states;
      }

module _ (x y : CellTable) (graph : PolicyGraph) (vectors : PolicyVectors) (same : HasSameCells x y) (proper : IsProperGraph graph)
    (fits : Fits x graph vectors) where
  abbrev of_x : Controller
  of_x = controller_of x graph vectors

  abbrev of_y : Controller
  of_y = controller_of y graph vectors

  closed : IsClosed of_x
  closed = closed_is x graph vectors fits proper

  pub same_verdict : (answer : Verdict) → IsVerdict of_x answer → IsVerdict of_y answer
  same_verdict answer is =
      moved x y graph vectors same (λ d. IsVerdict d answer) (verdict_with of_x closed y same answer is)

  pub same_promise : (k n s : ℕ) → n < nodes graph → s < x.states → Promise of_x k n s → Promise of_y k n s
  same_promise k n s nl sl promise =
      moved x y graph vectors same (λ d. Promise d k n s) (promise_same of_x closed y same k n s nl sl promise)

  pub same_rewards : (k n s : ℕ) → n < nodes graph → s < x.states → RewardPromise of_x k n s → RewardPromise of_y k n s
  same_rewards k n s nl sl promise =
      moved x y graph vectors same (λ d. RewardPromise d k n s) (reward_promise_same of_x closed y same k n s nl sl promise)

  pub same_horizon : (answer : Verdict) → IsVerdict of_x answer → MeetsHorizon of_x answer → MeetsHorizon of_y answer
  same_horizon answer is meets =
      moved x y graph vectors same (λ d. MeetsHorizon d answer) (horizon_with of_x closed y same answer is meets)

  pub same_passes : Passes of_x → Passes of_y
  same_passes passes = moved x y graph vectors same Passes (passes_same of_x closed y same passes)

  pub same_least_constant : (constant : ℤ) → IsLeastConstant of_x vectors constant → IsLeastConstant of_y vectors constant
  same_least_constant constant least =
      moved x y graph vectors same (λ d. IsLeastConstant d vectors constant)
      (least_move_with of_x closed y same (CanLower vectors) constant least)

  pub same_refused : (fault : LowerFault) → IsNotLowered of_x vectors fault → IsNotLowered of_y vectors fault
  same_refused fault refused =
      moved x y graph vectors same (λ d. IsNotLowered d vectors fault) (not_mended_with of_x closed y same (CanLower vectors) fault refused)
