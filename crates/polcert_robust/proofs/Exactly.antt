-- If every model near a model passes, every pair passes in the worst case.
use Rattle.std.proofs.lemmas.Bool.{cases_lt}
use Rattle.std.proofs.Common.{◌≡◌, ℕ, zero, suc, ◌+◌, ◌*◌, ◌<◌, ◌≤◌, ◌⊎◌, inl, inr, ℤ, pos, ◌-ℤ◌, ◌+ℤ◌, ◌*ℤ◌, ◌≤ℤ◌, refl, arith}
use Rattle.std.proofs.lemmas.Int.{by_lt_z}
use Rattle.std.proofs.Math.Nat.{mul-le-mul_left}
use Rattle.polcert_cells.specs.Meaning.{sum_below}
use Rattle.polcert_cells.specs.Tables.{CellTable, IsProper}
use Rattle.polcert_check.specs.Horizon.{Controller, one}
use Rattle.polcert_check.specs.Shortfall.{Passes}
use Rattle.polcert_check.proofs.Sums.Ring.{linear, one-*ℤ}
use Rattle.polcert_robust.specs.Intervals.{IntervalTable, IsBetween, LiesWithin, around, low_of, high_of, spread_of}
use Rattle.polcert_robust.specs.Worst.{IsWorstRow, IsWorstStep, MayLack, IsRobust, mean, least_step_worth, worst_backing, within_model}
use Rattle.polcert_robust.proofs.Refuting.{pick, refutes}
use Rattle.polcert_robust.proofs.Found.{sum_le, found}
use Rattle.polcert_robust.proofs.Step.{some_product, left_some, right_some}
use Rattle.polcert_robust.specs.declared.distance.Spread.{Spread}

-- ---- a weight lies in its own interval
pub low_le : (by : Spread) (w : ℕ) → low_of by w ≤ w
low_le by w = omega arith

pub high_ge : (by : Spread) (w : ℕ) → w ≤ high_of by w
high_ge by w = pick (λ (k : ℕ). w ≤ k) w 0 0 (w + (spread_of by w)) (λ e. omega arith) (omega arith)

pub high_some : (by : Spread) (w : ℕ) → 0 < high_of by w → 0 < w
high_some by zero h = absurd (omega arith)
high_some by (suc w) h = omega arith

pub ends_ordered : (by : Spread) (w : ℕ) → low_of by w ≤ high_of by w
ends_ordered by w = omega (arith, high_ge by w)

times_le : (a b k : ℕ) → a ≤ b → a * k ≤ b * k
times_le a b k l = omega (arith, mul-le-mul_left k l)

between : (by : Spread) (w scale : ℕ) → IsBetween (low_of by w) (high_of by w) scale w scale
between by w scale = record { from = times_le _ w scale (low_le by w); to = times_le w _ scale (high_ge by w) }

pub lies_around : (x : CellTable) (t_by o_by : Spread) (r_by : ℕ) → IsProper x → LiesWithin (around x t_by o_by r_by) 1 x
lies_around x t_by o_by r_by proper = record {
  states = refl;
  actions = refl;
  observations = refl;
  discount = refl;
  rows = proper;
  t = λ a s e al sl el. between t_by _ _;
  o = λ a e z al el zl. between o_by _ _;
  r = λ a s e z al sl el zl. (
    omega (arith, linear, one-*ℤ ((x.r a s e z) -ℤ pos r_by)),
    omega (arith, linear, one-*ℤ ((x.r a s e z) +ℤ pos r_by)),
  );
}

-- ---- a worst row around a row
pub around_row : (w : ℕ → ℕ) (by : Spread) (scale count : ℕ) (x : ℕ → ℤ) → sum_below w count ≡ scale
    → (row : ℕ → ℕ) × IsWorstRow (λ j. low_of by (w j)) (λ j. high_of by (w j)) scale count x row
around_row w by scale count x sums =
    found _ _ scale count x (λ j l. ends_ordered by (w j))
    (rw (← sums) (sum_le _ w count (λ j l. low_le by (w j))))
    (rw (← sums) (sum_le w _ count (λ j l. high_ge by (w j))))

-- ---- every pair
pub only_then : (x : CellTable) (c : Controller) (t_by o_by : Spread) (r_by : ℕ) → IsProper x
    → ((n : ℕ) → n < c.nodes → c.action n < x.actions)
    → ((m : CellTable) → LiesWithin (around x t_by o_by r_by) 1 m → Passes (within_model c 1 m)) → IsRobust (around x t_by o_by r_by) c
only_then x c t_by o_by r_by proper known passes n s nl sl =
    record { lacks_none = lacks_none; seen = seen; ends = _; worst = worst; not_short = not_short }
  where
    i : IntervalTable
    i = around x t_by o_by r_by

    a : ℕ
    a = c.action n

    al : a < x.actions
    al = known n nl

    itself : LiesWithin (around x t_by o_by r_by) 1 x
    itself = lies_around x t_by o_by r_by proper

    lacks_none : (z : ℕ) → z < x.observations → MayLack (around x t_by o_by r_by) c n s z → ⊥
    lacks_none z zl lack =
        let (none, (e, el, some)) = lack in
        (passes x itself n s nl sl).lacks_none z zl (
          none,
          (
            e,
            el,
            some_product _ _ (high_some t_by _ (left_some _ _ some)) (high_some o_by _ (right_some _ _ some)),
          ),
        )

    -- the worst row of an end state that is in range
    seen_found : (e : ℕ) → e < x.states → (row : ℕ → ℕ)
        × IsWorstRow (λ z. low_of o_by (x.o a e z)) (λ z. high_of o_by (x.o a e z)) x.o_scale x.observations (least_step_worth i c n s e)
        row
    seen_found e el = around_row _ o_by _ _ _ (proper.o_rows a e al el)

    seen_or : (e : ℕ) → (e < x.states) ⊎ (x.states ≤ e) → ℕ → ℕ
    seen_or e (inl el) = (seen_found e el).0
    seen_or e (inr beyond) = λ z. 0

    seen : ℕ → ℕ → ℕ
    seen e = seen_or e (cases_lt e _)

    seen_or_worst : (e : ℕ) → e < x.states → (k : (e < x.states) ⊎ (x.states ≤ e))
        → IsWorstRow (λ z. low_of o_by (x.o a e z)) (λ z. high_of o_by (x.o a e z)) x.o_scale x.observations (least_step_worth i c n s e)
        (seen_or e k)
    seen_or_worst e el (inl k) = (seen_found e k).1
    seen_or_worst e el (inr beyond) = absurd (omega arith)

    ends_found : (row : ℕ → ℕ) × IsWorstRow (λ e. low_of t_by (x.t a s e)) (λ e. high_of t_by (x.t a s e)) x.t_scale x.states
        (λ e. mean (seen e) (least_step_worth i c n s e) x.observations) row
    ends_found = around_row _ t_by _ _ _ (proper.t_rows a s al sl)

    worst : IsWorstStep (around x t_by o_by r_by) c n s seen ends_found.0
    worst = record { seen_worst = λ e el. seen_or_worst e el _; ends_worst = ends_found.1 }

    not_short : (pos (x.t_scale * x.o_scale * one) *ℤ c.value n s) ≤ℤ worst_backing (around x t_by o_by r_by) c n s seen ends_found.0
    not_short =
        by_lt_z _ _
        (λ less. let (worse, lies, fails) = refutes _ c x itself refl refl n s al sl seen _ worst less in
        absurd (fails (passes worse lies n s nl (omega arith))))
        (λ le. le)
