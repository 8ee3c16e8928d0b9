-- Three texts have one verdict in every model near the first's.
use Rattle.std.proofs.Common.{◌≡◌, ℕ, ◌<◌, pos, ◌-ℤ◌, ℤ, List, ap, subst, arith}
use Rattle.polcert_cells.specs.Meaning.{HasLimitedNumbers, o_scale, t_scale}
use Rattle.polcert_cells.specs.Preamble.{Preamble}
use Rattle.polcert_model.proofs.LimitLaws.{within_limits}
use Rattle.polcert_check.specs.declared.survey.Verdict.{Verdict}
use Rattle.polcert_answer.specs.Headline.{controller}
use Rattle.polcert_answer.proofs.Denoted.{controller_proper, graph_is, of_each}
use Rattle.polcert_robust.specs.Intervals.{high_of, low_of}
use Rattle.polcert_robust.specs.RobustVerdict.{IsRobustVerdict}
use Rattle.polcert_robust.proofs.OneVerdict.{one_verdict}
use Rattle.polcert_robust.proofs.SameVerdicts.{verdict_same}
use Rattle.polcert_robust_answer.specs.Near.{HasNearVerdict, near_below}
use Rattle.polcert_robust_answer.proofs.Common.{CellTable, Controller, IntervalTable, IsSame, Meaning, PolicyGraph, PolicyVectors, Within}
use Rattle.polcert_robust_answer.proofs.Common.{controller_of, models_near, table_of}

scales_some : (m : Meaning) → HasLimitedNumbers m → (0 < t_scale m) × (0 < o_scale m)
scales_some m limits = (omega (arith, limits.states.0), omega (arith, limits.observations.0))

module _ (w : Within) (m : Meaning) (g : PolicyGraph) (v : PolicyVectors) where
  abbrev c : Controller
  c = controller_of (table_of m) g v

  abbrev cells : Meaning → Preamble → CellTable
  cells n p = table_of (record n { preamble = p })

  abbrev i : Meaning → IntervalTable
  i n = models_near w (cells n m.preamble)

  same_near : (n : Meaning) → IsSame m n → ((k : ℕ) → k < c.nodes → c.action k < c.cells.actions) → (u : Verdict)
      → IsRobustVerdict (models_near w (table_of m)) c u → IsRobustVerdict (models_near w (table_of n)) (controller_of (table_of n) g v) u
  same_near n same actions u is =
      subst (λ p. IsRobustVerdict (models_near w (cells n p)) (controller_of (cells n p) g v) u) same.preamble
      (verdict_same (models_near w (table_of m)) c (cells n m.preamble) (i n).t_low (i n).t_high (i n).o_low (i n).o_high (i n).r_low
      (i n).r_high actions
      (λ a s e al sl el. (ap (low_of _) (same.t a s e al sl el), ap (high_of _) (same.t a s e al sl el)))
      (λ a e z al el zl. (ap (low_of _) (same.o a e z al el zl), ap (high_of _) (same.o a e z al el zl)))
      (λ a s e z al sl el zl. ap (λ (r : ℤ). r -ℤ pos w.rewards_by) (same.r a s e z al sl el zl)) u is)

pub one_near_verdict : (w : Within) (model graph vectors : List ℕ) (x y : Verdict) (k l : List ℕ)
    → HasNearVerdict near_below w x k model graph vectors → HasNearVerdict near_below w y l model graph vectors → x ≡ y
one_near_verdict w model graph vectors x y k l h g =
    let a = h.certificate in
    let b = g.certificate in
    let some = scales_some b.meaning (within_limits b.is_model.lexemes b.meaning b.is_model.denotes) in
    one_verdict (models_near w (table_of b.meaning)) (controller b) some.0 some.1 x y
    (of_each a.meaning a.policy a.values (graph_is a) a.are_vectors
    (λ n p u. IsRobustVerdict (models_near w (table_of n)) (controller_of (table_of n) p u) x)
    (λ n same. same_near w a.meaning a.policy a.values n same (controller_proper a).closed.actions_in_range x h.verdict_is) b)
    g.verdict_is
