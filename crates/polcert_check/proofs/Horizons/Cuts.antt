-- A run that is cut weighs nothing where no pair lacks an observation.
use Rattle.std.proofs.Common.{◌≡◌, ℕ, ◌*◌, ◌<◌, true, List, [], ◌∷◌, Option, Some, refl, arith, length}
use Rattle.polcert_check.proofs.Common.{All-weaker, Controller, step_weight, runs, is_cut, run_weight, IsRunInRange, Promise, Lacks, Passes}
use Rattle.polcert_check.proofs.Common.{IsController}
use Rattle.polcert_check.proofs.Horizons.Kept.{LacksNone, LacksNone-from_Passes, worth_all}
use Rattle.polcert_check.proofs.Horizons.Enumerated.{All-runs}

module _ (c : Controller) where
  cut_after : (n s e z : ℕ) (run : List (ℕ × ℕ)) → (Lacks c n s z → ⊥) → e < c.cells.states → (at : Option ℕ)
      → c.next n z ≡ at → ((m : ℕ) → c.next n z ≡ Some m → is_cut c (Some m) run ≡ true → run_weight c (Some m) e run ≡ 0)
      → is_cut c at run ≡ true
      → step_weight c n s e z * run_weight c at e run ≡ 0
  cut_after n s e z run h1 h2 at h3 h4 h5 = grind arith

  pub cut_weighs_nothing : IsController c → LacksNone c → (run : List (ℕ × ℕ)) (n s : ℕ) → n < c.nodes
      → s < c.cells.states
      → IsRunInRange c.cells run → is_cut c (Some n) run ≡ true → run_weight c (Some n) s run ≡ 0
  cut_weighs_nothing p fine [] n s nl sl f cut = cc
  cut_weighs_nothing p fine (q ∷ run) n s nl sl f cut =
      cut_after n s q.0 q.1 run (fine n s q.1 nl sl f.1) f.0 (c.next n q.1) refl
      (λ m is. cut_weighs_nothing p fine run m q.0 (p.closed.next_in_range n q.1 m nl f.1 is) f.0 f.2) cut

  -- the promise, for every number of steps
  pub promise_all : IsController c → Passes c → (k n s : ℕ) → n < c.nodes → s < c.cells.states → Promise c k n s
  promise_all p passes k n s nl sl =
      record {
        cut_runs = All-weaker (λ run. (length run ≡ k) × IsRunInRange c.cells run)
            (λ run. is_cut c (Some n) run ≡ true → run_weight c (Some n) s run ≡ 0)
            (λ run f. cut_weighs_nothing p (LacksNone-from_Passes c passes) run n s nl sl f.1) (runs c.cells k) (All-runs c.cells k);
        uncut_runs = worth_all c p passes k n s nl sl;
      }
