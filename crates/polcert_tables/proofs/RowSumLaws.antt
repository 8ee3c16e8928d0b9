-- Row sums: those of all tables, by what is known of each table.
use Rattle.std.proofs.Common.{◌≡◌, ◌∙◌, ℕ, ◌*◌, ◌<◌, ◌==◌, Bool, true, false, cond, List, [], ◌∷◌, sym, ap, subst, rules}
use Rattle.polcert_tables.proofs.Common.{Entry, Table, Transition, count_of, Preamble, is_mdp, observed, weight, HasProperRows, states_of}
use Rattle.polcert_tables.proofs.Common.{observations_of, sum_below, Kept, IsKeptOf}
use Rattle.polcert_cells.specs.declared.entries.Table.TheVariants.{Observation}
use Rattle.polcert_tables.specs.Kept.{kept_meaning}
use Rattle.polcert_cells.specs.Numbers.{one}
use Rattle.polcert_cells.specs.Rows.{IsFirstWrongRow}
use Rattle.polcert_cells.specs.Steps.Drafts as drafts
use Rattle.polcert_rules.specs.declared.rows.WrongRow.{WrongRow}
use Rattle.polcert_rules.specs.RowTables.{AreProperRows, IsFirstWrongEntryRow}
use Rattle.polcert_rules.proofs.RowLaws.SumLaws.{sum_same}
use Rattle.polcert_tables.specs.Steps.RowSums.{AreProperObservations}
use Rattle.polcert_tables.proofs.KeptLaws.{AreFew, kept_same, sum_of_one, states_seen}

-- ---- the rows of O
pub of_observations : (p : Preamble) (entries : List Entry) → is_mdp p ≡ false → AreProperRows p entries Observation
    → AreProperObservations p entries
of_observations p entries pomdp h a e i j =
    subst (λ b. sum_below (λ z. cond b (cond (e == z) (one * count_of p.states) 0) (weight p entries Observation (a ∷ e ∷ z ∷ [])))
    (count_of (observed p)) ≡ one * count_of (observed p)) (sym pomdp) (h a e i j)

pub of_end_states : (p : Preamble) (entries : List Entry) → is_mdp p ≡ true → AreProperObservations p entries
of_end_states p entries mdp a e i j =
    let seen = states_seen p mdp in
    subst (λ b. sum_below (λ z. cond b (cond (e == z) (one * count_of p.states) 0) (weight p entries Observation (a ∷ e ∷ z ∷ [])))
    (count_of (observed p)) ≡ one * count_of (observed p)) (sym mdp)
    (sum_of_one (count_of (observed p)) (one * count_of p.states) e (subst (λ n. e < n) seen j) ∙ ap (λ n. one * n) seen)

-- ---- the rows of all tables
abbrev O_sums : drafts.Draft → ℕ → ℕ → Bool → Type 0
O_sums d a e b =
    sum_below (λ z. cond b (cond (e == z) (one * count_of d.preamble.states) 0) (weight d.preamble d.entries Observation (a ∷ e ∷ z ∷ [])))
    (count_of (observed d.preamble)) ≡ one * count_of (observed d.preamble)

module _ (d : drafts.Draft) where
  pub kept_proper : (k : Kept) → AreFew k.preamble → IsKeptOf d k → AreProperRows d.preamble d.entries Transition
      → AreProperObservations d.preamble d.entries → HasProperRows (kept_meaning k)
  kept_proper k few kept t o =
      let same = kept_same d k few kept in
      record {
        transitions = λ a s i j. sum_same _ _ (states_of (kept_meaning k)) (λ c l. same.t a s c i j l)
            ∙ rw kept.preamble (t a s (rw kept.preamble at i) (rw kept.preamble at j));
        observations = λ a e i j. sum_same _ _ (observations_of (kept_meaning k)) (λ c l. same.o a e c i j l)
            ∙ rw kept.preamble (o a e (rw kept.preamble at i) (rw kept.preamble at j));
      }

  -- ---- the first row that is wrong
  pub wrong_transition : (w : WrongRow) → IsFirstWrongEntryRow d.preamble d.entries Transition w
      → IsFirstWrongRow (drafts.draft_meaning d) w.table w.action w.row
  wrong_transition w h = rw h.table_is (search rules)

  pub wrong_observation : (w : WrongRow) → AreProperRows d.preamble d.entries Transition → is_mdp d.preamble ≡ false
      → IsFirstWrongEntryRow d.preamble d.entries Observation w
      → IsFirstWrongRow (drafts.draft_meaning d) w.table w.action w.row
  wrong_observation w t pomdp h = subst (λ (u : Table). IsFirstWrongRow (drafts.draft_meaning d) u w.action w.row) (sym h.table_is)
      (record {
        action = h.action;
        state = h.state;
        wrong = λ p. h.wrong (subst (O_sums d w.action w.row) pomdp p);
        before = record {
          earlier_actions = λ b r i j. subst (O_sums d b r) (sym pomdp) (h.earlier_actions b r i j);
          same_action = λ r i. subst (O_sums d w.action r) (sym pomdp) (h.same_action r i);
        };
        after_transitions = t;
      })
