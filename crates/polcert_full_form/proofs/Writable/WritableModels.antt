-- The full form of a model that is not too large to print is a text of that model.
use Rattle.std.proofs.Common.{◌≡◌, ◌∙◌, ℕ, ◌/◌, ◌%◌, ◌<◌, ◌≤◌, ◌⊎◌, ⊎_elim, inl, inr, Bool, true, false, cond, Some, [], refl}
use Rattle.std.proofs.Common.{ap, unsigned_abs, length, arith}
use Rattle.std.proofs.Math.Nat.{mul-mod_left, mod-add-div'}
use Rattle.polcert_full_form.proofs.Common.{text_limit, largest, Observation, most_states, most_actions, most_observations}
use Rattle.polcert_full_form.proofs.Common.{Preamble, is_mdp, ForSome, Meaning, meaning_of, states_of, actions_of, observations_of, IsSame}
use Rattle.polcert_full_form.proofs.Common.{HasProperRows, HasLimitedNumbers, nothing_known, IsModelText, IsPrintable, for_each, row_text}
use Rattle.polcert_full_form.proofs.Common.{written, is_choice, transitions_text, observations_text, rewards_text, full_form, one}
use Rattle.polcert_full_form.proofs.Common.{IsMillionthsStart, IsEndObserved, IsWritable, Elements}
use Rattle.polcert_format.specs.Writable.{HasProperNames, IsWritableWeight}
use Rattle.polcert_tables.specs.Contents.{Contents}
use Rattle.polcert_tables.specs.Kept.{Kept, kept_meaning}
use Rattle.polcert_cells.proofs.Basics.{true≢false}
use Rattle.polcert_full_form.proofs.Writable.Printable.{HasRoom}
use Rattle.polcert_full_form.proofs.Printing.PrintedItems.{Prints, prints_then, text_from_items}
use Rattle.polcert_full_form.proofs.Printing.PrintedEntries.{known_of, complete, PrintsEntries, no_entries, entries_each}
use Rattle.polcert_full_form.proofs.Printing.PrintedPreamble.{AreWritable, preamble_prints}
use Rattle.polcert_full_form.proofs.Printing.PrintedStart.{start_prints}
use Rattle.polcert_full_form.proofs.Denoting.RowEntries.{Fits, same_or_other, transition_rows, observation_rows}
use Rattle.polcert_full_form.proofs.Printing.PrintedRows.{row_prints, from_prints}
use Rattle.polcert_full_form.proofs.Denoting.ModelEntries.{transition_entries, seen_entries, observation_entries, rewards_entries}
use Rattle.polcert_full_form.proofs.Denoting.ModelEntries.{all_entries, transition_back, observation_back, reward_again}
use Rattle.polcert_full_form.proofs.Writable.FormLength.{form_short}

-- What has to be known of a model, beside that it is not too large, for its full form to be a text.
pub record CanBeWritten (m : Meaning) : Type 0 where
  pub limits : HasLimitedNumbers m
  pub rows : HasProperRows m
  pub states : AreWritable most_states m.preamble.states
  pub actions : AreWritable most_actions m.preamble.actions
  pub observations : ForSome m.preamble.observations (AreWritable most_observations)
  pub start : (is_choice m.start ≡ true) ⊎ IsMillionthsStart (states_of m) m.start
  pub t : (a s e : ℕ) → a < actions_of m → s < states_of m → e < states_of m → Fits (states_of m) (m.t a s e)
  pub o : (a e z : ℕ) → a < actions_of m → e < states_of m → z < observations_of m → Fits (observations_of m) (m.o a e z)
  pub mdp : is_mdp m.preamble ≡ true → IsEndObserved m

module _ (m : Meaning) (w : CanBeWritten m) (printable : IsPrintable m.preamble) where
  abbrev p : Preamble
  p = m.preamble

  room : HasRoom p
  room = grind arith

  small : (a s e z : ℕ) → a < actions_of m → s < states_of m → e < states_of m → z < observations_of m
      → unsigned_abs (written p.costs (m.r a s e z)) ≤ largest
  small a s e z l k d x = grind arith

  transitions_print : PrintsEntries p m.start room (transitions_text m) (transition_entries m)
  transitions_print =
      entries_each p _ room _ _ _ (λ a l. entries_each p _ room _ _ _ (λ s k.
      row_prints p _ room w.limits.actions.1 w.limits.states.1 _ a s _ _ (transition_rows p) l k
      w.limits.states.0 w.limits.states.1 (λ c. w.limits.t a s c l k)))

  observations_print : PrintsEntries p m.start room (observations_text m) (observation_entries m)
  observations_print = at (is_mdp p) refl
    where
      at : (b : Bool) → is_mdp p ≡ b → PrintsEntries p m.start room
          (cond b [] (for_each (actions_of m) (λ a. for_each (states_of m) (λ e. row_text Observation a e (observations_of m) (m.o a e)))))
          (cond b [] (seen_entries m))
      at true mdp = no_entries p _ room
      at false seen =
          entries_each p _ room _ _ _ (λ a l. entries_each p _ room _ _ _ (λ e k.
          row_prints p _ room w.limits.actions.1 w.limits.states.1 _ a e _ _
          (observation_rows p seen) l k w.limits.observations.0 w.limits.observations.1 (λ c. w.limits.o a e c l k)))

  all_rewards_print : PrintsEntries p m.start room (rewards_text m) (rewards_entries m)
  all_rewards_print =
      entries_each p _ room _ _ _ (λ a l. entries_each p _ room _ _ _ (λ s k.
      from_prints p _ room w.limits.actions.1 w.limits.states.1 _ a s _ _ _ refl l k
      refl refl w.limits.states.0 w.limits.observations.0 (λ e z. small a s e z l k)))

  all_print : Prints (full_form m) nothing_known (known_of p m.start (all_entries m))
  all_print =
      let t = transition_entries m in
      let o = observation_entries m in
      prints_then _ _ _ _ _
      (prints_then _ _ _ _ _
      (prints_then _ _ _ _ _
      (prints_then _ _ _ _ _
      (preamble_prints m w.limits.discount w.states w.actions w.observations)
      (start_prints p _ room w.limits.states.1 w.limits.start_count w.limits.start_sum w.limits.start_some w.start))
      (transitions_print []))
      (observations_print t))
      (all_rewards_print _)

  same_again : IsSame m (meaning_of p (Some m.start) (all_entries m))
  same_again = grind (arith, transition_back, observation_back, reward_again)

  pub printed_short : length (full_form m) < text_limit
  printed_short = form_short m w.limits printable w.states w.actions w.observations small

  pub written_reads_back : IsModelText (full_form m) m
  written_reads_back =
      text_from_items _ m p _ (omega (arith, printed_short)) all_print
      (complete p _ _ room) same_again w.rows

-- ---- what a model keeps can be written
weight_there : (n w : ℕ) → Fits n w → IsWritableWeight n w
weight_there n w f other = ⊎_elim (λ e. absurd (other e)) (λ m. ap (λ k. k % n) m.1 ∙ mul-mod_left m.0 n) f

weight_back : (n w : ℕ) → IsWritableWeight n w → Fits n w
weight_back n w f = ⊎_elim inl (λ other. let none = f other in let all = mod-add-div' w n in inr (w / n, omega arith)) (same_or_other w one)

pub kept_writes : (d : Kept) → HasProperRows (kept_meaning d) → HasLimitedNumbers (kept_meaning d) → IsWritable (kept_meaning d)
    → CanBeWritten (kept_meaning d)
kept_writes d rows limits w = grind (arith, weight_back)

pub kept_reads_back : (c : Contents) → IsPrintable c.kept.preamble → IsModelText (full_form (kept_meaning c.kept)) (kept_meaning c.kept)
kept_reads_back c = written_reads_back _ (kept_writes c.kept c.rows c.limits c.writable)

pub kept_short : (c : Contents) → IsPrintable c.kept.preamble → length (full_form (kept_meaning c.kept)) < text_limit
kept_short c = printed_short _ (kept_writes c.kept c.rows c.limits c.writable)

named : (most : ℕ) (e : Elements) → AreWritable most e → HasProperNames e
named most e h1 = grind arith

pub written_writable : (m : Meaning) → CanBeWritten m → IsWritable m
written_writable m c = record {
  states = grind arith;
  actions = grind arith;
  observations = λ e is. named _ e (c.observations e is);
  start = λ no. ⊎_elim (λ yes. absurd (true≢false yes no)) (λ x. x) c.start;
  t = λ a s e i j k. weight_there _ _ (c.t a s e i j k);
  o = λ a e z i j k. weight_there _ _ (c.o a e z i j k);
  mdp = c.mdp;
}
