-- Rows as they are built, action by action and state by state.
use Rattle.std.proofs.Common.{◌≡◌, ◌∙◌, ℕ, ◌+◌, ◌-◌, ◌*◌, ◌<◌, ⊎_elim, true, List, [], ◌∷◌, ◌++◌, length, get_or, slice_index}
use Rattle.std.proofs.Common.{slice_index_or, All, sym, ap, subst, arith}
use Rattle.polcert_rules.proofs.Common.{cases_lt, get_or_append_left, get_or_default, All-push, get_or_from_slice_get, Cell, Preamble}
use Rattle.polcert_rules.proofs.Common.{weight, IsSparse, IsRow, key_base, Rule, IsRising, IsIndexOf, IsSplit, zeros_of, others_of}
use Rattle.polcert_rules.proofs.Common.{wholes_of, sum_of_weights, one, others_in, IsWeighted, IsShapeOf, AreSound, IsKeptRow, Stays}
use Rattle.polcert_rules.proofs.Common.{AreLine, AreLines}
use Rattle.std.proofs.lemmas.List.{length-append}
use Rattle.polcert_rules.specs.Steps.Sources.{AreIndexedEntries, weights_at, HasScale, HasRows, HaveScale, IsFirstWrongIn}
use Rattle.std.proofs.Math.Seq.{get_or-append_seam}
use Rattle.polcert_cells.proofs.SparseLaws.{row_same}
use Rattle.polcert_rules.specs.declared.rows.TableEntries.{TableEntries}
use Rattle.polcert_rules.specs.declared.rows.WrongRow.{WrongRow}
use Rattle.polcert_rules.specs.RowTables.{GivesProperRow, AreProperRows, IsFirstWrongEntryRow}
use Rattle.polcert_rules.specs.Steps.Repeats.{IsAsBefore}
use Rattle.polcert_rules.proofs.RowLaws.SumLaws.{sum_is, sum_same}
use Rattle.polcert_rules.specs.Steps.Rows.{AreExact}
use Rattle.polcert_rules.proofs.RowLaws.SplitLaws.{split_is}
use Rattle.polcert_rules.proofs.RowLaws.RepeatLaws.{as_named}
use Rattle.polcert_rules.proofs.RowLaws.SoundRows.{sound_within, weight_is}
use Rattle.polcert_rules.proofs.Indexes.KeptLaws.{at_number, numbers_stay, row_within}

module _ (given : TableEntries) where
  abbrev width : ℕ
  width = given.bodies.shape.columns

  kept_stays : (f : ℕ → ℕ) (old new : List (List Cell)) (n : ℕ) → Stays old new → IsKeptRow width f old n → IsKeptRow width f new n
  kept_stays f old new n stays k = record { row = _; is = stays n _ k.is; each = k.each }

  -- ---- the rows of an action
  pub line_none : (a : ℕ) (rows : List (List Cell)) (numbers : List ℕ) → numbers ≡ [] → AreLine given a 0 rows numbers
  line_none a rows numbers e = grind arith

  pub line_stays : (a count : ℕ) (old new : List (List Cell)) (numbers : List ℕ) → Stays old new → AreLine given a count old numbers
      → AreLine given a count new numbers
  line_stays a count old new numbers stays h = record {
    size = h.size;
    within = numbers_stay _ old new stays h.within;
    each = λ s l. kept_stays _ old new _ stays (h.each s l);
    proper = h.proper;
  }

  pub line_more : (a s n : ℕ) (old new : List (List Cell)) (numbers longer : List ℕ) → AreLine given a s old numbers → Stays old new
      → IsKeptRow width (weights_at given a s) new n → HasScale given a s
      → longer ≡ numbers ++ n ∷ [] → AreLine given a (s + 1) new longer
  line_more a s n old new numbers longer h stays here scale e =
      let now = line_stays a s old new _ stays h in
      record {
        size = ap length e ∙ length-append _ _ ∙ ap (λ k. k + 1) h.size;
        within = subst (λ xs. All (λ n. n < length new) xs) (sym e)
            (All-push (λ n. n < length new) _ n now.within (row_within _ _ new n here));
        each = λ t l. ⊎_elim (old_row now.each t) (λ ge. new_row t (omega arith)) (cases_lt t s);
        proper = λ t l. ⊎_elim (h.proper t) (λ ge. subst (HasScale given a) (omega arith) scale) (cases_lt t s);
      }
    where
      old_row : ((t : ℕ) → t < s → IsKeptRow width (weights_at given a t) new (slice_index numbers t)) → (t : ℕ) → t < s
          → IsKeptRow width (weights_at given a t) new (slice_index longer t)
      old_row each t less = grind (arith, get_or_append_left)

      new_row : (t : ℕ) → t ≡ s → IsKeptRow width (weights_at given a t) new (slice_index longer t)
      new_row t at = grind (arith, get_or-append_seam)

  -- the row of a state, as callers see it
  pub line_row : (a s count : ℕ) (rows : List (List Cell)) (numbers : List ℕ) → AreLine given a count rows numbers
      → All (IsSparse width) rows → s < count
      → IsRow width (weights_at given a s) (slice_index_or rows (slice_index numbers s) [])
  line_row a s count rows numbers h sparse l =
      let k = h.each s l in
      subst (λ xs. IsRow width (weights_at given a s) xs) (sym (get_or_from_slice_get rows (slice_index numbers s) k.row [] k.is))
      (record { sparse = at_number (IsSparse width) rows _ _ sparse k.is; each = k.each })

  -- it sums to its scale
  pub line_scale : (a s count : ℕ) (rows : List (List Cell)) (numbers : List ℕ) → AreLine given a count rows numbers
      → All (IsSparse width) rows → s < count
      → sum_of_weights (slice_index_or rows (slice_index numbers s) []) ≡ one * width
  line_scale a s count rows numbers h sparse l =
      let row = line_row a s _ rows _ h sparse l in
      sum_is _ _ row.sparse ∙ sum_same _ _ _ row.each ∙ h.proper s l

  -- ---- the rows of the first actions
  pub lines_none : (rows : List (List Cell)) (numbers : List (List ℕ)) → numbers ≡ [] → AreLines given 0 rows numbers
  lines_none rows numbers e = record { size = ap length e; each = λ a l. absurd (omega arith) }

  pub lines_more : (a : ℕ) (old new : List (List Cell)) (numbers longer : List (List ℕ)) (line : List ℕ) → AreLines given a old numbers
      → Stays old new → AreLine given a given.bodies.shape.states new line
      → longer ≡ numbers ++ line ∷ [] → AreLines given (a + 1) new longer
  lines_more a old new numbers longer line h stays here e = record {
    size = ap length e ∙ length-append _ _ ∙ ap (λ k. k + 1) h.size;
    each = λ b l. ⊎_elim (old_line b) (λ ge. new_line b (omega arith)) (cases_lt b a);
  }
    where
      old_line : (b : ℕ) → b < a → AreLine given b given.bodies.shape.states new (slice_index_or longer b [])
      old_line b less =
          subst (AreLine given b given.bodies.shape.states new)
          (sym (ap (λ (xs : List (List ℕ)). get_or xs b []) e ∙ get_or_append_left numbers (line ∷ []) [] b (omega arith)))
          (line_stays b _ old new _ stays (h.each b less))

      new_line : (b : ℕ) → b ≡ a → AreLine given b given.bodies.shape.states new (slice_index_or longer b [])
      new_line b at = grind (arith, get_or-append_seam)

  pub all_within : (count : ℕ) (rows : List (List Cell)) (numbers : List (List ℕ)) → AreLines given count rows numbers
      → All (HasRows given.bodies.shape.states (length rows)) numbers
  all_within count rows numbers h k d l = grind (arith, get_or_default)

  pub all_scale : (count : ℕ) (rows : List (List Cell)) (numbers : List (List ℕ)) → count ≡ given.bodies.shape.actions
      → AreLines given count rows numbers → All (IsSparse width) rows → HaveScale given.bodies.shape rows numbers
  all_scale count rows numbers e h sparse a s l m = line_scale a s _ rows _ (h.each a (omega (arith, e, l))) sparse m

  -- ---- an action that no entry tells from the one before
  module _ (sound : AreIndexedEntries given) where
    pub line_before : (a : ℕ) (rows : List (List Cell)) (numbers : List ℕ) → IsAsBefore given.index.now given.table a → a + 2 < key_base
        → AreLine given (a - 1) given.bodies.shape.states rows numbers → AreLine given a given.bodies.shape.states rows numbers
    line_before a rows numbers same la h = record {
      size = h.size;
      within = h.within;
      each = λ s l. let k = h.each s l in record { row = _; is = k.is; each = λ c m. k.each c m ∙ as_before s c l m };
      proper = λ s l. sym (sum_same _ _ _ (λ c m. as_before s c l m)) ∙ h.proper s l;
    }
      where
        as_before : (s c : ℕ) → s < given.bodies.shape.states → c < width → weights_at given (a - 1) s c ≡ weights_at given a s c
        as_before s c l m = grind (arith, as_named, sound_within)

    pub lines_before : (a : ℕ) (rows : List (List Cell)) (numbers longer : List (List ℕ)) → IsAsBefore given.index.now given.table a
        → a + 2 < key_base → AreLines given a rows numbers
        → longer ≡ numbers ++ slice_index_or numbers (length numbers - 1) [] ∷ [] → AreLines given (a + 1) rows longer
    lines_before a rows numbers longer same la h e =
        let last = subst (λ n. AreLine given (a - 1) given.bodies.shape.states rows (slice_index_or numbers (n - 1) [])) (sym h.size)
        (h.each (a - 1) (omega (arith, same.some))) in
        lines_more a rows rows _ _ _ h (λ n row i. i)
        (line_before a rows _ same la last) e

    -- ---- sums, under any preamble of the shape
    module _ (p : Preamble) (is : IsShapeOf p given.table given.bodies.shape) where
      pub same_weights : (a s c : ℕ) → weights_at given a s c ≡ weight p given.bodies.entries.now given.table (a ∷ s ∷ c ∷ [])
      same_weights a s c = weight_is sound.preamble _ _ given.bodies.entries.now sound.weighted sound.shape sound.sound.each p a s c is

      pub to_proper : (a s : ℕ) → HasScale given a s → GivesProperRow p given.bodies.entries.now given.table a s
      to_proper a s h = grind (arith, sum_same, same_weights)

      of_proper : (a s : ℕ) → GivesProperRow p given.bodies.entries.now given.table a s → HasScale given a s
      of_proper a s h = grind (arith, sum_same, same_weights)

      pub wrong_row : (a : ℕ) (rows : List (List Cell)) (numbers : List (List ℕ)) (x : WrongRow) → AreLines given a rows numbers
          → a < given.bodies.shape.actions → IsFirstWrongIn given a x
          → IsFirstWrongEntryRow p given.bodies.entries.now given.table x
      wrong_row a rows numbers x h l w =
          let here = w.action_is in
          record {
            table_is = w.table_is;
            action = omega (arith, l, here, is.actions);
            state = omega (arith, w.state, is.states);
            wrong = λ proper. w.wrong (of_proper a _ (subst (λ b. GivesProperRow p given.bodies.entries.now given.table b x.row) here
                proper));
            earlier_actions = λ b r less m. to_proper b r ((h.each b (omega (arith, less, here))).proper r (omega (arith, m, is.states)));
            same_action = λ r less. subst (λ b. GivesProperRow p given.bodies.entries.now given.table b r) (sym here)
                (to_proper a r (w.before r less));
          }

      -- each row of all actions is that of the entries, and proper
      pub lines_rows : (count : ℕ) (rows : List (List Cell)) (numbers : List (List ℕ)) → count ≡ given.bodies.shape.actions
          → AreLines given count rows numbers → All (IsSparse width) rows
          → (a s : ℕ) → a < given.bodies.shape.actions → s < given.bodies.shape.states
          → IsRow width (λ c. weight p given.bodies.entries.now given.table (a ∷ s ∷ c ∷ []))
          (slice_index_or rows (slice_index (slice_index_or numbers a []) s) [])
      lines_rows count rows numbers e h sparse a s l m =
          row_same _ _ _ _ (λ c n. same_weights a s c) (line_row a s given.bodies.shape.states rows (slice_index_or numbers a [])
          (h.each a (omega (arith, e, l))) sparse m)

      pub lines_proper : (count : ℕ) (rows : List (List Cell)) (numbers : List (List ℕ)) → count ≡ given.bodies.shape.actions
          → AreLines given count rows numbers
          → AreProperRows p given.bodies.entries.now given.table
      lines_proper count rows numbers e h a s l m =
          to_proper a s ((h.each a (omega (arith, e, l, is.actions))).proper s (omega (arith, m, is.states)))

-- sound entries, and what is found among them
pub given_is : (given : TableEntries) (rules : List Rule) → IsWeighted given.table → (p : Preamble)
    × IsShapeOf p given.table given.bodies.shape × AreSound p given.bodies.entries.now
    → IsIndexOf given.table given.bodies.entries.now given.index.now → rules ≡ given.index.now → IsRising rules
    → given.split.now.zeros.items ≡ zeros_of given.bodies.entries.now rules
    → others_in given.split.now.others ≡ others_of given.bodies.entries.now rules → given.split.now.wholes.items ≡ wholes_of rules
    → (given.split.now.is_exact ≡ true → AreExact rules)
    → AreIndexedEntries given
given_is given rs weighted sound index same rising zeros others wholes exact = record {
  weighted = weighted;
  preamble = sound.0;
  shape = sound.1;
  sound = sound.2;
  index = index;
  split = subst (λ xs. IsSplit given.bodies.entries.now xs given.split.now) same
      (split_is _ rs given.split.now rising zeros others wholes exact);
}

-- the numbers of the rows so far are those of rows
pub all_below : (given : TableEntries) (count : ℕ) (rows : List (List Cell)) (numbers : List (List ℕ)) → AreLines given count rows numbers
    → All (All (λ n. n < length rows)) numbers
all_below given count rows numbers h k d l = (all_within _ _ rows _ h k d l).1
