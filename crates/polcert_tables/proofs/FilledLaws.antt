-- Cells by their places in filled tables.
use Rattle.std.proofs.Common.{◌≡◌, ◌∙◌, ℕ, ◌+◌, ◌*◌, ◌/◌, ◌%◌, ◌<◌, ◌≤◌, ℤ, pos, List, ◌++◌, ◌∷◌, [], length, get_or, sym, refl, arith}
use Rattle.std.proofs.Common.{rules}
use Rattle.std.proofs.lemmas.Nat.{div-mul-add, mod-mul-add, mul-add-lt}
use Rattle.polcert_tables.proofs.Common.{length_push, most_states, most_actions, most_observations, HasProperRows, table_of, Filled}
use Rattle.polcert_tables.proofs.Common.{filled_table, AddsCells}
use Rattle.std.proofs.lemmas.List.{get_or_push, get_or_append_left}
use Rattle.polcert_cells.specs.Meaning.{Meaning}
use Rattle.polcert_cells.specs.Tables.{CellTable, IsProper, IsWithinLimits}
use Rattle.polcert_tables.specs.Filled.{Lists, AreTransitions, AreObservations, AreRewards}
use Rattle.std.proofs.Math.Nat.{mul-le-mul_left, mul-le-mul_right}
use Rattle.polcert_cells.specs.Meaning as meanings
use Rattle.polcert_cells.specs.SameCells.{HasSameCells}
pub use Rattle.polcert_rules.proofs.RowLaws.SumLaws.{sum_same}

-- the place of this row and column, where so many rows have so many columns
pub place_below : (row column rows columns : ℕ) → row < rows → column < columns → row * columns + column < rows * columns
place_below row column rows columns r c = omega (arith, mul-add-lt row columns column rows r c)

pub place_of_three : (a s e actions starts ends : ℕ) → a < actions → s < starts → e < ends
    → (a * starts + s) * ends + e < actions * starts * ends
place_of_three a s e actions starts ends al sl el =
    place_below (a * starts + s) e (actions * starts) ends (place_below a s actions starts al sl) el

pub place_of_four : (a s e z actions starts ends seen : ℕ) → a < actions → s < starts → e < ends → z < seen
    → ((a * starts + s) * ends + e) * seen + z < actions * starts * ends * seen
place_of_four a s e z actions starts ends seen al sl el zl = search (rules, place_below, place_of_three)

-- counts that a value and its view share
pub record AreSameCounts (l k : Lists) : Type 0 where
  pub actions : l.actions ≡ k.actions
  pub states : l.states ≡ k.states
  pub observations : l.observations ≡ k.observations

pub same_counts : (x y : Filled) → x ≡ y → AreSameCounts x.lists y.lists
same_counts x y e = grind arith

product_le : (a b m n : ℕ) → a ≤ m → b ≤ n → a * b ≤ m * n
product_le a b m n h k = omega (arith, mul-le-mul_right b h, mul-le-mul_left m k)

-- how many places a table of R has at most
pub four_fit : (actions starts ends seen : ℕ) → actions ≤ most_actions → starts ≤ most_states → ends ≤ most_states
    → seen ≤ most_observations → actions * starts * ends * seen ≤ most_actions * most_states * most_states * most_observations
four_fit actions starts ends seen a s e z = search (rules, product_le)

-- one place more is filled
pub filled_next : {X : Type 0} (xs : List X) (f : ℕ → X) (place : ℕ) (x d : X) → length xs ≡ place
    → ((k : ℕ) → k < place → get_or xs k d ≡ f k) → x ≡ f place → (k : ℕ) → k < place + 1 → get_or (xs ++ x ∷ []) k d ≡ f k
filled_next xs f place x d size before here = grind (arith, get_or_push, get_or_append_left)

pub adds_next : (f : ℕ → ℤ) (count : ℕ) (old new : List ℤ) (x : ℤ) → AddsCells f count old new → x ≡ f count
    → AddsCells f (count + 1) old (new ++ x ∷ [])
adds_next f count old new x adds is = grind (arith, get_or_push, get_or_append_left, length_push)

-- one row more is filled
pub row_added : (f : ℕ → ℕ → ℤ) (row columns : ℕ) (old new : List ℤ) → length old ≡ row * columns
    → ((k : ℕ) → k < row * columns → get_or old k (pos 0) ≡ f (k / columns) (k % columns)) → AddsCells (f row) columns old new → (k : ℕ)
    → k < (row + 1) * columns → get_or new k (pos 0) ≡ f (k / columns) (k % columns)
row_added f row columns old new size before adds k l = grind arith

-- cells that are known by place are known by row and column
pub by_row : {X : Type 0} (cell : ℕ → X) (f : ℕ → ℕ → X) (rows columns : ℕ)
    → ((k : ℕ) → k < rows * columns → cell k ≡ f (k / columns) (k % columns)) → (row column : ℕ) → row < rows → column < columns
    → cell (row * columns + column) ≡ f row column
by_row cell f rows columns h row column r c = grind (arith, div-mul-add, mod-mul-add, place_below)

pub by_three : {X : Type 0} (cell : ℕ → X) (f : ℕ → ℕ → ℕ → X) (actions starts ends : ℕ)
    → ((k : ℕ) → k < actions * starts * ends → cell k ≡ f (k / ends / starts) (k / ends % starts) (k % ends)) → (a s e : ℕ) → a < actions
    → s < starts → e < ends → cell ((a * starts + s) * ends + e) ≡ f a s e
by_three cell f actions starts ends h a s e al sl el = grind (arith, div-mul-add, mod-mul-add, place_below)

pub by_four : {X : Type 0} (cell : ℕ → X) (f : ℕ → ℕ → ℕ → ℕ → X) (actions starts ends seen : ℕ)
    → ((k : ℕ) → k < actions * starts * ends * seen → cell k
    ≡ f (k / seen / ends / starts) (k / seen / ends % starts) (k / seen % ends) (k % seen)) → (a s e z : ℕ) → a < actions → s < starts
    → e < ends → z < seen → cell (((a * starts + s) * ends + e) * seen + z) ≡ f a s e z
by_four cell f actions starts ends seen h a s e z al sl el zl =
    by_row cell (λ row column. f (row / ends / starts) (row / ends % starts) (row % ends) column) (actions * starts * ends) seen h
    ((a * starts + s) * ends + e) z (place_of_three a s e actions starts ends al sl el) zl
    ∙ by_three (λ row. f (row / ends / starts) (row / ends % starts) (row % ends) z) (λ action start end. f action start end z) actions
    starts ends (λ k l. refl) a s e al sl el

pub transitions_are : (m : CellTable) (actions states place : ℕ) (ts : List ℕ) → actions ≡ m.actions → states ≡ m.states
    → place ≡ actions * states * states → length ts ≡ place
    → ((k : ℕ) → k < place → get_or ts k 0 ≡ m.t (k / states / states) (k / states % states) (k % states)) → AreTransitions m ts
transitions_are m actions states place ts ea es ep size each =
    record {
      count = rw (sym ea, sym es) (size ∙ ep);
      cells = λ a s e al sl el. rw (sym es) (by_three (λ k. get_or ts k 0) m.t actions states states (λ k l. each k (omega (arith, l, ep)))
          a s e (omega (arith, al, ea)) (omega (arith, sl, es)) (omega (arith, el, es)));
    }

pub observations_are : (m : CellTable) (actions states observations place : ℕ) (os : List ℕ) → actions ≡ m.actions → states ≡ m.states
    → observations ≡ m.observations → place ≡ actions * states * observations → length os ≡ place
    → ((k : ℕ) → k < place → get_or os k 0 ≡ m.o (k / observations / states) (k / observations % states) (k % observations))
    → AreObservations m os
observations_are m actions states observations place os ea es eo ep size each =
    record {
      count = rw (sym ea, sym es, sym eo) (size ∙ ep);
      cells = λ a e z al el zl. rw (sym es, sym eo) (by_three (λ k. get_or os k 0) m.o actions states observations
          (λ k l. each k (omega (arith, l, ep))) a e z (omega (arith, al, ea)) (omega (arith, el, es)) (omega (arith, zl, eo)));
    }

pub rewards_are : (m : CellTable) (actions states observations place : ℕ) (rs : List ℤ) → actions ≡ m.actions → states ≡ m.states
    → observations ≡ m.observations → place ≡ actions * states * states * observations → length rs ≡ place
    → ((k : ℕ) → k < place → get_or rs k (pos 0) ≡ m.r (k / observations / states / states) (k / observations / states % states)
    (k / observations % states) (k % observations)) → AreRewards m rs
rewards_are m actions states observations place rs ea es eo ep size each =
    record {
      count = rw (sym ea, sym es, sym eo) (size ∙ ep);
      cells = λ a s e z al sl el zl. rw (sym es, sym eo) (by_four (λ k. get_or rs k (pos 0)) m.r actions states states observations
          (λ k l. each k (omega (arith, l, ep))) a s e z (omega (arith, al, ea)) (omega (arith, sl, es)) (omega (arith, el, es))
          (omega (arith, zl, eo)));
    }

-- lists that are every cell of a table are that table
pub same_cells : (m : CellTable) (l : Lists) → m.actions ≡ l.actions → m.states ≡ l.states → m.observations ≡ l.observations
    → m.discount ≡ l.discount → IsWithinLimits m → AreTransitions m l.ts → AreObservations m l.os → AreRewards m l.rs
    → HasSameCells m (filled_table l)
same_cells m l ea es eo ed limits ts os rs = grind arith

-- what has the cells of a table has its rows and its limits
pub same_rows : (x y : CellTable) → HasSameCells x y → IsProper x → IsProper y
same_rows x y same proper = record {
  t_rows = λ a s al sl. grind (arith, sum_same (x.t a s) (y.t a s));
  o_rows =
      λ a e al el. grind (arith, sum_same (x.o a e) (y.o a e));
}

pub same_limits : (x y : CellTable) → HasSameCells x y → IsWithinLimits x → IsWithinLimits y
same_limits x y same limits = grind arith

-- the table of a meaning has its rows and its limits
pub table_rows : (m : Meaning) → HasProperRows m → IsProper (table_of m)
table_rows m rows = record { t_rows = rows.transitions; o_rows = rows.observations }

pub table_limits : (m : Meaning) → meanings.HasLimitedNumbers m → IsWithinLimits (table_of m)
table_limits m limits = grind arith

-- so many cells, by equal counts
pub three_counted : (n a s e actions starts ends : ℕ) → a ≡ actions → s ≡ starts → e ≡ ends → n ≡ actions * starts * ends → n ≡ a * s * e
three_counted n a s e actions starts ends ea es ee h = rw (ea, es, ee) h

pub four_counted : (n a s e z actions starts ends seen : ℕ) → a ≡ actions → s ≡ starts → e ≡ ends → z ≡ seen
    → n ≡ actions * starts * ends * seen → n ≡ a * s * e * z
four_counted n a s e z actions starts ends seen ea es ee ez h = rw (ea, es, ee, ez) h

-- a row ends within its table
pub row_end : (a s actions starts ends : ℕ) → a < actions → s < starts → (a * starts + s) * ends + ends ≤ actions * starts * ends
row_end a s actions starts ends al sl = grind arith
