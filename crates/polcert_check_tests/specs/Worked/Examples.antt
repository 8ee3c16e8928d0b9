-- A small table for the tests.
use Rattle.std.specs.Prelude.{ℕ, zero, suc, Bool, true, false, pos, neg_ℤ}
use Rattle.std.proofs.Common.{◌≤◌, refl, lit<}
use Rattle.polcert_cells.specs.Tables.{CellTable, IsProper, IsWithinLimits}

-- the table of the tests' model: two states, each as likely as the other after every step; one action; two
-- observations, of which the first always comes; a reward of -1

abbrev pub first_always : ℕ → ℕ
first_always zero = 2_000_000
first_always (suc z) = 0

-- one, or one half
abbrev pub discount_of : Bool → ℕ
discount_of true = 1_000_000
discount_of false = 500_000

abbrev pub even_table : Bool → CellTable
even_table undiscounted = record {
  states = 2;
  actions = 1;
  observations = 2;
  discount = discount_of undiscounted;
  t_scale = 2_000_000;
  o_scale = 2_000_000;
  t = λ a s e. 1_000_000;
  o = λ a e z. first_always z;
  r = λ a s e z. neg_ℤ (pos 1_000_000);
}

-- it is proper, and within the limits
pub even_is_proper : (b : Bool) → IsProper (even_table b)
even_is_proper b = record { t_rows = λ a s al sl. refl; o_rows = λ a e al el. refl }

discount_le : (b : Bool) → discount_of b ≤ 1_000_000
discount_le true = lit< tt
discount_le false = lit< tt

pub even_is_within : (b : Bool) → IsWithinLimits (even_table b)
even_is_within b = record {
  states = (lit< tt, lit< tt);
  actions = (lit< tt, lit< tt);
  observations = (lit< tt, lit< tt);
  pairs = lit< tt;
  discount = discount_le b;
  t_scale = refl;
  o_scale = refl;
  r = λ a s e z al sl el zl. lit< tt;
}
