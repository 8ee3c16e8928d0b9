-- The single cells of a row that are newer than what is under them.
use Rattle.std.proofs.Common.{◌≡◌, ◌∙◌, ℕ, suc, ◌+◌, ◌<◌, ◌≤◌, Bool, true, false, cond, eqb, Option, Some, None, List, [], ◌∷◌, All, refl}
use Rattle.std.proofs.Common.{sym, ap, arith}
use Rattle.polcert_rules.proofs.Common.{nat_tests, All-head, All-tail, Entry, Cell, Rule, IsRising, max_option, at_column, number_in}
use Rattle.polcert_rules.proofs.Common.{given_at, newer_cells, weight_over, Rises}
use Rattle.polcert_rules.specs.Steps.Merging.{is_newer}

-- rules by column, from this one on
abbrev pub RulesRise : ℕ → List Rule → Type 0
RulesRise low [] = Unit {0}
RulesRise low (r ∷ rs) = (low ≤ r.key) × RulesRise (r.key + 1) rs

pub rules_rise : (low : ℕ) (rs : List Rule) → IsRising rs → All (λ r. low ≤ r.key) rs → RulesRise low rs
rules_rise low [] up above = tt
rules_rise low (r ∷ rs) up above = (
  All-head (λ (r : Rule). low ≤ r.key) r rs above,
  rules_rise (r.key + 1) rs (λ i j d less l. up (suc i) (suc j) d (omega arith) (omega arith))
      (λ k d l. let a = up 0 (suc k) d (omega arith) (omega arith) in omega arith),
)

none_below : (low c : ℕ) (rs : List Rule) → RulesRise low rs → c < low → at_column rs c ≡ None
none_below low c [] h l = refl
none_below low c (r ∷ rs) h l = at (eqb r.key c) refl (none_below (r.key + 1) c rs h.1 (omega arith))
  where
    at : (b : Bool) → eqb r.key c ≡ b → at_column rs c ≡ None → cond b (Some r.number) (at_column rs c) ≡ None
    at b h1 h2 = grind (arith, nat_tests)

module _ (columns : ℕ) (entries : List Entry) (s : ℕ) where
  -- what a column has: that of its cell where it is newer than what is under it
  abbrev pub picked : Option ℕ → Option ℕ → ℕ → ℕ
  picked covering_entry None c = given_at columns entries covering_entry s c
  picked covering_entry (Some n) c = cond (is_newer covering_entry n) (given_at columns entries (Some n) s c)
      (given_at columns entries covering_entry s c)

  pub picked_number : (covering_entry : Option ℕ) (c : ℕ) (o : Option ℕ)
      → picked covering_entry o c ≡ given_at columns entries (max_option covering_entry o) s c
  picked_number covering_entry c o = grind arith

  module _ (covering_entry : ℕ → Option ℕ) where
    newer_picked : (low c : ℕ) (rs : List Rule) → RulesRise low rs
        → weight_over (newer_cells columns entries covering_entry s rs) (λ i. given_at columns entries (covering_entry i) s i) c
        ≡ picked (covering_entry c) (at_column rs c) c
    newer_picked low c [] h = refl
    newer_picked low c (r ∷ rs) h = at (is_newer (covering_entry r.key) r.number) refl (eqb r.key c) refl
        (newer_picked (r.key + 1) c rs h.1)
      where
        here : (b : Bool) → r.key ≡ c → is_newer (covering_entry r.key) r.number ≡ b
            → picked (covering_entry c) (Some r.number) c ≡ cond b (given_at columns entries (Some r.number) s c)
            (given_at columns entries (covering_entry c) s c)
        here b same e = ap (λ t. cond t (given_at columns entries (Some r.number) s c) (given_at columns entries (covering_entry c) s c))
            (ap (λ i. is_newer (covering_entry i) r.number) (sym same) ∙ e)

        at : (b : Bool) → is_newer (covering_entry r.key) r.number ≡ b → (t : Bool) → eqb r.key c ≡ t
            → weight_over (newer_cells columns entries covering_entry s rs) (λ i. given_at columns entries (covering_entry i) s i) c
            ≡ picked (covering_entry c) (at_column rs c) c
            → weight_over (cond b (record { column = r.key; weight = given_at columns entries (Some r.number) s r.key } ∷ newer_cells
            columns entries covering_entry s rs) (newer_cells columns entries covering_entry s rs))
            (λ i. given_at columns entries (covering_entry i) s i) c
            ≡ picked (covering_entry c) (cond t (Some r.number) (at_column rs c)) c
        at b h1 t h2 h3 = grind (arith, nat_tests, none_below, here)

    -- the cells over what is under them have what the number of each column gives
    pub newer_over : (c : ℕ) (rs : List Rule) → IsRising rs
        → weight_over (newer_cells columns entries covering_entry s rs) (λ i. given_at columns entries (covering_entry i) s i) c
        ≡ given_at columns entries (number_in (covering_entry c) rs c) s c
    newer_over c rs up = newer_picked 0 c rs (rules_rise 0 rs up (λ k d l. omega arith))
        ∙ picked_number (covering_entry c) c (at_column rs c)

    pub newer_rise : (low n : ℕ) (rs : List Rule) → RulesRise low rs → All (λ r. r.key < n) rs
        → Rises low n (newer_cells columns entries covering_entry s rs)
    newer_rise low n [] h within = tt
    newer_rise low n (r ∷ rs) h within = at (is_newer (covering_entry r.key) r.number)
        (newer_rise (r.key + 1) n rs h.1 (All-tail (λ (r : Rule). r.key < n) r rs within))
      where
        at : (b : Bool) → Rises (r.key + 1) n (newer_cells columns entries covering_entry s rs)
            → Rises low n (cond b (record { column = r.key; weight = given_at columns entries (Some r.number) s r.key } ∷ newer_cells
            columns entries covering_entry s rs) (newer_cells columns entries covering_entry s rs))
        at true rest = (h.0, All-head (λ (r : Rule). r.key < n) r rs within, rest)
        at false rest = rises_lower low (r.key + 1) n (newer_cells columns entries covering_entry s rs) (omega arith) rest
          where
            rises_lower : (k low n : ℕ) (xs : List Cell) → k ≤ low → Rises low n xs → Rises k n xs
            rises_lower k low n [] le h = tt
            rises_lower k low n (x ∷ xs) le h = (omega arith, h.1, h.2)
