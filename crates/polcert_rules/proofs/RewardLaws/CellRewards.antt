-- The cells that rules name, one more; and that with all of them the rewards are a common one and its exceptions.
use Rattle.std.proofs.Common.{◌≡◌, ◌∙◌, ⊎_elim, ℕ, zero, suc, ◌+◌, ◌*◌, ◌<◌, ◌≤◌, Some, None, List, Contains, length, set, slice_get, refl}
use Rattle.std.proofs.Common.{sym, ap, subst, arith, get_or-set_other, get_or-set_same, mul-zero}
use Rattle.polcert_rules.proofs.Common.{same_Some, slice_get-get_or, get_or_from_slice_get, cases_lt, cell_at, RewardCell, Rule, IsNewest}
use Rattle.polcert_rules.proofs.Common.{RewardRules, CellRules, NamesEnd, IsCellOf, AreCellsOf}

module _ (rewards : RewardRules) (a s : ℕ) (list : CellRules) (i next : ℕ) (cells : List RewardCell) (x : RewardCell) (rule : Rule)
    (are : AreCellsOf rewards a s list i next cells)
    (room : i < length cells) (above : next ≤ x.observation) (at : slice_get list.named.now i ≡ Some rule)
    (is : IsCellOf rewards a s list rule x) where
  here : cell_at (set cells i x) i ≡ x
  here = get_or-set_same _ i x _ room

  other : (k : ℕ) → k < i → cell_at (set cells i x) k ≡ cell_at cells k
  other k l = get_or-set_other cells i k x _ (λ e. absurd (omega (arith, e, l)))

  pub cells_more : AreCellsOf rewards a s list (i + 1) (x.observation + 1) (set cells i x)
  cells_more = record {
    each = λ k r l get. ⊎_elim
        (λ less. subst (λ (c : RewardCell). IsCellOf rewards a s list r c) (sym (other k less)) (are.each k r less get))
        (λ ge.
        let same : k ≡ i = omega (arith, ge, l) in
        let rules_same : rule ≡ r = same_Some _ _ (sym at ∙ ap (λ (j : ℕ). slice_get list.named.now j) (sym same) ∙ get) in
        subst (λ (j : ℕ). IsCellOf rewards a s list r (cell_at (set cells i x) j)) (sym same)
        (subst (λ (c : RewardCell). IsCellOf rewards a s list r c) (sym here)
        (subst (λ (q : Rule). IsCellOf rewards a s list q x) rules_same is)))
        (cases_lt k i);
    rising = λ j k jl kl. ⊎_elim (λ less. rw (other k less, other j (omega (arith, jl, less))) (are.rising j k jl less)) (λ ge.
        let same : k ≡ i = omega (arith, ge, kl) in
        let before : j < i = omega (arith, jl, same) in
        let old = are.below j before in
        subst (λ (n : ℕ). (cell_at (set cells i x) j).observation < (cell_at (set cells i x) n).observation) (sym same)
        (rw (here, other j before) (omega (arith, old, above))))
        (cases_lt k i);
    below = λ k l. ⊎_elim (λ less. let old = are.below k less in rw (other k less) (omega (arith, old, above))) (λ ge.
        let same : k ≡ i = omega (arith, ge, l) in
        subst (λ (n : ℕ). (cell_at (set cells i x) n).observation < x.observation + 1) (sym same) (rw here (omega arith)))
        (cases_lt k i);
  }

-- ---- all of them
pub some_factor : (k s z : ℕ) → k < s * z → 0 < z
some_factor k s zero l = absurd (omega (arith, mul-zero s, l))
some_factor k s (suc z) l = omega arith

module _ (rewards : RewardRules) (a s : ℕ) (list : CellRules) (next : ℕ) (cells : List RewardCell)
    (are : AreCellsOf rewards a s list (length list.named.now) next cells) where
  abbrev number_of : ℕ → ℕ → ℕ
  number_of e z = e * rewards.shape.observations + z

  -- a rule that names a cell is at the place of that cell
  placed : (e z : ℕ) (r : Rule) → z < rewards.shape.observations → Contains list.named.now r → NamesEnd list.low e z r.key
      → (k : ℕ) × (k < length list.named.now) × (slice_get list.named.now k ≡ Some r) × ((cell_at cells k).observation ≡ number_of e z)
  placed e z r zl c f =
      let get = slice_get-get_or _ c.0 _ c.1 ∙ ap Some c.2 in
      let cell = are.each c.0 r c.1 get in
      let same = cell.alone e z zl f in
      (c.0, c.1, get, cell.number ∙ sym (rw (same.0, same.1) refl))

  -- cells of one number are one
  one_place : (j k : ℕ) → j < length list.named.now → k < length list.named.now
      → (cell_at cells j).observation ≡ (cell_at cells k).observation → j ≡ k
  one_place j k jl kl e = ⊎_elim (λ less. absurd (omega (arith, are.rising j k less kl, e)))
      (λ ge. ⊎_elim (λ less. absurd (omega (arith, are.rising k j less jl, e))) (λ ge2. omega (arith, ge, ge2))
      (cases_lt k j))
      (cases_lt j k)

  -- the rule of a cell is the newest that names it
  pub newest_named : (k : ℕ) (r : Rule) → k < length list.named.now → (get : slice_get list.named.now k ≡ Some r) → let cell =
      are.each k r in (l : k < length list.named.now)
      → IsNewest list.named.now (NamesEnd list.low (cell l get).end (cell l get).observation) (Some r.number)
  newest_named k r kl get l =
      let cell = are.each k r l get in (
        record { rule = r; among = (k, kl, get_or_from_slice_get list.named.now k r _ get); passes = cell.names; is = refl },
        λ q c f.
            let there = placed _ _ q cell.within c f in
            let same = one_place k _ kl there.1 (cell.number ∙ sym there.3) in
            let numbers = ap (λ (x : Rule). x.number) (same_Some _ _ (sym get ∙ ap (λ (n : ℕ). slice_get list.named.now n) same ∙ there.2))
            in
            omega (arith, numbers),
      )

  -- where no cell has the number, no rule names it
  pub none_named : (e z : ℕ) → z < rewards.shape.observations
      → ((k : ℕ) → k < length list.named.now → (cell_at cells k).observation ≡ number_of e z → ⊥)
      → IsNewest list.named.now (NamesEnd list.low e z) None
  none_named e z zl unnamed r c f = let there = placed e z r zl c f in unnamed there.0 there.1 there.3
