-- Rules of which each names a cell: what the newest is, from parts that have it.
use Rattle.std.proofs.Common.{◌≡◌, ◌∙◌, ⊎_elim, ℕ, suc, ◌+◌, ◌*◌, ◌^◌, ◌<◌, ◌≤◌, ◌↔◌, ◌⊎◌, inl, inr, Option, None, List, [], ◌∷◌, Contains}
use Rattle.std.proofs.Common.{sym, ap, subst, arith}
use Rattle.polcert_rules.proofs.Common.{Rule, IsNewest, max_option, key_base, AreIndices, CellRules, NamesEnd, AreCellRules, AreJoined}
use Rattle.polcert_rules.specs.Keys.{FitsKey}
use Rattle.polcert_rules.proofs.Keyed.Fitting.{fits_low, fits_high, fits_end, fits_here, fits_next, fits_every, fits_only}
use Rattle.polcert_rules.proofs.Indexes.Newer.{IsSpan, newest_as, newest_of_part, newest_of_two, newest_of_three, newest_only, newest_end}
use Rattle.polcert_rules.proofs.Indexes.NotedLaws.{later_none, later_of_later}

-- the rules from a key on
abbrev pub IsFrom : List Rule → List Rule → ℕ → Type 0
IsFrom rules part low = (r : Rule) → Contains part r ↔ (Contains rules r × (low ≤ r.key))

part_here : (rules part : List Rule) (low : ℕ) (here : Option ℕ) → IsFrom rules part low → IsNewest part (λ k. k ≡ low) here
    → IsNewest rules (λ k. k ≡ low) here
part_here rules part low here from n = newest_of_part _ part _ here (λ r c. ((from r).0 c).0) (λ r c e. (from r).1 (c, omega (arith, e))) n

later_three : (h o b x : Option ℕ) → max_option h (max_option (max_option o (max_option b None)) x)
    ≡ max_option (max_option h (max_option o b)) x
later_three h o b x = grind (arith, later_none, later_of_later)

-- after two places
pub named_cells : (rules starred both named : List Rule) (low e z : ℕ) (h o b x : Option ℕ) → z + 2 < key_base
    → IsFrom rules starred (low + key_base) → IsFrom starred both (low + key_base + 1) → IsFrom both named (low + key_base + 2)
    → ((r : Rule) → Contains named r → low + key_base + key_base ≤ r.key)
    → IsNewest rules (λ k. k ≡ low) h → IsNewest starred (λ k. k ≡ low + key_base) o → IsNewest both (λ k. k ≡ low + key_base + 1) b
    → IsNewest named (NamesEnd low e z) x → IsNewest rules (FitsKey 2 low (e ∷ z ∷ [])) (max_option (max_option h (max_option o b)) x)
named_cells rules starred both named low e z h o b x zl from_starred from_both from_named far here at_open at_both n =
    let every = low + key_base in
    let all_both : (r : Rule) → Contains rules r → every + 1 ≤ r.key → Contains both r =
    λ r c l. (from_both r).1 ((from_starred r).1 (c, omega (arith, l)), l) in
    let all_named : (r : Rule) → Contains rules r → every + 2 ≤ r.key → Contains named r =
    λ r c l. (from_named r).1 (all_both r c (omega (arith, l)), l) in
    let sub : (r : Rule) → Contains named r → Contains rules r = λ r c. ((from_starred r).0 ((from_both r).0 ((from_named r).0 c).0).0).0 in
    let only : IsNewest rules (NamesEnd low e z) x = newest_of_part rules named (NamesEnd low e z) x sub
    (λ r c f. let l = fits_low 1 (low + (e + 2) * key_base ^ 1) (z ∷ []) r.key f in all_named r c (omega (arith, l))) n in
    let star : IsNewest rules (λ k. k ≡ every) o = part_here rules starred every o from_starred at_open in
    let stars : IsNewest rules (λ k. k ≡ every + 1) b =
    newest_of_part rules both (λ k. k ≡ every + 1) b (λ r c. ((from_starred r).0 ((from_both r).0 c).0).0)
    (λ r c f. all_both r c (omega (arith, f))) at_both in
    let seen : IsNewest rules (FitsKey 0 (every + (z + 2) * key_base ^ 0) []) None = λ r c f.
    let is = fits_end 0 (every + (z + 2) * key_base ^ 0) r.key f in
    let l = far r (all_named r c (omega (arith, is))) in
    absurd (omega (arith, is, l, zl)) in
    let of_every : IsNewest rules (FitsKey 1 every (z ∷ [])) (max_option o (max_option b None)) =
    newest_of_three rules 0 every z [] o b None star (newest_end rules 0 (every + 1) b stars) seen in
    subst (IsNewest rules (FitsKey 2 low (e ∷ z ∷ []))) (later_three h o b x)
    (newest_of_three rules 1 low e (z ∷ []) h (max_option o (max_option b None)) x here of_every only)

-- ---- from parts
-- a part of the rules that has all that pass
pub cells_of_part : (rules part : List Rule) (P : ℕ → ℕ → ℕ → Type 0) (cells : CellRules)
    → ((r : Rule) → Contains part r → Contains rules r)
    → ((e z : ℕ) (r : Rule) → e + 2 < key_base → z + 2 < key_base → Contains rules r → P e z r.key → Contains part r)
    → AreCellRules part P cells → AreCellRules rules P cells
cells_of_part rules part P cells sub all are = λ e z el zl x n. newest_of_part _ part _ _ sub (λ r. all e z r el zl) (are e z el zl x n)

-- a span of keys
pub cells_of_span : (rules part : List Rule) (low : ℕ) (cells : CellRules) → IsSpan rules part low (key_base ^ 2)
    → AreCellRules part (λ e z. FitsKey 2 low (e ∷ z ∷ [])) cells
    → AreCellRules rules (λ e z. FitsKey 2 low (e ∷ z ∷ [])) cells
cells_of_span rules part low cells span are =
    cells_of_part _ part _ cells (λ r c. ((span r).0 c).0)
    (λ e z r el zl c f. (span r).1 (c, fits_low 2 low _ _ f, fits_high 2 low _ _ (el, (zl, tt)) f)) are

later_joined : (v w x : Option ℕ) → max_option (max_option v x) (max_option w None) ≡ max_option (max_option v w) x
later_joined v w x = grind (arith, later_none, later_of_later)

later_joined_2 : (v w x : Option ℕ) → max_option (max_option v None) (max_option w x) ≡ max_option (max_option v w) x
later_joined_2 v w x = grind (arith, later_none, later_of_later)

none_named : (cells : CellRules) (e z : ℕ) → cells.named.now ≡ [] → IsNewest cells.named.now (NamesEnd cells.low e z) None
none_named cells e z none r c f = grind (arith, subst (λ (rs : List Rule). Contains rs r) none c)

pub joined_cells : (rules : List Rule) (P Q : ℕ → ℕ → ℕ → Type 0) (a b joined : CellRules) → AreCellRules rules P a → AreCellRules rules Q b
    → AreJoined a b joined
    → AreCellRules rules (λ e z k. P e z k ⊎ Q e z k) joined
joined_cells rules P Q a b joined p q (whole, inl is) = λ e z el zl x n.
    subst (IsNewest rules (λ k. P e z k ⊎ Q e z k)) (later_joined a.whole b.whole x ∙ ap (λ w. max_option w x) (sym whole))
    (newest_of_two _ _ _ _ _ (p e z el zl x (subst (λ (l : ℕ). IsNewest a.named.now (NamesEnd l e z) x) is.2
    (subst (λ named. IsNewest named.now (NamesEnd joined.low e z) x) is.1 n))) (q e z el zl None (none_named b e z is.0)))
joined_cells rules P Q a b joined p q (whole, inr is) = λ e z el zl x n.
    subst (IsNewest rules (λ k. P e z k ⊎ Q e z k)) (later_joined_2 a.whole b.whole x ∙ ap (λ w. max_option w x) (sym whole))
    (newest_of_two _ _ _ _ _ (p e z el zl None (none_named a e z is.0))
    (q e z el zl x (subst (λ (l : ℕ). IsNewest b.named.now (NamesEnd l e z) x) is.2
    (subst (λ named. IsNewest named.now (NamesEnd joined.low e z) x) is.1 n))))

-- a rule that covers all cells
pub whole_cells : (rules : List Rule) (P : ℕ → ℕ → ℕ → Type 0) (key : ℕ) (number : Option ℕ) (cells with_whole : CellRules)
    → AreCellRules rules P cells → IsNewest rules (λ k. k ≡ key) number
    → with_whole.whole ≡ max_option number cells.whole → with_whole.low ≡ cells.low → with_whole.named ≡ cells.named
    → AreCellRules rules (λ e z k. (k ≡ key) ⊎ P e z k) with_whole
whole_cells rules P key number cells with_whole p here whole low named = λ e z el zl x n.
    subst (IsNewest rules (λ k. (k ≡ key) ⊎ P e z k)) (sym
    (ap (λ w. max_option w x) whole ∙ later_of_later number cells.whole x))
    (newest_of_two _ _ _ _ _ here (p e z el zl x (subst (λ (l : ℕ). IsNewest cells.named.now (NamesEnd l e z) x) low
    (subst (λ ns. IsNewest ns.now (NamesEnd with_whole.low e z) x) named n))))

-- one place more: no place, `*`, or the index
pub placed_cells : (rules : List Rule) (m low i : ℕ) (rest : ℕ → ℕ → List ℕ) (cells : CellRules)
    → AreCellRules rules (λ e z k. (k ≡ low) ⊎ (FitsKey m (low + key_base ^ m) (rest e z) k
    ⊎ FitsKey m (low + (i + 2) * key_base ^ m) (rest e z) k)) cells
    → AreCellRules rules (λ e z. FitsKey (suc m) low (i ∷ rest e z)) cells
placed_cells rules m low i rest cells are = λ e z el zl x n. newest_as _ _ _ _ (λ k f. ⊎_elim (fits_here _ low k _)
    (λ g. ⊎_elim (fits_every m low i _ k) (fits_only m low i _ k) g) f)
    (fits_next m low i (rest e z)) (are e z el zl x n)

-- no key ends before this place or is for every index
pub cells_of_only : (rules : List Rule) (m low i step : ℕ) (rest : ℕ → ℕ → List ℕ) (cells : CellRules) → step ≡ key_base ^ m
    → ((e z : ℕ) → e + 2 < key_base → z + 2 < key_base → AreIndices m (rest e z))
    → ((r : Rule) → Contains rules r → low ≤ r.key → r.key < low + step + step → ⊥)
    → AreCellRules rules (λ e z. FitsKey m (low + (i + 2) * step) (rest e z)) cells
    → AreCellRules rules (λ e z. FitsKey (suc m) low (i ∷ rest e z)) cells
cells_of_only rules m low i step rest cells is small none are =
    λ e z el zl x n. newest_only _ m low i step _ _ is (small e z el zl) none (are e z el zl x n)

-- ---- one cell
-- no place, `*`, or the observation
abbrev pub IsLast : ℕ → ℕ → ℕ → Type 0
IsLast base z key = (key ≡ base) ⊎ ((key ≡ base + 1) ⊎ (key ≡ base + (z + 2)))

pub last_place : (base z key : ℕ) → FitsKey 1 base (z ∷ []) key → IsLast base z key
last_place base z key f = ⊎_elim inl (λ g. inr (⊎_elim (λ h. inl (fits_end 0 _ key h))
    (λ h. inr (let is = fits_end 0 _ key h in omega (arith, is))) g)) (fits_next 0 base z [] key f)

pub place_last : (base z key : ℕ) → IsLast base z key → FitsKey 1 base (z ∷ []) key
place_last base z key (inl is) = fits_here 1 base key _ is
place_last base z key (inr (inl is)) = fits_every 0 base z [] key (fits_here 0 _ key [] is)
place_last base z key (inr (inr is)) = fits_only 0 base z [] key (fits_here 0 _ key [] (omega (arith, is)))

pub below_two : (n : ℕ) → n < 2 → (n ≡ 0) ⊎ (n ≡ 1)
below_two n l = grind arith
