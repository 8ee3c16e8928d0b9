-- The newest of several.
use Rattle.std.proofs.Common.{◌≡◌, ◌∙◌, ℕ, suc, ◌+◌, ◌-◌, ◌*◌, ◌^◌, ◌<◌, ◌≤◌, ◌↔◌, ◌⊎◌, ⊎_elim, Option, Some, None, List, [], ◌∷◌, Contains}
use Rattle.std.proofs.Common.{length, refl, sym, ap, subst, arith, rules}
use Rattle.std.specs.List.{slice_get}
use Rattle.polcert_rules.proofs.Common.{slice_get_within, get_or_from_slice_get, Rule, IsRising, IsNewest, max_option, key_base, AreIndices}
use Rattle.polcert_rules.specs.Keys.{FitsKey}
use Rattle.polcert_rules.proofs.Keyed.Fitting.{fits_low, fits_high, fits_next, fits_here, fits_end, fits_every, fits_only, digit_below}
use Rattle.polcert_rules.proofs.Keyed.Fitting.{power_next, power_some}

pub newest_as : (rules : List Rule) (P Q : ℕ → Type 0) (x : Option ℕ) → ((k : ℕ) → P k → Q k) → ((k : ℕ) → Q k → P k) → IsNewest rules P x
    → IsNewest rules Q x
newest_as rs0 P Q x h1 h2 h3 = grind arith

-- the rules that pass are the same
pub newest_among : (rules : List Rule) (P Q : ℕ → Type 0) (x : Option ℕ) → ((r : Rule) → Contains rules r → P r.key → Q r.key)
    → ((r : Rule) → Contains rules r → Q r.key → P r.key) → IsNewest rules P x → IsNewest rules Q x
newest_among rs0 P Q x h1 h2 h3 = grind arith

-- from a part of the rules that has all that pass
pub newest_of_part : (rules part : List Rule) (P : ℕ → Type 0) (x : Option ℕ) → ((r : Rule) → Contains part r → Contains rules r)
    → ((r : Rule) → Contains rules r → P r.key → Contains part r) → IsNewest part P x → IsNewest rules P x
newest_of_part rs0 part P x h1 h2 h3 = grind arith

pub newest_of_two : (rules : List Rule) (P Q : ℕ → Type 0) (a b : Option ℕ) → IsNewest rules P a → IsNewest rules Q b
    → IsNewest rules (λ k. P k ⊎ Q k) (max_option a b)
newest_of_two rs0 P Q a b x y = grind arith

-- the rules from a key on, below so many further keys
abbrev pub IsSpan : List Rule → List Rule → ℕ → ℕ → Type 0
IsSpan rules part low size = (r : Rule) → Contains part r ↔ (Contains rules r × (low ≤ r.key) × (r.key < low + size))

-- what a span has is what all rules have
pub newest_of_span : (rules part : List Rule) (m low : ℕ) (indices : List ℕ) (x : Option ℕ) → AreIndices m indices
    → IsSpan rules part low (key_base ^ m)
    → IsNewest part (FitsKey m low indices) x → IsNewest rules (FitsKey m low indices) x
newest_of_span rules part m low indices x a span n =
    newest_of_part _ part _ x (λ r c. ((span r).0 c).0)
    (λ r c f. (span r).1 (c, fits_low m low indices r.key f, fits_high m low indices r.key a f)) n

-- one place more: no place, `*`, or the index
-- none fits if no key is in the span
pub newest_of_none : (rules : List Rule) (m low : ℕ) (indices : List ℕ) → AreIndices m indices
    → ((r : Rule) → Contains rules r → low ≤ r.key → r.key < low + key_base ^ m → ⊥) → IsNewest rules (FitsKey m low indices) None
newest_of_none rs m low indices a none = λ r c f. none r c (fits_low m low indices r.key f) (fits_high m low indices r.key a f)

pub newest_of_three : (rules : List Rule) (m low i : ℕ) (indices : List ℕ) (here every only : Option ℕ) → IsNewest rules (λ k. k ≡ low) here
    → IsNewest rules (FitsKey m (low + key_base ^ m) indices) every → IsNewest rules (FitsKey m (low + (i + 2) * key_base ^ m) indices) only
    → IsNewest rules (FitsKey (suc m) low (i ∷ indices)) (max_option here (max_option every only))
newest_of_three rules m low i indices here every only h e o =
    let two = newest_of_two _ _ _ _ only e o in
    let three = newest_of_two _ _ _ here _ h two in
    newest_as _ _
    _ _
    (λ k f. ⊎_elim (fits_here _ low k _) (⊎_elim (fits_every m low i indices k) (fits_only m low i indices k)) f)
    (fits_next m low i indices) three

-- from the parts that have the rules with these places
pub newest_next : (rules evens onlys : List Rule) (m low i : ℕ) (indices : List ℕ) (here every only : Option ℕ) → AreIndices m indices
    → IsNewest rules (λ k. k ≡ low) here
    → IsSpan rules evens (low + key_base ^ m) (key_base ^ m) → IsNewest evens (FitsKey m (low + key_base ^ m) indices) every
    → IsSpan rules onlys (low + (i + 2) * key_base ^ m) (key_base ^ m)
    → IsNewest onlys (FitsKey m (low + (i + 2) * key_base ^ m) indices) only
    → IsNewest rules (FitsKey (suc m) low (i ∷ indices)) (max_option here (max_option every only))
newest_next rs0 evens onlys m low i indices here every only a h spanned e spanned_only o = grind (arith, newest_of_span, newest_of_three)

-- the rule of the key itself, from the part that begins with it
pub newest_here : (rules part : List Rule) (low size : ℕ) (here : Option ℕ) → 1 ≤ size → IsSpan rules part low size
    → IsNewest part (λ k. k ≡ low) here → IsNewest rules (λ k. k ≡ low) here
newest_here rules part low size here some span n =
    newest_of_part _ part _ here (λ r c. ((span r).0 c).0)
    (λ r c e. (span r).1 (c, omega (arith, e), omega (arith, e, some))) n

pub newest_end : (rules : List Rule) (m low : ℕ) (here : Option ℕ) → IsNewest rules (λ k. k ≡ low) here
    → IsNewest rules (FitsKey m low []) here
newest_end rules m low here n = newest_as _ _ _ here (λ k. fits_here m low k []) (fits_end m low) n

-- a level is left where an index is
pub some_level : (m i : ℕ) (indices : List ℕ) → AreIndices m (i ∷ indices) → (suc (m - 1) ≡ m) × (i + 2 < key_base)
    × AreIndices (m - 1) indices
some_level m i indices h1 = grind arith

-- the first rule has the lowest key
pub after_first : (rules : List Rule) (x : Rule) → IsRising rules → slice_get rules 0 ≡ Some x → (r : Rule) → Contains rules r → (r ≡ x)
    ⊎ (x.key < r.key)
after_first rs0 x h1 h2 r h3 = search (rules, ⊎_elim, get_or_from_slice_get)

pub first_is : (rules : List Rule) (x : Rule) (key : ℕ) → IsRising rules → slice_get rules 0 ≡ Some x → x.key ≡ key
    → IsNewest rules (λ k. k ≡ key) (Some x.number)
first_is rs0 x key up is here = search (rules, ⊎_elim, slice_get_within, get_or_from_slice_get, after_first)

pub first_is_not : (rules : List Rule) (x : Rule) (key : ℕ) → IsRising rules → ((r : Rule) → Contains rules r → key ≤ r.key)
    → slice_get rules 0 ≡ Some x
    → (x.key ≡ key → ⊥) → IsNewest rules (λ k. k ≡ key) None
first_is_not rules x key up from is other r c e =
    let inside = slice_get_within _ 0 x is in
    let low : key ≤ x.key = from x (0, inside, get_or_from_slice_get rules 0 x x is) in
    ⊎_elim (λ same. other (ap (λ (y : Rule). y.key) (sym same) ∙ e)) (λ less. absurd (omega arith)) (after_first _ x up is r c)

-- what is known where there is one more index
pub record IsDeeper (m low i : ℕ) (indices : List ℕ) (step : ℕ) : Type 0 where
  pub level : suc (m - 1) ≡ m
  pub indices_are : AreIndices (m - 1) indices
  pub step_is : step ≡ key_base ^ (m - 1)
  pub only : low + (i + 2) * step + step ≤ low + key_base ^ m
  pub every : low + step + step ≤ low + key_base ^ m
  pub some : 1 ≤ step

-- the keys of the next places have room where those of these have
pub is_deeper : (m low i : ℕ) (indices : List ℕ) (step : ℕ) → AreIndices m (i ∷ indices) → step ≡ key_base ^ (m - 1)
    → IsDeeper m low i indices step
is_deeper m low i indices step a is = grind (arith, digit_below, power_next, power_some, some_level)

-- `newest_next`, at the code's numbers
pub newest_deeper : (rules evens onlys : List Rule) (m low i : ℕ) (indices : List ℕ) (step : ℕ) (here every only : Option ℕ)
    → IsDeeper m low i indices step
    → IsNewest rules (λ k. k ≡ low) here
    → IsSpan rules evens (low + step) step → IsNewest evens (FitsKey (m - 1) (low + step) indices) every
    → IsSpan rules onlys (low + (i + 2) * step) step → IsNewest onlys (FitsKey (m - 1) (low + (i + 2) * step) indices) only
    → IsNewest rules (FitsKey m low (i ∷ indices)) (max_option here (max_option every only))
newest_deeper rules evens onlys m low i indices step here every only d h spanned e spanned_only o =
    subst (λ k. IsNewest rules (FitsKey k low (i ∷ indices)) (max_option here (max_option every only))) d.level
    (newest_next _ evens onlys _ low i _ here every only d.indices_are h
    (subst (λ s. IsSpan rules evens (low + s) s) d.step_is spanned)
    (subst (λ s. IsNewest evens (FitsKey (m - 1) (low + s) indices) every) d.step_is e)
    (subst (λ s. IsSpan rules onlys (low + (i + 2) * s) s) d.step_is spanned_only)
    (subst (λ s. IsNewest onlys (FitsKey (m - 1) (low + (i + 2) * s) indices) only) d.step_is o))

-- no key ends before this place or is for every index
pub newest_only : (rules : List Rule) (m low i step : ℕ) (indices : List ℕ) (x : Option ℕ) → step ≡ key_base ^ m → AreIndices m indices
    → ((r : Rule) → Contains rules r → low ≤ r.key → r.key < low + step + step → ⊥)
    → IsNewest rules (FitsKey m (low + (i + 2) * step) indices) x → IsNewest rules (FitsKey (suc m) low (i ∷ indices)) x
newest_only rules m low i step indices x is small none only =
    newest_of_three _ m low i _ None None x (λ r c e. none r c (omega (arith, e)) (omega (arith, e, is, power_some m)))
    (newest_of_none _ m _ _ small (λ r c l h. none r c (omega (arith, l)) (omega (arith, h, is))))
    (subst (λ t. IsNewest rules (FitsKey m (low + (i + 2) * t) indices) x) is only)

pub no_more : (indices : List ℕ) → length indices ≡ 0 → indices ≡ []
no_more [] e = refl
no_more (i ∷ indices) e = absurd (omega arith)
