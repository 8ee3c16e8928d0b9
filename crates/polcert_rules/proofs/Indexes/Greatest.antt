-- The newest of rules that pass some test.
use Rattle.std.proofs.Common.{◌≡◌, ℕ, ◌≤◌, ◌⊎◌, Option, Some, None, List, Contains, refl, ap, arith}
use Rattle.polcert_rules.proofs.Common.{Rule, IsNewest, max_option}

-- the greatest number of such rules
abbrev pub IsGreatest : (Rule → Type 0) → Option ℕ → Type 0
IsGreatest S None = (r : Rule) → S r → ⊥
IsGreatest S (Some n) = ((r : Rule) × S r × (r.number ≡ n)) × ((r : Rule) → S r → r.number ≤ n)

pub greatest_as : (S T : Rule → Type 0) (x : Option ℕ) → ((r : Rule) → S r → T r) → ((r : Rule) → T r → S r) → IsGreatest S x
    → IsGreatest T x
greatest_as S T x h1 h2 h3 = grind arith

pub greatest_of : (rules : List Rule) (P : ℕ → Type 0) (x : Option ℕ) → IsNewest rules P x → IsGreatest (λ r. Contains rules r × P r.key) x
greatest_of rs0 P x h1 = grind arith

pub newest_of : (rules : List Rule) (P : ℕ → Type 0) (x : Option ℕ) → IsGreatest (λ r. Contains rules r × P r.key) x → IsNewest rules P x
newest_of rs0 P x h1 = grind arith

pub greatest_of_two : (S T : Rule → Type 0) (a b : Option ℕ) → IsGreatest S a → IsGreatest T b
    → IsGreatest (λ r. S r ⊎ T r) (max_option a b)
greatest_of_two S T a b h1 h2 = grind arith

-- a rule alone
pub greatest_itself : (r : Rule) → IsGreatest (λ q. r ≡ q) (Some r.number)
greatest_itself r = ((r, refl, refl), λ q e. let same = ap (λ (x : Rule). x.number) e in omega arith)
