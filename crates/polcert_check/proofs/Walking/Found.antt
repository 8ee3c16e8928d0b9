-- What a walk over pairs has found: with one pair more, with pairs that cannot be the first, and at the end.
use Rattle.std.proofs.Common.{◌≡◌, ℕ, ◌<◌, ◌≤◌, ◌⊎◌, ℤ, pos, ◌<ℤ◌, unsigned_abs, arith}
use Rattle.polcert_check.proofs.Common.{Controller, short, PairPasses, IsBefore, IsPairVerdict, IsVerdictFor, IsFirstOf, IsWorstOf, IsFound}
use Rattle.polcert_check.proofs.Common.{Mode, Check, Lowering, Findings, Verdict, Yes, Short, NoSuccessor}
use Rattle.polcert_check.specs.Steps.Findings.{IsEarlier}
use Rattle.polcert_check.proofs.Sums.Ring.{linear}

abbrev pub Pairs : Type 1
Pairs = ℕ → ℕ → Type 0

abbrev Judged : Type 1
Judged = ℕ → ℕ → Verdict → Type 0

-- ---- more pairs, none of which is before the first

-- the pair is not before the one that the verdict names
abbrev pub IsAfter : Verdict → ℕ → ℕ → Type 0
IsAfter Yes m t = ⊥
IsAfter (Short n s amount) m t = IsBefore m t n s → ⊥
IsAfter (NoSuccessor n s z) m t = IsBefore m t n s → ⊥

pub found_wider : (c : Controller) (P Q : Pairs) (f : Findings) → IsFound c P f → ((m t : ℕ) → P m t → Q m t)
    → ((m t : ℕ) → Q m t → P m t ⊎ IsAfter f.first m t) → IsFound c Q f
found_wider c P Q f is into from = grind arith

-- ---- one pair more, which is after the others at its node

pub record IsNext (P Q : Pairs) (n s : ℕ) : Type 0 where
  pub into : (m t : ℕ) → P m t → Q m t
  pub here : Q n s
  pub from : (m t : ℕ) → Q m t → P m t ⊎ ((m ≡ n) × (t ≡ s))
  pub following : (t : ℕ) → P n t → t < s

-- its verdict is passed
first_same : (Of : Judged) (P Q : Pairs) (n s : ℕ) (x : Verdict) → IsNext P Q n s → IsFirstOf Of P x → Of n s Yes → IsFirstOf Of Q x
first_same Of P Q n s x h1 h2 h3 = grind arith

abbrev IsAt : Verdict → ℕ → ℕ → Type 0
IsAt Yes n s = ⊥
IsAt (Short m t amount) n s = (m ≡ n) × (t ≡ s)
IsAt (NoSuccessor m t z) n s = (m ≡ n) × (t ≡ s)

first_more : (Of : Judged) (P Q : Pairs) (n s : ℕ) (x v r : Verdict) → IsNext P Q n s → IsFirstOf Of P x → IsAt v n s → Of n s v
    → IsEarlier x n v r → IsFirstOf Of Q r
first_more Of P Q n s x v r h1 h2 h3 h4 h5 = grind arith

-- ---- the greatest shortfall, with one pair more
worst_more : (c : Controller) (P Q : Pairs) (n s worst here r : ℕ) → IsNext P Q n s → IsWorstOf c P worst → pos here ≡ short c n s
    → worst ≤ r → here ≤ r → (r ≡ worst) ⊎ (r ≡ here) → IsWorstOf c Q r
worst_more c P Q n s worst here r next is at left right one = grind (arith, linear)

positive_is : (amount x : ℤ) (size : ℕ) → amount ≡ x → pos 0 <ℤ amount → size ≡ unsigned_abs amount → pos size ≡ x
positive_is amount x size e some is = grind arith

module _ (mode : Mode) (c : Controller) (n : ℕ) (s : ℕ) where
  -- ---- the findings, with one pair more
  passes_for : PairPasses c n s → IsVerdictFor mode c n s Yes
  passes_for h1 = grind arith

  lacks_none_for : (m t : ℕ) (amount : ℤ) → mode ≡ Lowering → IsPairVerdict c n s (Short m t amount)
      → IsVerdictFor mode c n s Yes
  lacks_none_for m t amount h1 h2 = grind arith

module _ (c : Controller) (P Q : Pairs) (n s : ℕ) (next : IsNext P Q n s) (f : Findings) (is : IsFound c P f) where
  pub noted_pass : PairPasses c n s → IsFound c Q f
  noted_pass passes = grind (arith, linear, passes_for)

  pub noted_failure : (m t : ℕ) (amount : ℤ) (r : Verdict) → f.mode ≡ Check → IsPairVerdict c n s (Short m t amount)
      → IsEarlier f.first n (Short m t amount) r → IsFound c Q (record f { first = r })
  noted_failure m t amount r mode here earlier = grind arith

  pub noted_lack : (m t z : ℕ) (r : Verdict) → IsPairVerdict c n s (NoSuccessor m t z) → IsEarlier f.first n (NoSuccessor m t z) r
      → IsFound c Q (record f { first = r })
  noted_lack m t z r here earlier = grind arith

  pub noted_short : (m t : ℕ) (amount : ℤ) (r : Verdict) (size worst : ℕ) → f.mode ≡ Lowering → IsPairVerdict c n s (Short m t amount)
      → IsEarlier f.short n (Short m t amount) r → size ≡ unsigned_abs amount → f.worst ≤ worst → size ≤ worst → (worst ≡ f.worst)
      ⊎ (worst ≡ size) → IsFound c Q (record f { short = r; worst = worst })
  noted_short m t amount r size worst mode here earlier is_size left right one = record {
    first = first_same (IsVerdictFor f.mode c) P Q n s f.first next is.first (lacks_none_for f.mode c n s m t amount mode here);
    measured = λ same passed. let before = is.measured same passed in record {
      short = first_more (IsPairVerdict c) P Q n s f.short (Short m t amount) r next before.short (here.0, here.1) here earlier;
      worst = worst_more c P Q n s f.worst size worst next before.worst (positive_is amount (short c n s) size here.3 here.4 is_size) left
          right one;
    };
  }
