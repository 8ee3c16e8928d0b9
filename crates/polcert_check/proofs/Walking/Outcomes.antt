-- What is found over all pairs says: the verdict; and why vectors are not lowered.
use Rattle.std.proofs.Common.{◌≡◌, ℕ, ◌≤◌, ⊎_elim, ℤ, pos, ◌<ℤ◌, unsigned_abs, sym, subst, arith}
use Rattle.polcert_check.proofs.Common.{IsWithinLimits, Controller, one, short, most_short, IsVerdict, NoneLacks, IsNotMended}
use Rattle.polcert_check.proofs.Common.{RefusesSmallAmount, IsController, ValuesAreWithin, IsPairVerdict, IsPair, IsVerdictFor, IsFirstOf}
use Rattle.polcert_check.proofs.Common.{IsWorstOf, IsFound, LowerFault, Check, Lowering, Findings, Verdict, Yes, Short, NoSuccessor}
use Rattle.polcert_check.specs.Steps.Findings.{IsLackVerdict, IsLowerRefusal}
use Rattle.polcert_check.proofs.Lowerings.Least.{no_constant}
use Rattle.polcert_check.proofs.Lowerings.Shorts.{short_le}

module _ (c : Controller) where
  verdict_of : (v : Verdict) → IsFirstOf (IsPairVerdict c) (IsPair c) v → IsVerdict c v
  verdict_of Yes is = λ n s nl sl. is n s (nl, sl)
  verdict_of (Short n s amount) is = (is.0.0, is.0.1, λ m t ml tl. is.2 m t (ml, tl), is.1.2, is.1.3, is.1.4)
  verdict_of (NoSuccessor n s z) is = (is.0.0, is.0.1, λ m t ml tl. is.2 m t (ml, tl), is.1.2)

  pub verdict_is : (f : Findings) → f.mode ≡ Check → IsFound c (IsPair c) f → IsVerdict c f.first
  verdict_is f mode is = verdict_of f.first (subst (λ a. IsFirstOf (IsVerdictFor a c) (IsPair c) f.first) mode is.first)

  -- ---- why vectors are not lowered
  first_lack : (f : Findings) → f.mode ≡ Lowering → IsFound c (IsPair c) f → IsFirstOf (IsLackVerdict c) (IsPair c) f.first
  first_lack f mode is = subst (λ a. IsFirstOf (IsVerdictFor a c) (IsPair c) f.first) mode is.first

  pub none_lacks : (f : Findings) → f.mode ≡ Lowering → IsFound c (IsPair c) f → f.first ≡ Yes → NoneLacks c
  none_lacks f mode is passed n s nl sl = subst (IsFirstOf (IsLackVerdict c) (IsPair c)) passed (first_lack f mode is) n s (nl, sl)

  module _ (Can : ℕ → Type 0) (fault : LowerFault) where
    lack_refused : (x : Verdict) → IsFirstOf (IsLackVerdict c) (IsPair c) x → IsLowerRefusal x fault → IsNotMended c Can fault
    lack_refused Yes is refused = absurd refused
    lack_refused (Short n s amount) is refused = absurd is.1
    lack_refused (NoSuccessor n s z) is refused = subst (IsNotMended c Can) (sym refused)
        (is.0.0, is.0.1, is.1.2, λ m t ml tl. is.2 m t (ml, tl))

    pub refused_lack : (f : Findings) → f.mode ≡ Lowering → IsFound c (IsPair c) f → IsLowerRefusal f.first fault → IsNotMended c Can fault
    refused_lack f mode is refused = lack_refused f.first (first_lack f mode is) refused

    pub refused_short : IsController c → c.cells.discount ≡ one → NoneLacks c → (x : Verdict) → IsFirstOf (IsPairVerdict c) (IsPair c) x
        → IsLowerRefusal x fault → IsNotMended c Can fault
    refused_short p is_one none Yes is refused = absurd refused
    refused_short p is_one none (Short n s amount) is refused =
        let positive : pos 0 <ℤ short c n s = subst (λ x. pos 0 <ℤ x) is.1.3 is.1.4 in
        subst (IsNotMended c Can) (sym refused) (
          none,
          no_constant c p is_one n s is.0.0 is.0.1
              positive,
          (is.0.0, is.0.1, is.1.3, is.1.4, λ m t ml tl before. (is.2 m t (ml, tl) before).not_short),
        )
    refused_short p is_one none (NoSuccessor n s z) is refused = absurd (none n s is.0.0 is.0.1 z is.1.2.0 is.1.2.1)

  -- ---- how large an amount is
  module _ (p : IsController c) (limits : IsWithinLimits c.cells) (values : ValuesAreWithin c) where
    pub refused_small : (Can : ℕ → Type 0) (fault : LowerFault) → IsNotMended c Can fault → RefusesSmallAmount c fault
    refused_small Can fault h1 = grind (arith, short_le)

    reached_small : (x : ℤ) (worst b : ℕ) → pos worst ≡ x → unsigned_abs x ≤ b → worst ≤ b
    reached_small x worst b e l = subst (λ y. unsigned_abs y ≤ b) (sym e) l

    pub worst_small : (worst : ℕ) → IsWorstOf c (IsPair c) worst → worst ≤ most_short c
    worst_small worst is =
        ⊎_elim (λ (e : worst ≡ 0). omega arith)
        (λ (r : (n : ℕ) × (s : ℕ) × IsPair c n s × (pos worst ≡ short c n s)). reached_small (short c r.0 r.1) worst (most_short c) r.3
        (short_le c p limits values r.0 r.1 r.2.0 r.2.1))
        is.is_reached
