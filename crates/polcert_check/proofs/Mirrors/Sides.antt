-- What is so of a controller from either side.
use Rattle.std.proofs.Common.{◌≡◌, ℕ, ◌≤◌, ℤ, unsigned_abs, refl, sym, subst, arith}
use Rattle.polcert_check.proofs.Common.{largest, IsWithinLimits, Controller, short, IsClosed, IsController, ValuesAreWithin, Side, Below}
use Rattle.polcert_check.proofs.Common.{Above, signed_from, sided}
use Rattle.polcert_check.proofs.Mirrors.Mirrored.{mirrored_short}

pub turned_size : (side : Side) (x : ℤ) → unsigned_abs (signed_from side x) ≡ unsigned_abs x
turned_size side x = grind arith

pub sided_short : (side : Side) (c : Controller) (n s : ℕ) → short (sided side c) n s ≡ signed_from side (short c n s)
sided_short Below c n s = refl
sided_short Above c n s = mirrored_short c n s

pub sided_closed : (side : Side) (c : Controller) → IsClosed c → IsClosed (sided side c)
sided_closed side c p = record { actions_in_range = p.actions_in_range; next_in_range = p.next_in_range }

pub sided_proper : (side : Side) (c : Controller) → IsController c → IsController (sided side c)
sided_proper side c p = grind arith

pub sided_limits : (side : Side) (c : Controller) → IsWithinLimits c.cells → IsWithinLimits (sided side c).cells
sided_limits side c limits = grind arith

pub sided_values : (side : Side) (c : Controller) → ValuesAreWithin c → ValuesAreWithin (sided side c)
sided_values side c values = λ n s nl sl. subst (λ x. x ≤ largest) (sym (turned_size side (c.value n s))) (values n s nl sl)
