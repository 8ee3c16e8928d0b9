-- A list that is filled part by part.
use Rattle.std.proofs.Common.{◌≡◌, ◌∙◌, ℕ, ◌+◌, ◌<◌, ◌≤◌, ⊎_elim, List, ◌++◌, length, get_or, take, sym, ap, refl, arith}
use Rattle.polcert_rules.proofs.Common.{cases_lt, get_or_append_left}
use Rattle.std.proofs.lemmas.List.{get_or-take, get_or-append_right, length-take-le}
use Rattle.std.proofs.lemmas.Slice.{take-put_mid}
use borrow.Rule.Slice.PartMut.{put_mid}

at_front : {X : Type 0} (done k i : ℕ) (xs ys : List X) (d : X) → done ≤ length xs → i < done + length ys
    → get_or (put_mid done k xs ys) i d ≡ get_or (take done xs ++ ys) i d
at_front done k i xs ys d within l =
    sym (get_or-take _ _ i d l)
    ∙ ap (λ zs. get_or zs i d) (take-put_mid done k xs ys _ refl within)

-- What was written before stays, and what was written in the part from there on stands after it.
pub filled_part : {X : Type 0} (P : ℕ → X → Type 0) (done size k : ℕ) (xs ys : List X) (d : X) → done ≤ length xs → size ≤ length ys
    → ((i : ℕ) → i < done → P i (get_or xs i d)) → ((i : ℕ) → i < size → P (done + i) (get_or ys i d))
    → (i : ℕ) → i < done + size → P i (get_or (put_mid done k xs ys) i d)
filled_part P done size k xs ys d within room before part i l =
    grind (arith, ⊎_elim, cases_lt, get_or-take, get_or_append_left, get_or-append_right, length-take-le, at_front)
