-- The part of an array that is in use.
use Rattle.std.proofs.Common.{◌≡◌, ◌∙◌, ℕ, ◌+◌, ◌-◌, ◌≤◌, List, ◌++◌, length, take, drop, sym, ap, arith}
use Rattle.polcert_text.proofs.Common.{drop-take, drop-append-le, take-append-le, take-append-add}
use Rattle.std.proofs.lemmas.List.{drop-drop, length-take-le, length-drop}

pub used_consumed : (xs : List ℕ) (s e n : ℕ) → s + n ≤ e → take (e - (s + n)) (drop (s + n) xs) ≡ drop n (take (e - s) (drop s xs))
used_consumed xs s e n h =
    let m = e - (s + n) in
    sym (ap (λ k. drop n (take k (drop s xs))) (omega arith) ∙ drop-take n m (drop s xs) ∙ ap (take m) (drop-drop n s xs))

module _ (xs : List ℕ) (ys : List ℕ) (post : List ℕ) where
  pub used_filled : (s e k : ℕ) → s ≤ e → e ≤ length xs → k ≤ length ys
      → take (e + k - s) (drop s (take e xs ++ (ys ++ post))) ≡ take (e - s) (drop s xs) ++ take k ys
  used_filled s e k a b c =
      let front = take e xs in
      let used = take (e - s) _ in
      let len = length-take-le e xs b in
      let split : e ≡ s + (e - s) = omega arith in
      let cut = drop-append-le s front _ (omega arith)
      ∙ ap (λ zs. zs ++ (ys ++ post)) (ap (λ n. drop s (take n xs)) split ∙ drop-take s (e - s) xs) in
      let used_len = length-take-le (e - s) (drop s xs) (omega (arith, length-drop s xs)) in
      ap (take (e + k - s)) cut ∙ ap (λ n. take n (used ++ (ys ++ post))) (omega arith) ∙ take-append-add used (ys ++ post) k
      ∙ ap (λ zs. used ++ zs) (take-append-le k ys post c)

  -- the same of the part at the front
  pub front_filled : (e k : ℕ) → e ≤ length xs → k ≤ length ys
      → take (e + k - 0) (drop 0 (take e xs ++ (ys ++ post))) ≡ take e xs ++ take k ys
  front_filled e k b c = used_filled 0 e k (omega arith) b c ∙ ap (λ n. take n xs ++ take k ys) (omega arith)
