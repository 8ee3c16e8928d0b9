-- The places of a walk over all pairs: by action, then by node, then by state.
use Rattle.std.proofs.Common.{◌≡◌, ℕ, ◌+◌, ◌<◌, ◌≤◌, ◌⊎◌, inl, inr, ⊎_elim, subst, arith}
use Rattle.polcert_check.proofs.Common.{Controller, IsClosed, IsPair, IsWalked, IsFound, IsFoundBefore, Findings, Yes, PairPasses}
use Rattle.polcert_check.specs.Steps.Findings.{NamesUntil}
use Rattle.polcert_check.proofs.Walking.Found.{IsNext, IsAfter, found_wider, noted_pass}

module _ (c : Controller) where
  -- ---- one pair more
  pub next_pair : (n s : ℕ) → IsPair c n s → IsNext (IsWalked c (c.action n) n s) (IsWalked c (c.action n) n (s + 1)) n s
  next_pair n s pair = grind arith

  pub pair_passed : (n s : ℕ) (f : Findings) → IsPair c n s → PairPasses c n s → IsFoundBefore c (c.action n) n s f
      → IsFoundBefore c (c.action n) n (s + 1) f
  pair_passed n s f pair passes is = noted_pass c (IsWalked c (c.action n) n s) (IsWalked c (c.action n) n (s + 1)) n s (next_pair n s pair)
      f is passes

  -- ---- the states are done at a node
  -- what is walked with the whole node was walked before, or is one of its pairs from s on
  abbrev IsLeft : ℕ → ℕ → ℕ → ℕ → ℕ → Type 0
  IsLeft a n s m t = (m ≡ n) × (c.action m ≡ a) × (s ≤ t) × (t < c.cells.states)

  from_node : (a n s m t : ℕ) → IsWalked c a (n + 1) 0 m t → IsWalked c a n s m t ⊎ IsLeft a n s m t
  from_node a n s m t p = grind arith

  node_over : (a n s : ℕ) (f : Findings) → IsFoundBefore c a n s f → ((m t : ℕ) → IsLeft a n s m t → IsAfter f.first m t)
      → IsFoundBefore c a (n + 1) 0 f
  node_over a n s f is left =
      found_wider c (IsWalked c a n s) (IsWalked c a (n + 1) 0) f is
      (λ m t p. grind arith)
      (λ m t q. ⊎_elim (λ p. inl p) (λ k. inr (left m t k)) (from_node a n s m t q))

  pub node_done : (a n s : ℕ) (f : Findings) → IsFoundBefore c a n s f → c.cells.states ≤ s → IsFoundBefore c a (n + 1) 0 f
  node_done a n s f is all =
      node_over a n s f is (λ m t k. let l = k.2 in absurd (omega (arith, l, k.3, all)))

  pub node_settled : (n s : ℕ) (f : Findings) → IsFoundBefore c (c.action n) n s f → NamesUntil f.first n
      → IsFoundBefore c (c.action n) (n + 1) 0 f
  node_settled n s f is until_n = grind arith

  pub node_passed : (a n : ℕ) (f : Findings) → IsFoundBefore c a n 0 f → (c.action n ≡ a → ⊥) → IsFoundBefore c a (n + 1) 0 f
  node_passed a n f is other =
      node_over a n 0 f is (λ m t k. absurd (other (subst (λ j. c.action j ≡ a) k.0 k.1)))

  -- ---- the nodes of an action are done
  pub action_done : (a n : ℕ) (f : Findings) → IsFoundBefore c a n 0 f → c.nodes ≤ n → IsFoundBefore c (a + 1) 0 0 f
  action_done a n f is all =
      found_wider c (IsWalked c a n 0) (IsWalked c (a + 1) 0 0) f is (λ m t p. grind arith) (λ m t q. inl (grind arith))

  -- ---- the beginning and the end
  pub nothing_found : (f : Findings) → f.first ≡ Yes → f.short ≡ Yes → f.worst ≡ 0 → IsFoundBefore c 0 0 0 f
  nothing_found f first short worst = grind arith

  pub all_walked : IsClosed c → (a : ℕ) (f : Findings) → IsFoundBefore c a 0 0 f → c.cells.actions ≤ a → IsFound c (IsPair c) f
  all_walked closed a f is all =
      found_wider c (IsWalked c a 0 0) (IsPair c) f is (λ m t p. p.0)
      (λ m t q. inl (q, inl (omega (arith, (closed.actions_in_range m q.0), all))))
