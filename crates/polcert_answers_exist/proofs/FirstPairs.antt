-- A finite search over pairs, by the first number and then by the second.
use Rattle.std.proofs.Common.{◌⊎◌, inl, inr, ⊎_elim, ℕ, ◌<◌, sym, subst}
use Rattle.polcert_check.specs.Verdict.{IsBefore}
use Rattle.polcert_existence.proofs.FirstFailures.{FirstFailure, all_or_first}

-- the first pair within the bounds that fails
pub record FirstPair (Good : ℕ → ℕ → Type 0) (nodes states : ℕ) : Type 0 where
  pub node : ℕ
  pub state : ℕ
  pub node_below : node < nodes
  pub state_below : state < states
  pub fails : Good node state → ⊥
  pub before : (m t : ℕ) → m < nodes → t < states → IsBefore m t node state → Good m t

module _ (Good : ℕ → ℕ → Type 0) (decide : (n s : ℕ) → Good n s ⊎ (Good n s → ⊥)) (nodes states : ℕ) where
  abbrev AllGoodAt : ℕ → Type 0
  AllGoodAt n = (s : ℕ) → s < states → Good n s

  good_at : (n : ℕ) → AllGoodAt n ⊎ (AllGoodAt n → ⊥)
  good_at n = ⊎_elim inl (λ f. inr (λ all. f.fails (all f.at f.inside))) (all_or_first (Good n) (decide n) states)

  all_before : (f : FirstFailure AllGoodAt nodes) (g : FirstFailure (Good f.at) states) (m t : ℕ) → t < states → IsBefore m t f.at g.at
      → Good m t
  all_before f g m t l b = ⊎_elim (λ earlier. f.before m earlier t l) (λ same. subst (λ n. Good n t) (sym same.0) (g.before t same.1)) b

  pub pairs_or_first : ((n s : ℕ) → n < nodes → s < states → Good n s) ⊎ FirstPair Good nodes states
  pairs_or_first = ⊎_elim
      (λ all. inl (λ n s l k. all n l s k))
      (λ f. ⊎_elim (λ all. absurd (f.fails all))
      (λ g. inr (record {
        node = f.at;
        state = g.at;
        node_below = f.inside;
        state_below = g.inside;
        fails = g.fails;
        before = λ m t l k b. all_before f g m t k b;
      }))
      (all_or_first (Good f.at) (decide f.at) states))
      (all_or_first AllGoodAt good_at nodes)
