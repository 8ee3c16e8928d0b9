-- What is so or isn't: numbers, bytes and kinds of tokens.
use Rattle.std.proofs.Common.{◌≡◌, ◌≢◌, ◌⊎◌, inl, inr, ⊎_elim, ℕ, ◌<◌, ◌≤◌, Bool, true, false, List, bytes_eq, refl, arith}
use Rattle.std.proofs.lemmas.Slice.Eq.{bytes_eq-Decides}
use Rattle.polcert_text.specs.declared.tokens.TokenKind.{TokenKind}
use Rattle.polcert_text.specs.declared.tokens.TokenKind.TheVariants as kinds
use Rattle.polcert_policy.proofs.Places.{order}

pub below_or_not : (m n : ℕ) → (m < n) ⊎ (n ≤ m)
below_or_not m n = grind arith

pub same_or_not : (m n : ℕ) → (m ≡ n) ⊎ (m ≢ n)
same_or_not m n = ⊎_elim (λ l. inr (grind arith)) (λ h. ⊎_elim inl (λ l. inr (grind arith)) h) (order m n)

pub same_bytes_or_not : (xs ys : List ℕ) → (xs ≡ ys) ⊎ (xs ≢ ys)
same_bytes_or_not xs ys = at (bytes_eq xs ys) refl
  where
    at : (b : Bool) → bytes_eq xs ys ≡ b → (xs ≡ ys) ⊎ (xs ≢ ys)
    at true e = inl (grind (arith, bytes_eq-Decides xs ys))
    at false e = inr (λ same. grind (arith, bytes_eq-Decides xs ys))

pub name_kind_or_not : (kind : TokenKind) → (kind ≡ kinds.Name) ⊎ (kind ≢ kinds.Name)
name_kind_or_not kinds.Name = inl refl
name_kind_or_not _ = inr (λ e. cc)

pub numeral_kind_or_not : (kind : TokenKind) → (kind ≡ kinds.Numeral) ⊎ (kind ≢ kinds.Numeral)
numeral_kind_or_not kinds.Numeral = inl refl
numeral_kind_or_not _ = inr (λ e. cc)

pub colon_kind_or_not : (kind : TokenKind) → (kind ≡ kinds.Colon) ⊎ (kind ≢ kinds.Colon)
colon_kind_or_not kinds.Colon = inl refl
colon_kind_or_not _ = inr (λ e. cc)

pub star_kind_or_not : (kind : TokenKind) → (kind ≡ kinds.Star) ⊎ (kind ≢ kinds.Star)
star_kind_or_not kinds.Star = inl refl
star_kind_or_not _ = inr (λ e. cc)
