-- Each text has a cut.
use Rattle.std.proofs.Common.{◌≡◌, ◌∙◌, ℕ, zero, suc, ◌+◌, ◌<◌, ◌≤◌, Bool, true, false, ◌⊎◌, inl, inr, Option, Some, is_some, List, rules}
use Rattle.std.proofs.Common.{[], ◌∷◌, length, take, drop, refl, sym, ap, subst, arith}
use Rattle.std.proofs.lemmas.List.{length-drop}
use Rattle.polcert_text.proofs.Common.{kind_of, is_gap, IsLongestGap, IsLongestLexeme, Lexeme, Rest, is_glued, IsTokenAt, IsFaultAt}
use Rattle.polcert_text.proofs.Common.{TakesToken, Ends, TokenKind, Numeral, TokenFault}
use Rattle.polcert_text.specs.Cut.{HasCut}
use Rattle.polcert_text.specs.declared.tokens.TokenFault.TheVariants.{BadByte, TokenTooLong, Glued}

-- ---- the last number that passes a test

data Last (p : ℕ → Bool) (n : ℕ) : Type 0 where
  nothing : ((k : ℕ) → k ≤ n → p k ≡ false) → Last p n
  found : (m : ℕ) → m ≤ n → p m ≡ true → ((k : ℕ) → m < k → k ≤ n → p k ≡ false) → Last p n

last_of : (p : ℕ → Bool) (n : ℕ) → Last p n → (b : Bool) → p (suc n) ≡ b → Last p (suc n)
last_of p n before true e = found (suc n) (omega arith) e (λ k m l. absurd (omega arith))
last_of p n (nothing f) false e = grind arith
last_of p n (found m w t f) false e = found m (omega (arith, w)) t (λ k more l. below k more (grind arith))
  where
    below : (k : ℕ) → m < k → (k ≤ n) ⊎ (k ≡ suc n) → p k ≡ false
    below k more (inl less) = f k more less
    below k more (inr same) = ap p same ∙ e

first_of_all : (p : ℕ → Bool) (b : Bool) → p 0 ≡ b → Last p 0
first_of_all p true e = found 0 (omega arith) e (λ k m l. absurd (omega arith))
first_of_all p false e = nothing (λ k l. ap p (omega (arith, l)) ∙ e)

last : (p : ℕ → Bool) (n : ℕ) → Last p n
last p zero = first_of_all p (p 0) refl
last p (suc n) = last_of p n (last p n) _ refl

-- ---- gaps and lexemes

true≢false : {b : Bool} → b ≡ true → b ≡ false → ⊥
true≢false e f = cc

some_gap : (bs : List ℕ) → (n : ℕ) × IsLongestGap bs n
some_gap bs = at (last _ _)
  where
    at : Last (λ k. is_gap (take k bs)) (length bs) → (n : ℕ) × IsLongestGap bs n
    at (nothing f) = absurd (true≢false refl (f 0 (omega arith)))
    at (found m w t f) = (m, record { within = w; gap = t; longest = f })

some_kind : (o : Option TokenKind) → is_some o ≡ true → (k : TokenKind) × (o ≡ Some k)
some_kind = grind arith

-- what is at the front of some bytes
data LexemePrefix (place : ℕ) (bs : List ℕ) : Type 0 where
  token : (t : Lexeme) → IsTokenAt place bs t → LexemePrefix place bs
  fault : (f : TokenFault) → IsFaultAt place bs f → LexemePrefix place bs

-- only a numeral is glued
glued_kind : (k : TokenKind) (bs : List ℕ) → is_glued k bs ≡ true → k ≡ Numeral
glued_kind = grind arith

short_front : (place : ℕ) (bs : List ℕ) (kind : TokenKind) (m : ℕ) → IsLongestLexeme bs kind m → m ≤ 400 → (b : Bool)
    → is_glued kind (drop m bs) ≡ b → LexemePrefix place bs
short_front place bs kind m is short true e =
    let numeral = glued_kind kind (drop m bs) e in
    fault (Glued place) (
      refl,
      (
        m,
        rw (← numeral) is,
        short,
        cc,
      ),
    )
short_front place bs kind m is short false e =
    let same : m ≡ length (take m bs) = search rules in
    token _ (record {
      lexeme = subst (IsLongestLexeme bs kind) same is;
      place_is = refl;
      bytes_are = ap (λ n. take n bs) same;
      short = rw (← same) short;
      apart = cc;
    })

some_front : (place : ℕ) (bs : List ℕ) → LexemePrefix place bs
some_front place bs = at (last _ _)
  where
    of_size : (m : ℕ) (kind : TokenKind) → IsLongestLexeme bs kind m → (m ≤ 400) ⊎ (400 < m) → LexemePrefix place bs
    of_size m kind is (inl short) = short_front place bs kind m is short _ refl
    of_size m kind is (inr long) = fault (TokenTooLong place)
        (refl, record { kind = kind; len = m; within = is.within; lexeme = is.lexeme; long = long })

    at : Last (λ k. is_some (kind_of (take k bs))) (length bs) → LexemePrefix place bs
    at (nothing f) = fault (BadByte place) (refl, λ k l. grind arith)
    at (found m w t f) =
        let kind = some_kind _ t in
        of_size m kind.0 (record { within = w; lexeme = kind.1; longest = λ k more l. grind arith })
        (grind arith)

-- ---- the cut

-- a token has some bytes
some_bytes : (place : ℕ) (bs : List ℕ) (t : Lexeme) → IsTokenAt place bs t → (n : ℕ) → length t.bytes ≡ n → 1 ≤ n
unfolding kind_of
some_bytes = grind arith

module _ (old : Rest) (new : Rest) (t : Lexeme) where
  pub has_bytes : TakesToken old t new → 1 ≤ length t.bytes
  has_bytes takes = some_bytes _ _ t takes.token_at _ refl

  -- a token leaves less than there was
  pub shorter : TakesToken old t new → length new.bytes + 1 ≤ length old.bytes
  shorter takes =
      let some = has_bytes takes in
      let within = takes.token_at.lexeme.within in
      omega (
        arith,
        some,
        within,
        ap (λ (r : Rest). length r.bytes) takes.rest,
        length-drop (length t.bytes)
            (drop takes.gap old.bytes),
        length-drop takes.gap old.bytes,
      )

-- what comes next
data Next (rest : Rest) : Type 0 where
  end : (answer : Option TokenFault) → Ends rest answer → Next rest
  takes : (t : Lexeme) (new : Rest) → TakesToken rest t new → length new.bytes < length rest.bytes → Next rest

module _ (rest : Rest) (gap : ℕ) where
  next_front : IsLongestGap rest.bytes gap → (b : ℕ) (bs : List ℕ) → drop gap rest.bytes ≡ b ∷ bs
      → LexemePrefix (rest.place + gap) (b ∷ bs) → Next rest
  next_front longest b bs e (fault f is) =
      end (Some f) (record {
        gap = gap;
        longest = longest;
        ends_at = rw e is;
      })
  next_front longest b bs e (token t is) =
      let new : Rest = record {
        place = _;
        bytes = drop (length t.bytes) (drop gap rest.bytes);
        ending = _;
      } in
      let some = some_bytes _ (b ∷ bs) t is _ refl in
      let within =
      subst (λ (xs : List ℕ). length t.bytes ≤ length xs) (sym e) is.lexeme.within in
      let less = length-drop gap rest.bytes in
      let lesser = length-drop (length t.bytes) (drop gap rest.bytes) in
      let new_takes : TakesToken rest t new =
      record { gap = gap; longest = longest; token_at = rw e is; rest = refl } in
      takes t new new_takes (omega arith)

  next_at : IsLongestGap rest.bytes gap → (bs : List ℕ) → drop gap rest.bytes ≡ bs → Next rest
  next_at longest [] e =
      end rest.ending (record {
        gap = gap;
        longest = longest;
        ends_at = rw e refl;
      })
  next_at longest (b ∷ bs) e = next_front longest b bs e (some_front _ _)

-- the cut of what comes next, where shorter rests have one
cut_next : (rest : Rest) → ((new : Rest) → length new.bytes < length rest.bytes → HasCut new) → Next rest → HasCut rest
cut_next rest shorter (end answer ends) = ([], answer, ends)
cut_next rest shorter (takes t new is less) =
    let more = shorter new less in
    (t ∷ more.0, more.1, (new, is, more.2))

cut_within : (fuel : ℕ) (rest : Rest) → length rest.bytes < fuel → HasCut rest
cut_within zero rest room = absurd (omega arith)
cut_within (suc fuel) rest room = cut_next rest (λ new less. cut_within fuel new (omega arith))
    (let g = some_gap rest.bytes in next_at rest g.0 g.1 (drop g.0 rest.bytes) refl)

pub some_cut : (rest : Rest) → HasCut rest
some_cut rest = cut_within (suc (length rest.bytes)) rest (omega arith)
