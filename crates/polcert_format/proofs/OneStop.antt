-- A body stops being possible at one place, and is refused there for one reason.
use Rattle.std.proofs.Common.{◌≡◌, ◌∙◌, ℕ, true, false, List, [], ◌∷◌, ◌++◌, refl, sym, ap, subst, arith, rules}
use Rattle.std.proofs.Math.Path.{subst₂}
use Rattle.std.proofs.lemmas.List.{append_assoc, append-nil}
use Rattle.polcert_format.proofs.Common.{Lexeme, Numeral, Topic, ItemFault, HasForm, IsPossible, IsOfValue, is_sign_kind, Stops, at_lexeme}
use Rattle.polcert_format.proofs.Common.{at_number, at_end, place_or, ModelSoFar}
use Rattle.polcert_cells.proofs.Basics.{true≢false, cons≢nil, same_head, same_tail}
use Rattle.polcert_format.specs.Forms.{HasNoForm}
use Rattle.polcert_format.specs.Misfits.{Expected, IsMisfit, of_value, of_place, tests_value}
use Rattle.polcert_format.specs.Wants.{expected}
use Rattle.polcert_format.proofs.Climbing.{Climbs}
use Rattle.polcert_format.proofs.OneValue.{ValueReason, one_value_reason, no_reason_after_sign}

-- ---- one lexeme

-- two cuts of one list: at the same place, or one before the other
data Cuts (xs ys : List Lexeme) (l m : Lexeme) : Type 0 where
  same : xs ≡ ys → l ≡ m → Cuts xs ys l m
  before : (w : List Lexeme) → ys ≡ xs ++ l ∷ w → Cuts xs ys l m
  after : (w : List Lexeme) → xs ≡ ys ++ m ∷ w → Cuts xs ys l m

cuts : (xs ys us vs : List Lexeme) (l m : Lexeme) → xs ++ l ∷ us ≡ ys ++ m ∷ vs → Cuts xs ys l m
cuts [] [] us vs l m e = same refl (same_head e)
cuts [] (y ∷ ys) us vs l m e = before ys (λ i. sym (same_head e) i ∷ ys)
cuts (x ∷ xs) [] us vs l m e = after xs (λ i. (same_head e) i ∷ xs)
cuts (x ∷ xs) (y ∷ ys) us vs l m e = further (same_head e) (cuts xs ys us vs l m (same_tail e))
  where
    further : x ≡ y → Cuts xs ys l m → Cuts (x ∷ xs) (y ∷ ys) l m
    further head (same e f) = same (λ i. head i ∷ e i) f
    further head (before w e) = before w (λ i. sym head i ∷ e i)
    further head (after w e) = after w (λ i. head i ∷ e i)

same_last : (xs ys : List Lexeme) (l m : Lexeme) → xs ++ l ∷ [] ≡ ys ++ m ∷ [] → l ≡ m
same_last [] [] l m e = same_head e
same_last [] (y ∷ []) l m e = absurd (cons≢nil (sym (same_tail e)))
same_last [] (y ∷ z ∷ ys) l m e = absurd (cons≢nil (sym (same_tail e)))
same_last (x ∷ []) [] l m e = absurd (cons≢nil (same_tail e))
same_last (x ∷ z ∷ xs) [] l m e = absurd (cons≢nil (same_tail e))
same_last (x ∷ xs) (y ∷ ys) l m e = same_last xs ys l m (same_tail e)

-- the body is possible before this lexeme, and isn't with it
record Breaks (k : ModelSoFar) (t : Topic) (body taken : List Lexeme) (l : Lexeme) : Type 0 where
  rest : List Lexeme
  whole : body ≡ taken ++ l ∷ rest
  possible : IsPossible k t taken
  formless : HasNoForm k t (taken ++ l ∷ [])

module _ (k : ModelSoFar) (t : Topic) where
  formless_on : (xs w : List Lexeme) (l : Lexeme) → HasNoForm k t (xs ++ l ∷ [])
      → IsPossible k t (xs ++ l ∷ w)
      → ⊥
  formless_on xs w l none p = none _ (subst (HasForm k t) (append_assoc xs _ _ ∙ sym (append_assoc xs _ _)) p.form)

  one_break : (body xs ys : List Lexeme) (l m : Lexeme) → Breaks k t body xs l → Breaks k t body ys m
      → (xs ≡ ys)
      × (l ≡ m)
  one_break body xs ys l m a b = of (cuts xs ys _ _ l m (sym a.whole ∙ b.whole))
    where
      of : Cuts xs ys l m → (xs ≡ ys) × (l ≡ m)
      of (same e f) = (e, f)
      of (before w e) = absurd (formless_on xs w l a.formless (subst (IsPossible k t) e b.possible))
      of (after w e) = absurd (formless_on ys w m b.formless (subst (IsPossible k t) e a.possible))

  no_break : (body xs : List Lexeme) (l : Lexeme) → IsPossible k t body → Breaks k t body xs l → ⊥
  no_break body xs l p b = formless_on xs _ l b.formless (subst (IsPossible k t) b.whole p)

-- ---- one kind

one_misfit : (w : Expected) (l : Lexeme) (f g : ItemFault) → (IsOfValue f → IsOfValue g → f ≡ g) → IsMisfit w l f → IsMisfit w l g
    → f ≡ g
one_misfit w l f g h1 h2 h3 = grind arith

-- ---- one stop

module _ (k : ModelSoFar) (t : Topic) (body : List Lexeme) (a end : ℕ) (climbs : Climbs a body) where
  -- where the kind is that of a number's value, the value is refused at the place
  abbrev pub HasReason : ItemFault → ℕ → Type 0
  HasReason kind place = IsOfValue kind → ValueReason t body place kind

  at_place : (p q : ℕ) (kind : ItemFault) → p ≡ q → HasReason kind p → HasReason kind q
  at_place p q kind e reason v = rw (← e) (reason v)

  one_value : (p q : ℕ) (f g : ItemFault) → p ≡ q → HasReason f p → HasReason g q → IsOfValue f → IsOfValue g → f ≡ g
  one_value p q f g e x y v w = one_value_reason t body a climbs q f g (at_place p q f e x v) (y w)

  -- a numeral after a sign is refused at the sign
  sign_or_numeral : (f g : ItemFault) (xs ys : List Lexeme) (l sign m : Lexeme) → Breaks k t body xs l
      → Breaks k t body (ys ++ sign ∷ []) m
      → is_sign_kind sign.kind ≡ true → m.kind ≡ Numeral
      → IsMisfit (expected k t xs) l f → HasReason f l.place → IsOfValue g → IsMisfit (expected k t (ys ++ sign ∷ [])) m g → ⊥
  sign_or_numeral f g xs ys l sign m x y is numeral (of_value tested v) reason w unfit =
      let same = one_break k t body xs (ys ++ sign ∷ []) l m x y in
      no_reason_after_sign t body a climbs ys y.rest sign m f y.whole is numeral
      (at_place l.place m.place f (ap (λ (n : Lexeme). n.place) same.1) reason v)
  sign_or_numeral f g xs ys l sign m x y is numeral (of_place untested e) reason w unfit =
      let same = one_break k t body xs (ys ++ sign ∷ []) l m x y in
      true≢false (grind arith)
      (subst₂ (λ ls (n : Lexeme). tests_value (expected k t ls) n.kind ≡ false) same.0 same.1 untested)

  lexeme_breaks : (xs rest : List Lexeme) (l : Lexeme) → body ≡ xs ++ l ∷ rest → IsPossible k t xs → HasNoForm k t (xs ++ l ∷ [])
      → Breaks k t body xs l
  lexeme_breaks xs rest l whole possible formless = record { rest = rest; whole = whole; possible = possible; formless = formless }

  number_breaks : (xs rest : List Lexeme) (sign l : Lexeme) → body ≡ xs ++ sign ∷ l ∷ rest → IsPossible k t (xs ++ sign ∷ [])
      → HasNoForm k t (xs ++ sign ∷ l ∷ []) → Breaks k t body (xs ++ sign ∷ []) l
  number_breaks xs rest sign l whole possible formless = record {
    rest = rest;
    whole = whole ∙ sym (append_assoc xs _ _);
    possible = possible;
    formless = subst (HasNoForm k t) (sym (append_assoc xs _ _)) formless;
  }

  pub no_stop : (kind : ItemFault) (xs us : List Lexeme) → body ≡ xs ++ us → IsPossible k t xs → Stops k t kind xs us
      → IsPossible k t body
      → us ≡ []
  no_stop kind xs us whole p (at_lexeme {l} {following} none unfit) all =
      absurd (no_break k t body xs l all (lexeme_breaks xs following l whole p none))
  no_stop kind xs us whole p (at_number {sign} {l} {following} is numeral q none v unfit) all =
      absurd (no_break k t body _ l all (number_breaks xs _ sign l whole q none))
  no_stop kind xs us whole p (at_end wrong fits e) all = refl

  -- both at the end, or neither
  end_or_stop : {A : Type 0} (kind : ItemFault) (xs us ys : List Lexeme) (l : Lexeme) (vs : List Lexeme) → us ≡ l ∷ vs → body ≡ xs ++ us
      → IsPossible k t xs → Stops k t kind xs us → body ≡ ys ++ [] → IsPossible k t ys → A
  end_or_stop kind xs us ys l vs some whole p stops other q =
      absurd (cons≢nil (sym some ∙ no_stop kind xs us whole p stops (subst (IsPossible k t) (sym (other ∙ append-nil ys)) q)))

  pub one_stop : (f g : ItemFault) (xs ys us vs : List Lexeme) → body ≡ xs ++ us → body ≡ ys ++ vs → IsPossible k t xs
      → IsPossible k t ys
      → Stops k t f xs us → Stops k t g ys vs
      → HasReason f (place_or us end) → HasReason g (place_or vs end) → (f ≡ g) × (place_or us end ≡ place_or vs end)
  one_stop f g xs ys us vs xw yw xp yp (at_lexeme {l} {following = ls} xn xm) (at_lexeme {l = m} {following = ms} yn ym) xr yr =
      let same = one_break k t body xs ys l m (lexeme_breaks xs ls l xw xp xn) (lexeme_breaks ys ms m yw yp yn) in
      let place = ap (λ (n : Lexeme). n.place) same.1 in (
        one_misfit (expected k t ys) m f g (one_value l.place m.place f g place xr yr)
            (subst₂ (λ ls n. IsMisfit (expected k t ls) n f) same.0 same.1 xm) ym,
        place,
      )
  one_stop f g xs ys us vs xw yw xp yp (at_lexeme {l} {following = ls} xn xm)
      (at_number {sign} {l = m} {following = ms} is numeral yq yn v ym) xr yr =
      search (rules, sign_or_numeral, lexeme_breaks, number_breaks)
  one_stop f g xs ys us vs xw yw xp yp (at_number {sign} {l} {following = ls} is numeral xq xn v xm)
      (at_lexeme {l = m} {following = ms} yn ym) xr yr = search (rules, sign_or_numeral, lexeme_breaks, number_breaks)
  one_stop f g xs ys us vs xw yw xp yp (at_number {sign} {l} {following = ls} is numeral xq xn v xm)
      (at_number {sign = other} {l = m} {following = ms} it digits yq yn w ym) xr yr =
      let place = ap (λ (n : Lexeme). n.place) (same_last xs ys sign other
      (one_break k t body (xs ++ sign ∷ []) (ys ++ other ∷ []) l m (number_breaks xs ls sign l xw xq xn)
      (number_breaks ys ms other m yw yq yn)).0) in
      (one_value sign.place other.place f g place xr yr v w, place)
  one_stop f g xs ys us vs xw yw xp yp (at_lexeme {l} {following = ls} xn xm) (at_end wrong fits e) xr yr =
      end_or_stop f xs (l ∷ ls) ys l ls refl xw xp (at_lexeme xn xm) yw yp
  one_stop f g xs ys us vs xw yw xp yp (at_number {sign} {l} {following = ls} is numeral xq xn v xm) (at_end wrong fits e) xr yr =
      end_or_stop f xs (sign ∷ l ∷ ls) ys sign (l ∷ ls) refl xw xp (at_number is numeral xq xn v xm) yw yp
  one_stop f g xs ys us vs xw yw xp yp (at_end wrong fits e) (at_lexeme {l = m} {following = ms} yn ym) xr yr =
      end_or_stop g ys (m ∷ ms) xs m ms refl yw yp (at_lexeme yn ym) xw xp
  one_stop f g xs ys us vs xw yw xp yp (at_end wrong fits e) (at_number {sign} {l = m} {following = ms} is numeral yq yn v ym) xr yr =
      end_or_stop g ys (sign ∷ m ∷ ms) xs sign (m ∷ ms) refl yw yp (at_number is numeral yq yn v ym) xw xp
  one_stop f g xs ys us vs xw yw xp yp (at_end wrong fits e) (at_end false_ misfits d) xr yr = grind (arith, append-nil)
