-- What the readers of the lines of the preamble answer.
use Rattle.std.proofs.Common.{◌≡◌, ◌∙◌, ◌⊎◌, inl, inr, ⊎_elim, ℕ, ◌≤◌, true, false, Option, Some, None, List, [], ◌∷◌, ◌++◌}
use Rattle.std.proofs.Common.{map, codes, refl, sym, ap, subst, arith, length-append, append_assoc}
use Rattle.std.proofs.lemmas.Bool.{cases_Bool}
use Rattle.std.proofs.lemmas.List.{map-append, append-nil}
use Rattle.std.specs.Str.Parse.{digits_value}
use Rattle.polcert_text.specs.Cut.{Lexeme}
use Rattle.polcert_text.specs.Lexemes.{are_digits}
use Rattle.polcert_text.specs.declared.tokens.TokenKind.{TokenKind}
use Rattle.polcert_text.specs.declared.tokens.TokenKind.TheVariants as kinds
use Rattle.polcert_cells.specs.Words.{IsWord, IsName}
unfoldable use Rattle.polcert_cells.specs.Words.{is_reserved}
use Rattle.polcert_format.specs.declared.fault.ItemFault.{ItemFault}
use Rattle.polcert_format.specs.declared.fault.ItemFault.TheVariants as faults
use Rattle.polcert_format.specs.Misfits.{Mark, EndOfWord, CountOrName, FurtherName, IsMisfit, of_place, unexpected_token, misfit_at}
use Rattle.polcert_format.specs.Reasons.{is_sign_kind}
use Rattle.polcert_items.specs.Steps.Elements.{ElementsGo, IsElementsRead, AreElementsSeen, ElementsReason, IsCountOf, AreNamesRead}
use Rattle.polcert_items.specs.Steps.Elements.{NamesGo}
use Rattle.polcert_items.specs.Steps.Lines.{CannotTake, DiscountGoes, DiscountReason, discount_sign, ValuesGoes}
use Rattle.polcert_items.specs.Steps.Numbers.{IsMisplaced, IsNumberStep, SignIs}
use Rattle.polcert_items.specs.Steps.Wants.{ExpectsNext, expected_by_discount, expected_by_values, expected_by_elements, number_wants}
use Rattle.polcert_items.specs.declared.preamble_lines.DiscountReader.{DiscountReader}
use Rattle.polcert_items.specs.declared.preamble_lines.DiscountReader.TheVariants as discount
use Rattle.polcert_items.specs.declared.preamble_lines.ValuesReader.{ValuesReader}
use Rattle.polcert_items.specs.declared.preamble_lines.ValuesReader.TheVariants as values
use Rattle.polcert_items.specs.declared.preamble_lines.ElementsReader.{ElementsReader}
use Rattle.polcert_items.specs.declared.preamble_lines.ElementsReader.TheVariants as elements
use Rattle.polcert_items.specs.declared.signed_number.NumberStep.{NumberStep}
use Rattle.polcert_items.specs.declared.signed_number.NumberStep.TheVariants as steps
use Rattle.polcert_items.specs.declared.signed_number.Range.TheVariants as ranges
use Rattle.polcert_items.specs.declared.signed_number.Sign.{Sign}
use Rattle.polcert_items.proofs.ElementLaws.{count_takes, count_stuck, first_takes, first_stuck, first_reason, named_takes, no_name_stuck}
use Rattle.polcert_items.proofs.ElementLaws.{known_stuck, more_read}
use Rattle.polcert_items.proofs.PreambleLines.{no_discount, discount_takes_sign, discount_takes_value}
use Rattle.polcert_items.proofs.WantLaws.{name_too_many, name_again, first_misfit}
use Rattle.polcert_existence.proofs.Decisions.{below_or_not, same_or_not, numeral_kind_or_not}
use Rattle.polcert_existence.proofs.TokenAnswers.{TokenTaken, TokenRefused, misplaced, after_numbers, colon_or_not, number_step}
use Rattle.polcert_existence.proofs.TokenAnswers.{word_or_not, name_or_not}

-- ---- the discount

number_misfit : (sign : Option Sign) (l : Lexeme) (kind : ItemFault) → IsMisfit (number_wants sign) l kind
    → IsMisfit (expected_by_discount (discount.Number sign) []) l kind
number_misfit None l kind m = m
number_misfit (Some s) l kind m = m

pub feed_discount : (old : DiscountReader) (l : Lexeme)
    → ((new : DiscountReader) × TokenTaken DiscountGoes expected_by_discount old l new × SignIs (discount_sign new) l)
    ⊎ TokenRefused DiscountGoes expected_by_discount (DiscountReason old) old l
feed_discount discount.Colon l = ⊎_elim (λ colon. inl (
  discount.Number None,
  record {
    takes = record { back = λ ls g goes. (colon, goes); on = λ ls g goes. goes.1 };
    leads = record { same = λ ls. refl };
  },
  cc,
))
    (λ no. inr (record { kind = _; place = _; stuck = λ ls g goes. no.other goes.0; reason = no.reason; misfit = no.misfit }))
    (colon_or_not l)
feed_discount (discount.Number sign) l = ⊎_elim (λ s. at s.0 s.1) (λ no. inr (record {
  kind = _;
  place = _;
  stuck = no_discount _ l no.refuses.none;
  reason = no.refuses.reason;
  misfit = number_misfit _ l _ no.misfit;
}))
    (number_step _ _ l)
  where
    at : (step : NumberStep) → IsNumberStep ranges.Discount sign l step
        → ((new : DiscountReader) × TokenTaken DiscountGoes expected_by_discount (discount.Number sign) l new
        × SignIs (discount_sign new) l)
        ⊎ TokenRefused DiscountGoes expected_by_discount (DiscountReason (discount.Number sign)) (discount.Number sign) l
    at (steps.Sign s) is = inl (
      _,
      record {
        takes = discount_takes_sign _ _ s l refl is.0 is.1;
        leads = rw is.0 (grind arith);
      },
      is.1,
    )
    at (steps.Value h) is = inl (
      _,
      record {
        takes = discount_takes_value _ _ l h refl is.0 is.1;
        leads = grind arith;
      },
      ap is_sign_kind is.0.kind,
    )
feed_discount (discount.Done d) l = let m = after_numbers l in
    inr (record {
      kind = _;
      place = _;
      stuck = λ ls g goes. let e = goes.0 in cc;
      reason = m.reason;
      misfit = of_place refl m.kind_is;
    })

-- ---- the word of `values:`

name_no_sign : (word : List ℕ) (l : Lexeme) → IsWord word l → is_sign_kind l.kind ≡ false
name_no_sign word l is = ap is_sign_kind is.kind

neither : (l : Lexeme) → (IsWord (codes "reward") l → ⊥) → (IsWord (codes "cost") l → ⊥) → CannotTake ValuesGoes values.Word l
neither l no_reward no_cost ls false goes = no_reward goes.1
neither l no_reward no_cost ls true goes = no_cost goes.1

pub feed_values : (old : ValuesReader) (l : Lexeme)
    → ((new : ValuesReader) × TokenTaken ValuesGoes expected_by_values old l new × (is_sign_kind l.kind ≡ false))
    ⊎ TokenRefused ValuesGoes expected_by_values IsMisplaced old l
feed_values values.Colon l = ⊎_elim (λ colon. inl (
  values.Word,
  record {
    takes = record { back = λ ls g goes. (colon, goes); on = λ ls g goes. goes.1 };
    leads = record { same = λ ls. refl };
  },
  cc,
))
    (λ no. inr (record { kind = no.kind; place = _; stuck = λ ls g goes. no.other goes.0; reason = no.reason; misfit = no.misfit }))
    (colon_or_not l)
feed_values values.Word l = ⊎_elim (λ reward. inl (
  values.Done false,
  record { takes = grind arith; leads = record { same = λ ls. refl } },
  name_no_sign _ l reward,
))
    (λ no_reward. ⊎_elim
    (λ cost. inl (values.Done true, record { takes = grind arith; leads = record { same = λ ls. refl } }, name_no_sign _ l cost))
    (λ no_cost. let m = misplaced Mark l refl in inr (record
    { kind = m.kind; place = _; stuck = neither l no_reward no_cost; reason = m.reason; misfit = of_place refl m.kind_is }))
    (word_or_not (codes "cost") l))
    (word_or_not _ l)
feed_values (values.Done c) l = let m = misplaced EndOfWord l refl in
    inr (record {
      kind = m.kind;
      place = _;
      stuck = λ ls g goes. let e = goes.0 in cc;
      reason = m.reason;
      misfit = of_place refl m.kind_is;
    })

-- ---- elements

-- a further name
record NameTaken (most : ℕ) (names : List (List ℕ)) (l : Lexeme) : Type 0 where
  name : IsName l
  within : AreNamesRead most (names ++ l.bytes ∷ [])

-- or none
record NameRefused (most : ℕ) (names : List (List ℕ)) (l : Lexeme) : Type 0 where
  kind : ItemFault
  stuck : CannotTake (NamesGo most) names l
  reason : ElementsReason (elements.Named names) l kind l.place
  kind_is : kind ≡ unexpected_token (FurtherName most names) (Some l)

-- a line of elements takes a token
pub record ElementsTaken (most : ℕ) (old : ElementsReader) (l : Lexeme) (new : ElementsReader) : Type 0 where
  pub step : TokenTaken (ElementsGo most) (expected_by_elements most) old l new
  pub within : IsElementsRead most new
  pub seen : (body : List Lexeme) → AreElementsSeen body old → AreElementsSeen (body ++ l ∷ []) new
  pub sign : is_sign_kind l.kind ≡ false

abbrev pub ElementsFed : ℕ → ElementsReader → Lexeme → Type 0
ElementsFed most old l = ((new : ElementsReader) × ElementsTaken most old l new)
    ⊎ TokenRefused (ElementsGo most) (expected_by_elements most) (ElementsReason old) old l

module _ (most : ℕ) where
  no_name_shape : (names : List (List ℕ)) (l : Lexeme) → (IsName l → ⊥) → misfit_at (FurtherName most names) l ≡ faults.BadShape
  no_name_shape names l none = at l.kind refl
    where
      free : l.kind ≡ kinds.Name → is_reserved l.bytes ≡ true
      free e = ⊎_elim (λ t. t) (λ f. absurd (none (record { kind = e; free = f }))) (cases_Bool _)

      at : (k : TokenKind) → l.kind ≡ k → misfit_at (FurtherName most names) l ≡ faults.BadShape
      at kinds.Name e = grind arith
      at _ e = grind arith

  as_elements : (r : ElementsReader) (l : Lexeme) (kind : ItemFault) (place : ℕ) → IsMisplaced l kind place → ElementsReason r l kind place
  as_elements r l kind place h = grind arith

  add_name : (names : List (List ℕ)) (l : Lexeme) → AreNamesRead most names → NameTaken most names l ⊎ NameRefused most names l
  add_name names l read = ⊎_elim (λ name. ⊎_elim (λ full. inr (record {
    kind = _;
    stuck = λ ls e g. let few = g.few in omega (arith, few, full, length-append names (map (λ (m : Lexeme). m.bytes) (l ∷ ls)));
    reason = refl;
    kind_is = name_too_many _ _ l name full;
  }))
      (λ room. ⊎_elim
      (λ known. inr (record {
        kind = _;
        stuck = known_stuck _ _ l known;
        reason = (refl, name, known);
        kind_is = name_again _ _ l name room;
      }))
      (λ new. inl (record { name = name; within = more_read _ _ _ read room new }))
      (cases_Bool _))
      (same_or_not _ _))
      (λ none. let m = misplaced (FurtherName _ _) l (no_name_shape _ l none) in
      inr (record {
        kind = _;
        stuck = no_name_stuck _ _ l none;
        reason = grind arith;
        kind_is = m.kind_is;
      }))
      (name_or_not l)

  whole_count : (l : Lexeme) → l.kind ≡ kinds.Numeral → are_digits l.bytes ≡ true → ((n : ℕ) × IsCountOf most l n)
      ⊎ ((n : ℕ) → IsCountOf most l n → ⊥)
  whole_count l e digits = ⊎_elim (λ some. ⊎_elim (λ many. inr (λ m c. omega arith))
      (λ few. inl (_, (record { kind = e; digits = digits; value = refl }, omega arith, few)))
      (below_or_not _ _))
      (λ none. inr (λ m c. omega arith))
      (below_or_not 0 (digits_value 10 l.bytes))

  bad_count : (l : Lexeme) → l.kind ≡ kinds.Numeral → faults.BadCount ≡ unexpected_token CountOrName (Some l)
  bad_count l e = grind arith

  no_numeral_name : (l : Lexeme) → IsName l → is_sign_kind l.kind ≡ false
  no_numeral_name l is = ap is_sign_kind is.kind

  count_leads : (l : Lexeme) (n : ℕ) → l.kind ≡ kinds.Numeral
      → ExpectsNext (expected_by_elements most elements.First) l (expected_by_elements most (elements.Counted n))
  count_leads l n e = grind arith

  first_names : AreNamesRead most []
  first_names = record { few = omega arith; apart = grind arith }

  first_seen : (l : Lexeme) (body : List Lexeme) → AreElementsSeen body elements.First
      → AreElementsSeen (body ++ l ∷ []) (elements.Named (l.bytes ∷ []))
  first_seen l body s = record { colon = s.0; further = l ∷ []; whole = cc; names_are = refl }

  pub feed_elements : 1 ≤ most → (old : ElementsReader) (l : Lexeme) → IsElementsRead most old → ElementsFed most old l
  feed_elements some elements.Colon l read = ⊎_elim (λ colon. inl (
    elements.First,
    record {
      step = record {
        takes = record { back = λ ls g goes. (colon, goes); on = λ ls g goes. goes.1 };
        leads = record { same = λ ls. refl };
      };
      within = tt;
      seen = λ body s. (l, cc);
      sign = ap is_sign_kind colon;
    },
  ))
      (λ no. inr (record {
        kind = _;
        place = _;
        stuck = λ ls g goes. no.other goes.0;
        reason = as_elements elements.Colon l no.kind l.place no.reason;
        misfit = no.misfit;
      }))
      (colon_or_not l)
  feed_elements some elements.First l read = ⊎_elim (λ numeral. ⊎_elim (λ c. inl (
    _,
    record {
      step = record { takes = count_takes _ l c.0 c.1; leads = count_leads l c.0 numeral };
      within = (c.1.1, c.1.2);
      seen = λ body s. tt;
      sign = cc;
    },
  ))
      (λ none. inr (record {
        kind = faults.BadCount;
        place = _;
        stuck = count_stuck _ l numeral none;
        reason = refl;
        misfit = of_place (grind arith) (bad_count l numeral);
      }))
      (⊎_elim (whole_count l numeral) (λ none. inr (λ m c. let d = c.0.digits in cc)) (cases_Bool (are_digits l.bytes))))
      (λ other. ⊎_elim
      (λ t. inl (
        _,
        record {
          step = record { takes = first_takes most l _ t.name refl; leads = grind arith };
          within = (omega arith, t.within);
          seen = first_seen l;
          sign = no_numeral_name l t.name;
        },
      ))
      (λ no. inr (record {
        kind = _;
        place = _;
        stuck = first_stuck most l other no.stuck;
        reason = first_reason l _ _ no.reason;
        misfit = first_misfit most l _ _ some other no.reason no.kind_is;
      }))
      (add_name [] l (first_names)))
      (numeral_kind_or_not _)
  feed_elements some (elements.Counted n) l read =
      let m = misplaced EndOfWord l refl in inr (record {
        kind = _;
        place = l.place;
        stuck = λ ls g goes. let e = goes.0 in cc;
        reason = grind arith;
        misfit = of_place refl m.kind_is;
      })
  feed_elements some (elements.Named names) l read = ⊎_elim (λ t. inl (
    _,
    record {
      step = record {
        takes = named_takes most _ _ (names ++ l.bytes ∷ []) l refl t.name refl;
        leads =
            record { same = λ ls. ap (FurtherName most) (sym (append_assoc names (l.bytes ∷ []) (map (λ (m : Lexeme). m.bytes) ls))) };
      };
      within = (omega (arith, length-append names (l.bytes ∷ [])), t.within);
      seen = λ body s. record {
        colon = s.colon;
        further = s.further ++ l ∷ [];
        whole = ap (λ ls. ls ++ l ∷ []) s.whole;
        names_are =
            ap (λ ns. ns ++ l.bytes ∷ []) s.names_are ∙ sym (map-append (λ (m : Lexeme). m.bytes) s.further (l ∷ []));
      };
      sign = no_numeral_name l t.name;
    },
  ))
      (λ no. inr (record {
        kind = no.kind;
        place = _;
        stuck = no.stuck;
        reason = no.reason;
        misfit =
            of_place refl (subst (λ ns. no.kind ≡ unexpected_token (FurtherName most ns) (Some l)) (sym (append-nil names)) no.kind_is);
      }))
      (add_name _ l read.1)
