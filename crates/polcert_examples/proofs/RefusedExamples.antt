-- A discount above one is refused: kind, item and place are what one expects.
use Rattle.std.proofs.Common.{◌≡◌, ℕ, ◌≤◌, [], ◌∷◌, pos, codes, refl, subst, arith, lit≤}
use Rattle.polcert_examples.proofs.Common.{All-from_recursion, Discount, topic_of, none, unsigned, Item, IsDivided, nothing_known}
use Rattle.polcert_examples.proofs.Common.{numeral_at}
use Rattle.polcert_format.specs.declared.fault.ItemFault.TheVariants.{DiscountRange}
use Rattle.polcert_cells.specs.Numbers.{one}
use Rattle.polcert_format.specs.Items.{IsItem}
use Rattle.polcert_format.specs.Text as texts
use Rattle.polcert_format.specs.Reading.{IsWrong}
use Rattle.polcert_format.specs.FirstWrong.{wrong_item}
use Rattle.polcert_format.specs.Reasons.{unsigned as unsigned_number}
use Rattle.polcert_format.specs.Refusals.{IsItemRefusal}
use Rattle.polcert_examples.specs.Worked.RefusedExamples.{name_at, colon_at, above_one}
use Rattle.polcert_examples.proofs.Computed.{numerals}
use Rattle.polcert_cells.proofs.Basics.{one_some, same_head}
use Rattle.polcert_cells.proofs.NumberLaws.{one_list}
use Rattle.polcert_format.proofs.PlaceLaws.{lies_in_item}
use Rattle.polcert_format.proofs.DecidedLaws.{nothing_decided}

abbrev above_item : Item
above_item = record { word = name_at 0 (codes "discount"); body = colon_at 8 ∷ numeral_at 10 (codes "2") ∷ [] }

is_item : IsItem above_item
unfolding topic_of
is_item = record { word = refl; body = refl }

divided : IsDivided above_one.lexemes [] (above_item ∷ [])
divided = record { whole = refl; no_word = refl; each = All-from_recursion IsItem (above_item ∷ []) (is_item, tt) }

no_fraction : (p : ℕ) → pos 2_000_000 ≡ pos p → p ≤ one → ⊥
no_fraction p e l = let f : ◌≡◌ {A = ℕ} 2_000_000 p = cc in omega (arith, f, l)

two_is_wrong : IsWrong nothing_known Discount above_item.body
two_is_wrong after (texts.discount {g = g} p e c n l) = no_fraction g (same_head (one_list (unsigned (numerals.two 10) none) n)) l

pub above_one_refused : IsItemRefusal above_one DiscountRange 1 10
unfolding topic_of
above_one_refused = record {
  first_wrong = wrong_item [] above_item [] nothing_known divided texts.none
      (λ t e. subst (λ u. IsWrong nothing_known u above_item.body) (one_some refl e) two_is_wrong) refl;
  lies = lies_in_item above_one [] above_item [] (colon_at 8 ∷ []) (numeral_at 10 (codes "2") ∷ []) (lit≤ tt, (lit≤ tt, (lit≤ tt, lit≤ tt)))
      divided refl;
  reason = record {
    before = [];
    item = above_item;
    after = [];
    divided = divided;
    number_is = refl;
    t = Discount;
    topic_is = refl;
    holds = (
      refl,
      unsigned_number (colon_at 8 ∷ []) (numeral_at 10 (codes "2")) [] refl refl refl
          (pos 2_000_000, numerals.two 10, no_fraction),
    );
  };
  decided = λ fault at d. absurd (nothing_decided above_one [] above_item [] nothing_known Discount fault at divided texts.none refl refl
      d);
}
