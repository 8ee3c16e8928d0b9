-- Elements, token by token.
use Rattle.std.proofs.Common.{◌≡◌, ◌≢◌, ℕ, ◌≤◌, true, false, List, [], ◌∷◌, ◌++◌, length, get_or, map, bytes_eq, codes, Result}
use Rattle.std.proofs.Common.{OnOk, refl, sym, ap, subst, arith, lit≤, append_assoc, length-append}
use Rattle.polcert_items.proofs.Common.{common_steps, list_any, All-cons, All-nil, All-tail, is_digit, Lexeme, Numeral, ItemFault}
use Rattle.polcert_items.proofs.Common.{DuplicateName, ElementsReader, IsName, IsWhole, Elements, Count, TakesLexeme, CannotTake, NamesGo}
use Rattle.polcert_items.proofs.Common.{AreNamesRead, ElementsReason, AreElementsSeen}
use Rattle.polcert_cells.specs.declared.elements.Elements.TheVariants.{Names}
use Rattle.polcert_items.specs.Steps.Elements.{names_with, ElementsGo, IsElementsRead, IsCountOf}
use Rattle.std.proofs.lemmas.List.{append-nil, get_or_append_left, length-map}
use Rattle.std.proofs.lemmas.Cmp.{nat_list_eq_equiv}
use Rattle.std.proofs.lemmas.List.Folds.{Any-from_list_any, list_any_at}
use Rattle.std.proofs.lemmas.List.Quantifiers.{all_pairs_push}
use Rattle.std.proofs.lemmas.Slice.Eq.{bytes_eq-Decides}
use Rattle.polcert_items.specs.declared.preamble_lines.ElementsReader.TheVariants as readers
use Rattle.polcert_cells.specs.Elements.{AreElements, counted, named}
use Rattle.polcert_format.specs.Reasons.{IsRepeated}
use Rattle.polcert_format.proofs.StillPossible.{a_colon}

-- ---- a count

module _ (most : ℕ) (l : Lexeme) where
  -- after a count nothing comes
  pub count_takes : (n : ℕ) → IsCountOf most l n → TakesLexeme (ElementsGo most) readers.First l (readers.Counted n)
  count_takes = grind (arith, counted)

  -- a numeral that is no count from 1 to the most
  pub count_stuck : l.kind ≡ Numeral → ((n : ℕ) → IsCountOf most l n → ⊥)
      → CannotTake (ElementsGo most) readers.First l
  count_stuck = grind arith

-- ---- names

module _ (most : ℕ) (names : List (List ℕ)) (l : Lexeme) where
  one_more : (ls : List Lexeme) → names_with (names ++ l.bytes ∷ []) ls ≡ names_with names (l ∷ ls)
  one_more ls = append_assoc names _ _

  pub name_takes : IsName l → TakesLexeme (NamesGo most) names l (names ++ l.bytes ∷ [])
  name_takes name = record {
    back = λ ls e g. let all = All-cons IsName l ls name g.all in grind (arith, one_more ls);
    on = λ ls e g. let all = All-tail IsName l ls g.all in grind (arith, one_more ls);
  }

  pub no_name_stuck : (IsName l → ⊥) → CannotTake (NamesGo most) names l
  no_name_stuck = grind arith

at_seam : (xs : List (List ℕ)) (x : List ℕ) (ys : List (List ℕ)) (d : List ℕ) → get_or (xs ++ x ∷ ys) (length xs) d ≡ x
at_seam [] x ys d = refl
at_seam (y ∷ xs) x ys d = at_seam xs x ys d

module _ (most : ℕ) (names : List (List ℕ)) where
  pub known_stuck : (l : Lexeme) → list_any (bytes_eq l.bytes) names ≡ true
      → CannotTake (NamesGo most) names l
  known_stuck l e = λ ls elements g. (let found = Any-from_list_any (bytes_eq l.bytes) names e in
      grind (arith, g.apart found.0 (length names) found.1, length-append, get_or_append_left, at_seam, bytes_eq-Decides l.bytes found.1))

  pub more_read : (name : List ℕ) → AreNamesRead most names → length names ≢ most
      → list_any (bytes_eq name) names ≡ false → AreNamesRead most (names ++ name ∷ [])
  more_read = grind (arith, bytes_eq, length-append, common_steps, list_any_at, all_pairs_push, bytes_eq-Decides)

-- ---- the first name

module _ (most : ℕ) (l : Lexeme) where
  names_only : (l.kind ≡ Numeral → ⊥) → (xs ls : List Lexeme) (e : Elements) → xs ≡ l ∷ ls → AreElements most xs e
      → NamesGo most [] xs e
  names_only = grind (arith, length-map)

  some_names : (ls : List Lexeme) (e : Elements) → NamesGo most [] (l ∷ ls) e → AreElements most (l ∷ ls) e
  some_names ls e g =
      subst (AreElements most (l ∷ ls)) (sym g.elements_are)
      (named g.all (omega arith) (rw (← length-map (l ∷ ls) (λ l. l.bytes)) g.few) g.apart)

  pub first_takes : (names : List (List ℕ)) → IsName l → names ≡ l.bytes ∷ []
      → TakesLexeme (ElementsGo most) readers.First l (readers.Named names)
  first_takes names name is = rw is (record {
    back = λ ls e g. some_names ls e ((name_takes most [] l name).back ls e g);
    on = λ ls e a. (name_takes most [] l name).on ls e (names_only (λ k. cc) (l ∷ ls) ls e refl a);
  })

  pub first_stuck : (l.kind ≡ Numeral → ⊥) → CannotTake (NamesGo most) [] l
      → CannotTake (ElementsGo most) readers.First l
  first_stuck k stuck = λ ls e a. stuck ls e (names_only k (l ∷ ls) ls e refl a)

pub first_reason : (l : Lexeme) (kind : ItemFault) (place : ℕ) → ElementsReason (readers.Named []) l kind place
    → ElementsReason readers.First l kind place
first_reason = grind arith

-- ---- a further name

pub named_takes : (most : ℕ) (old : ElementsReader) (names new : List (List ℕ)) (l : Lexeme) → old ≡ readers.Named names → IsName l
    → new ≡ names ++ l.bytes ∷ [] → TakesLexeme (ElementsGo most) old l (readers.Named new)
named_takes most old names new l was name is =
    let takes = name_takes most names l name in
    grind arith

pub on_ok_both : {T E : Type 0} (r : Result T E) {P Q R : Type 0} → (P → Q → R) → OnOk r P → OnOk r Q → OnOk r R
on_ok_both = grind arith

-- ---- what was seen

module _ (body : List Lexeme) (l : Lexeme) where
  pub seen_colon : body ≡ [] → (colon : Lexeme) × (body ++ l ∷ [] ≡ colon ∷ [])
  seen_colon e = (l, ap (λ ls. ls ++ l ∷ []) e)

  pub seen_first : (r : ElementsReader) → (colon : Lexeme) × (body ≡ colon ∷ [])
      → ((colon : Lexeme) → AreElementsSeen (colon ∷ l ∷ []) r) → AreElementsSeen (body ++ l ∷ []) r
  seen_first r first seen = rw first.1 (seen first.0)

earlier : (name : List ℕ) (ls : List Lexeme) → list_any (bytes_eq name) (map (λ l. l.bytes) ls)
    ≡ list_any (λ (l : Lexeme). bytes_eq l.bytes name) ls
earlier name [] = refl
earlier name (l ∷ ls) = let here = nat_list_eq_equiv.symm name l.bytes in let more = earlier name ls in cc

-- a name that is refused as a repeated one stands earlier in the item's body
pub repeated_name : (body : List Lexeme) (r : ElementsReader) (l : Lexeme) (more : List Lexeme) (place : ℕ) → AreElementsSeen body r
    → ElementsReason r l DuplicateName place → IsRepeated (body ++ l ∷ more) place
repeated_name body (readers.Named names) l more place seen reason =
    record {
      before = body;
      lexeme = l;
      after = more;
      whole = refl;
      place_is = reason.0;
      name = reason.1;
      earlier = grind (arith, earlier l.bytes);
    }
repeated_name body r l more place seen reason = absurd reason.2

-- ---- how each state can end

abbrev pub a_one : Lexeme
a_one = record { kind = Numeral; place = 0; bytes = codes "1" }

pub one_is : IsWhole a_one 1
unfolding is_digit
one_is = record { kind = refl; digits = refl; value = refl }

-- a count of one after a colon, and nothing after a count or names
pub elements_can_end : (most : ℕ) → 1 ≤ most → (r : ElementsReader) → IsElementsRead most r → (ls : List Lexeme)
    × ((e : Elements) × ElementsGo most r ls e)
elements_can_end most some readers.Colon read = (a_colon ∷ a_one ∷ [], (Count 1, (refl, counted one_is (lit≤ tt) some)))
elements_can_end most some readers.First read = (a_one ∷ [], (Count 1, counted one_is (lit≤ tt) some))
elements_can_end most some (readers.Counted n) read = ([], (Count n, (refl, refl)))
elements_can_end most some (readers.Named names) read = (
  [],
  (
    Names names,
    record {
      all = All-nil IsName;
      few = grind (arith, append-nil);
      apart = grind (arith, append-nil);
      elements_are = grind (arith, append-nil);
    },
  ),
)
