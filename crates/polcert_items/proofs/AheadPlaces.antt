-- The places of an entry and the first number after them, taken at once.
use Rattle.std.proofs.Common.{◌≡◌, ◌∙◌, inl, inr, ⊎_elim, ℕ, ◌+◌, ◌<◌, true, false, List, [], ◌∷◌, ◌++◌, length, drop, get_or}
use Rattle.std.proofs.Common.{refl, sym, ap, subst, length-append, arith, Bool}
use Rattle.std.proofs.lemmas.List.{length-drop}
use Rattle.polcert_items.proofs.Common.{at_offset, Lexeme, TokenKind, Colon, count_of, StandsFor, Preamble, begins_item}
use Rattle.polcert_items.proofs.Common.{is_reserved}
use Rattle.polcert_items.proofs.Common.{IsName, Elements, Count, Place, Only, Table, preamble_in, indices_in, named_in, is_sign_kind}
use Rattle.polcert_items.proofs.Common.{ModelSoFar}
use Rattle.polcert_items.proofs.Common.{IsFed, none, more, FedAhead, BeginWithPlace, IsFirstPlace, IsWithinIndices, ExpectsNext}
use Rattle.polcert_items.proofs.Common.{EntryReader}
use Rattle.polcert_text.specs.Beginning.{BeginWithOne, BeginWithDigits}
use Rattle.polcert_items.specs.Steps.Ahead.{AwaitsColon, PlacesFed, with_state}
use Rattle.polcert_items.specs.Steps.Wants.{expected_by_entry}
use Rattle.polcert_text.specs.declared.front_tokens.FrontDigits.{FrontDigits}
use Rattle.polcert_text.proofs.Taken.BeginLaws.{begin_then}
use Rattle.polcert_items.specs.declared.ahead.FrontPlace.{FrontPlace}
use Rattle.polcert_items.specs.declared.entry_reader.EntryState.TheVariants as states
use Rattle.polcert_items.proofs.AheadLaws.{fed_then}
use Rattle.polcert_items.proofs.PatternLaws.{in_state, colon_takes}
use Rattle.polcert_items.proofs.WantLaws.{body_leads, colon_leads}

-- ---- a colon

colon_fed : (k : ModelSoFar) (r : EntryReader) (l : Lexeme) → AwaitsColon r.state → IsWithinIndices (indices_in k r.table) r
    → length r.places < length (indices_in k r.table) → l.kind ≡ Colon → IsFed k r l (record r { state = states.Place })
colon_fed k r l awaits within room kind = record {
  inside = subst (λ (kind : TokenKind). begins_item (record l { kind = kind }) ≡ false) (sym kind) refl;
  table = refl;
  within = room;
  takes = ⊎_elim (λ is. in_state p r _ _ l is (record { back = λ ls e g. (kind, g); on = λ ls e g. g.1 }))
      (λ is. in_state p r _ _ l is (colon_takes p r.table r.places l kind)) awaits;
  sign = ap is_sign_kind kind;
  leads = ⊎_elim at_colon (λ is. record { same = λ ls. (body_leads p r l _ is (colon_leads p r.table _ l kind)).same ls }) awaits;
}
  where
    p : Preamble
    p = preamble_in k

    at_colon : r.state ≡ states.Colon → ExpectsNext (expected_by_entry (preamble_in k) r) l
        (expected_by_entry (preamble_in k) (record r { state = states.Place }))
    at_colon is = grind arith

-- ---- a place

-- a place begins no item, and is no sign
record IsInside (l : Lexeme) : Type 0 where
  item : begins_item l ≡ false
  sign : is_sign_kind l.kind ≡ false

name_inside : (l : Lexeme) → IsName l → IsInside l
unfolding is_reserved
name_inside l n = rw n.kind (record { item = grind arith; sign = refl })

module _ (ds : List Elements) (l : Lexeme) (p : Place) where
  place_inside : IsFirstPlace ds l p → IsInside l
  place_inside = grind (arith, name_inside)

  -- wherever its token stands
  pub place_moved : (position : ℕ) → IsFirstPlace ds l p
      → IsFirstPlace ds (at_offset position l) p
  place_moved = grind arith

module _ (k : ModelSoFar) where
  -- a colon and a place
  colon_place_fed : (r : EntryReader) (bytes : List ℕ) (colon : ℕ) (front : FrontPlace) → AwaitsColon r.state
      → IsWithinIndices (indices_in k r.table) r → length r.places < length (indices_in k r.table)
      → ((position : ℕ) → BeginWithOne position bytes colon Colon)
      → ((position : ℕ) → BeginWithPlace (drop (length r.places) (named_in k r.table)) position (drop colon bytes) front)
      → FedAhead k r bytes (colon + front.len) (record { table = r.table; places = r.places ++ front.place ∷ []; state = states.Body })
  colon_place_fed r bytes colon front awaits within room first second = record {
    within = omega (arith, (first 0).front.within, (second 0).front.within, length-drop colon bytes);
    fed = λ position.
        let c = first position in
        let p = second _ in
        let mid = record r { state = states.Place } in
        let next : EntryReader = record { table = r.table; places = r.places ++ front.place ∷ []; state = states.Body } in (
          c.token ∷ p.token ∷ [],
          (
            begin_then position bytes colon front.len _ _ c.front p.front,
            more r mid next (c.token ∷ []) p.token (more r r mid [] c.token (none r) (colon_fed k r c.token awaits within room c.kind_is))
                (grind (arith, length-append, place_inside)),
          ),
        );
  }

  -- whatever the state says of what came before
  pub place_is_fed : (r : EntryReader) (bytes : List ℕ) (colon : ℕ) (front : FrontPlace) (places : List Place)
      → length r.places < length (indices_in k r.table)
      → ((position : ℕ) → BeginWithOne position bytes colon Colon)
      → ((position : ℕ) → BeginWithPlace (drop (length r.places) (named_in k r.table)) position (drop colon bytes) front)
      → places ≡ r.places ++ front.place ∷ [] → PlacesFed k r bytes (colon + front.len) (record r { places = places })
  place_is_fed r bytes colon front places room first second are =
      rw are (record {
        high = omega (arith, (first 0).front.within, (second 0).front.within, length-drop colon bytes);
        fed = λ s awaits within. colon_place_fed _ bytes colon front awaits within room first second;
        within = let len = length-append r.places (front.place ∷ []) in (omega arith, omega arith);
        state = refl;
        table = refl;
      })

  -- some places, and others after them
  pub places_then : (a b c : EntryReader) (bytes : List ℕ) (m n : ℕ) → PlacesFed k a bytes m b
      → PlacesFed k b (drop m bytes) n c → PlacesFed k a bytes (m + n) c
  places_then a b c bytes m n first second = record {
    high = omega (arith, first.high, second.high, length-drop m bytes);
    fed = λ s awaits within. fed_then k _ _ _ bytes m n (first.fed s awaits within) (second.fed _ (inr refl) first.within);
    within = second.within;
    state = second.state ∙ first.state;
    table = second.table ∙ first.table;
  }

  pub places_more : (a b c : EntryReader) (bytes : List ℕ) (m n : ℕ) (has_place : Bool)
      → (has_place ≡ true → PlacesFed k a bytes m b) → (has_place ≡ false → (m ≡ 0) × (b ≡ a))
      → PlacesFed k b (drop m bytes) n c → PlacesFed k a bytes (m + n) c
  places_more a b c bytes m n true some same next = places_then a b c bytes m n (some refl) next
  places_more a b c bytes m n false some same next =
      let first = (same refl).0 in
      let here = subst (λ j. PlacesFed k b (drop j bytes) n c) first next in
      let count : n ≡ m + n = omega arith in
      subst (λ r. PlacesFed k r bytes (m + n) c) (same refl).1 (rw (← count) here)

  -- places after the word of the table
  pub places_taken : (r new : EntryReader) (bytes : List ℕ) (count : ℕ) → r.state ≡ states.Colon
      → IsWithinIndices (indices_in k r.table) r → PlacesFed k r bytes count new
      → FedAhead k r bytes count (with_state new states.Body)
  places_taken r new bytes count is within fed =
      let at_colon = subst (λ s. IsWithinIndices (indices_in k r.table) (with_state r s)) is within in
      rw is (fed.fed _ (inl refl) at_colon)

  -- what stands for one of the elements that may be named is a place
  pub element_place : (table : Table) (written : ℕ) (l : Lexeme) (elements : Elements) (index : ℕ)
      → written < length (indices_in k table)
      → get_or (named_in k table) written (Count 0) ≡ elements → StandsFor elements l index
      → IsFirstPlace (drop written (named_in k table)) l (Only index)
  element_place = grind arith

  -- the digits at the front of some bytes are the number of an element
  pub digits_place : (table : Table) (written : ℕ) (bytes : List ℕ) (count : ℕ) (index : FrontDigits)
      → written < length (indices_in k table)
      → ((place : ℕ) → BeginWithDigits place bytes index) → count ≡ count_of (get_or (named_in k table) written (Count 0))
      → index.value < count
      → (position : ℕ) → BeginWithPlace (drop written (named_in k table)) position bytes
      (record { len = index.len; place = Only index.value })
  digits_place table written bytes count index inside front are below position =
      let d = front position in
      grind arith
