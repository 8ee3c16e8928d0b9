-- An item that is right but perhaps for the limits of cells: right where it is within them, and else an entry that gives too much.
use Rattle.std.proofs.Common.{◌≡◌, None, List, [], ◌∷◌, ◌++◌, refl, sym, ap, subst, arith}
use Rattle.polcert_model.proofs.Common.{Lexeme, Entry, Table, Topic, States, Actions, Observations, Cells, HasForm}
use Rattle.polcert_model.proofs.Common.{PassesCellLimit, preamble_in, HasFewCells, word_fault, ModelSoFar, IsRight, ItemContents, with_item}
use Rattle.polcert_model.proofs.Common.{AreContentsOf, IsAllowedNext, IsShaped}
use Rattle.polcert_cells.specs.Steps.Sound.{IsSoundEntry}
use Rattle.polcert_cells.proofs.Basics.{same_tail}
use Rattle.polcert_format.specs.Forms as shapes
use Rattle.polcert_format.specs.Text as texts
use Rattle.polcert_format.proofs.KnownLaws.{same_preamble}
use Rattle.polcert_format.proofs.OrderLaws.{complete_fault, states_may_stand, actions_may_stand, observations_may_stand}
use Rattle.polcert_format.proofs.SoundTexts.{right_entry_sound}
use Rattle.polcert_items.specs.declared.item.ItemContents.TheVariants as says
use Rattle.polcert_model.specs.Steps.Texts.{IsEntryTo}

module _ (k : ModelSoFar) where
  pub right_shaped : (t : Topic) (body : List Lexeme) (next : ModelSoFar) → IsRight k t body next → IsShaped k t body next
  right_shaped t body next h1 = grind arith

  -- with that entry there are so many
  cells_of : (table : Table) (body : List Lexeme) (next : ModelSoFar) (s : IsEntryTo k table body next)
      → HasFewCells (preamble_in k) next.entries ≡ HasFewCells s.p (k.entries ++ s.e ∷ [])
  cells_of table body next s = λ i. HasFewCells (same_preamble k s.p s.complete.lines i) (s.next_is i).entries

  pub shaped_right : (t : Topic) (body : List Lexeme) (next : ModelSoFar) → IsShaped k t body next
      → HasFewCells (preamble_in k) next.entries → IsRight k t body next
  shaped_right (Cells table) body next s few =
      subst (IsRight k _ body) (sym s.next_is)
      (texts.entry s.complete s.may_be_given s.entry (rw (← cells_of table body next s) few))
  shaped_right _ body next s few = s

  pub shaped_form : (t : Topic) (body : List Lexeme) (next : ModelSoFar) → IsShaped k t body next → HasForm k t body
  shaped_form (Cells table) body next s = shapes.entry refl s.complete s.may_be_given s.entry
  shaped_form _ body next s = shapes.right s

  -- an entry that gives too much is so shaped
  pub too_much_shaped : (t : Topic) (body : List Lexeme) → PassesCellLimit k t body → (next : ModelSoFar)
      × IsShaped k t body next
  too_much_shaped t body m = (
    record k { entries = k.entries ++ m.e ∷ [] },
    rw m.topic_is (record { p = m.p; e = m.e; complete = m.complete; may_be_given = m.may_be_given; entry = m.entry; next_is = refl }),
  )

  -- what is right and no entry has no entries after it
  few_after : (t : Topic) (body : List Lexeme) (next : ModelSoFar) → ((table : Table) → t ≡ Cells table → ⊥)
      → IsRight k t body next → HasFewCells (preamble_in k) next.entries
  few_after t body next h1 h2 = grind arith

  pub shaped_too_much : (t : Topic) (body : List Lexeme) (next : ModelSoFar) → IsShaped k t body next
      → (HasFewCells (preamble_in k) next.entries → ⊥) → PassesCellLimit k t body
  shaped_too_much t body next h1 h2 = grind (arith, few_after)

  -- ---- what it says may be learned

  same_last : (xs ys : List Entry) (x y : Entry) → xs ≡ ys → xs ++ x ∷ [] ≡ ys ++ y ∷ [] → x ≡ y
  same_last (w ∷ xs) (z ∷ ys) x y same e = same_last xs ys x y (same_tail same) (same_tail e)
  same_last _ _ x y same e = cc

  pub may_be_learned : (t : Topic) (body : List Lexeme) (said : ItemContents) → word_fault k t ≡ None → AreContentsOf t said
      → IsShaped k t body (with_item k said) → IsAllowedNext k said
  may_be_learned t body (says.Discount g) free about s = tt
  may_be_learned t body (says.Costs b) free about s = tt
  may_be_learned States body (says.States e) free about s = (states_may_stand k free).0.no_entry
  may_be_learned Actions body (says.Actions e) free about s = (actions_may_stand k free).0.no_entry
  may_be_learned Observations body (says.Observations e) free about s = (observations_may_stand k free).0.no_entry
  may_be_learned t body (says.Start found) free about s = tt
  may_be_learned (Cells table) body (says.Entry e) free about s = (
    complete_fault k s.p s.complete,
    rw (same_preamble k s.p s.complete.lines)
        (subst (IsSoundEntry s.p) (sym (same_last _ _ e s.e refl (ap (λ (n : ModelSoFar). n.entries) s.next_is)))
        (right_entry_sound s.p _ body s.e s.entry)),
  )
  may_be_learned _ body (says.States e) free about s = absurd about
  may_be_learned _ body _ free about s = absurd about
