-- An item as its reader continues with it, from its word on: the same as what is right of it.
use Rattle.std.proofs.Common.{ℕ, ◌≡◌, ◌∙◌, ◌≤◌, ◌⊎◌, inl, inr, true, false, Option, Some, None, unwrap_or, List, [], ◌∷◌, ◌++◌, refl, sym}
use Rattle.std.proofs.Common.{ap, subst, arith, append_assoc}
use Rattle.polcert_model.proofs.Common.{Lexeme, Entry, Table, ItemReader, Topic, States, Actions, Observations, Start, Cells, Elements}
use Rattle.polcert_model.proofs.Common.{Preamble, dimensions, named, Item, ModelSoFar, nothing_known, AreRight, IsRight, word_fault}
use Rattle.polcert_model.proofs.Common.{TakesLexeme}
use Rattle.polcert_model.proofs.Common.{preamble_in, HasForm, ItemGoes, ItemForms, IsItemWithin, topic_of_reader, IsSeen, new_item}
use Rattle.polcert_model.proofs.Common.{HasElements}
use Rattle.polcert_model.proofs.Common.{expected, ExpectsNext, item_wants, IfStart, states_known, IsShaped, IsBodyRead}
use Rattle.polcert_items.specs.declared.item.ItemReader.TheVariants as items
use Rattle.polcert_items.specs.declared.preamble_lines.DiscountReader.TheVariants as discount
use Rattle.polcert_items.specs.declared.preamble_lines.ValuesReader.TheVariants as values
use Rattle.polcert_items.specs.declared.preamble_lines.ElementsReader.TheVariants as elements
use Rattle.polcert_cells.specs.declared.words.Topic.TheVariants.{Discount, Values}
use Rattle.polcert_cells.specs.Elements.{count_of}
use Rattle.polcert_cells.specs.Preamble.{observed, rewarded}
use Rattle.polcert_cells.specs.Entry.{IsEntry, ArePlaces}
use Rattle.polcert_format.specs.Text as texts
use Rattle.polcert_format.specs.Text.{IsComplete}
use Rattle.polcert_items.specs.Steps.Entries.{IsEntryAfter, EntryGoes, AreSome}
use Rattle.polcert_cells.specs.Start.{IsStart}
use Rattle.polcert_items.specs.Steps.Start.{new_start, StartGives}
use Rattle.polcert_cells.specs.declared.elements.StartWeights.{StartWeights}
use Rattle.polcert_format.specs.Forms.{IsStartForm}
use Rattle.polcert_format.specs.Forms as shapes
use Rattle.polcert_items.specs.Steps.Items.{new_entry}
use Rattle.polcert_items.proofs.FormLaws.{is_start, start_form, right_forms, forms_take}
use Rattle.polcert_model.proofs.Shaped.{shaped_form}
use Rattle.polcert_format.proofs.FirstPlaces.{entry_begins}
use Rattle.polcert_format.proofs.KnownLaws.{same_preamble, same_indices, same_states}
use Rattle.polcert_model.proofs.ItemsGoOn.{can_end}
use Rattle.polcert_items.proofs.StartReading.{new_start_on, new_start_back, new_start_seen}
use Rattle.polcert_format.proofs.LimitLaws.{CountWithin, counts_within}
use Rattle.polcert_format.proofs.OrderLaws.{discount_may_stand, values_may_stand, states_may_stand, actions_may_stand}
use Rattle.polcert_format.proofs.OrderLaws.{observations_may_stand, start_may_stand, entry_may_stand}
use Rattle.polcert_items.proofs.PatternLaws.{colon_takes}

-- ---- what is right continues

module _ (k : ModelSoFar) where
  -- an entry after its word
  entry_goes : (p : Preamble) (table : Table) (ls : List Lexeme) (e : Entry) → IsComplete k p → IsEntry p table ls e
      → EntryGoes (preamble_in k) (new_entry table) ls e
  entry_goes p table ls e complete a =
      let b = entry_begins p _ ls e a in
      let following : IsEntryAfter p _ [] ls e =
      record {
        further = e.places;
        pattern = _;
        rest = _;
        whole = a.whole;
        places_are = refl;
        table_is = a.table_is;
        form = a.form;
        places = a.places;
        body = a.body;
      } in
      let goes : EntryGoes p (new_entry table) ls e =
      rw b.whole (
        b.colon_is,
        (colon_takes p _ [] b.colon b.colon_is).on (b.place ∷ b.rest) e (rw (← b.whole) following),
      ) in
      rw (same_preamble k p complete.lines) goes

  right_goes : (t : Topic) (body : List Lexeme) (next : ModelSoFar) → IsRight k t body next
      → ItemGoes k (new_item t) body next
  right_goes t body next (texts.discount {g = g} p _ c n l) = (g, ((c, (n, l)), refl))
  right_goes t body next (texts.rewards p absent c w) = (_, ((c, (refl, w)), refl))
  right_goes t body next (texts.costs p absent c w) = (true, ((c, (refl, w)), refl))
  right_goes t body next (texts.states {elements = found} p _ c a) = (_, ((c, a), refl))
  right_goes t body next (texts.actions {elements = found} p _ c a) = (_, ((c, a), refl))
  right_goes t body next (texts.observations {elements = found} p _ c a) = (_, ((c, a), refl))
  right_goes t body next (texts.start {p = p} {shares = found} i c a) =
      (_, (new_start_on (preamble_in k).states body _ (rw (same_states k p c) a), refl))
  right_goes t body next (texts.entry {p = p} {table = table} {e = entry} complete _ a few) = (_, (entry_goes p _ body _ complete a, refl))

  pub taken_goes : (t : Topic) (body : List Lexeme) (next : ModelSoFar) → IsShaped k t body next
      → ItemGoes k (new_item t) body next
  taken_goes (Cells table) body next s = (s.e, (entry_goes s.p _ body s.e s.complete s.entry, s.next_is))
  taken_goes t body next s = right_goes t body next s

  -- ---- what continues is right

  discount_taken : (body : List Lexeme) (next : ModelSoFar) → word_fault k Discount ≡ None
      → ItemGoes k (items.Discount discount.Colon) body next → IsRight k Discount body next
  discount_taken [] next free (g, (goes, e)) = absurd goes
  discount_taken (l ∷ ls) next free (g, ((c, (n, range)), e)) =
      let stands = discount_may_stand k free in
      subst (IsRight k _ _) (sym e) (texts.discount stands.0 stands.1 c n range)

  values_taken : (body : List Lexeme) (next : ModelSoFar) → word_fault k Values ≡ None
      → ItemGoes k (items.Values values.Colon) body next → IsRight k Values body next
  values_taken [] next free (b, (goes, e)) = absurd goes
  values_taken (c ∷ []) next free (b, (goes, e)) = absurd goes.1
  values_taken (c ∷ l ∷ ls) next free (false, ((colon, (none, w)), e)) =
      let stands = values_may_stand k free in
      rw none
      (subst (IsRight k _ _) (sym e) (texts.rewards stands.0 stands.1 colon w))
  values_taken (c ∷ l ∷ ls) next free (true, ((colon, (none, w)), e)) =
      let stands = values_may_stand k free in
      rw none
      (subst (IsRight k _ _) (sym e) (texts.costs stands.0 stands.1 colon w))

  states_taken : (body : List Lexeme) (next : ModelSoFar) → word_fault k States ≡ None
      → ItemGoes k (items.States elements.Colon) body next → IsRight k States body next
  states_taken [] next free (found, (goes, e)) = absurd goes
  states_taken (l ∷ ls) next free (found, ((c, a), e)) =
      let stands = states_may_stand k free in
      subst (IsRight k _ _) (sym e) (texts.states stands.0 stands.1 c a)

  actions_taken : (body : List Lexeme) (next : ModelSoFar) → word_fault k Actions ≡ None
      → ItemGoes k (items.Actions elements.Colon) body next → IsRight k Actions body next
  actions_taken [] next free (found, (goes, e)) = absurd goes
  actions_taken (l ∷ ls) next free (found, ((c, a), e)) =
      let stands = actions_may_stand k free in
      subst (IsRight k _ _) (sym e) (texts.actions stands.0 stands.1 c a)

  observations_taken : (body : List Lexeme) (next : ModelSoFar) → word_fault k Observations ≡ None
      → ItemGoes k (items.Observations elements.Colon) body next → IsRight k Observations body next
  observations_taken [] next free (found, (goes, e)) = absurd goes
  observations_taken (l ∷ ls) next free (found, ((c, a), e)) =
      let stands = observations_may_stand k free in
      subst (IsRight k _ _) (sym e) (texts.observations stands.0 stands.1 c a)

  start_taken : (body : List Lexeme) (next : ModelSoFar) → word_fault k Start ≡ None
      → ItemGoes k (items.Start new_start) body next → IsRight k Start body next
  start_taken body next free (found, (goes, e)) =
      let stands = start_may_stand k free in
      subst (IsRight k Start body) (sym e) (texts.start stands.0 stands.1.1
      (subst (λ s. IsStart s body found) (same_states k stands.1.0 stands.1.1) (new_start_back (preamble_in k).states body found goes)))

  entry_taken : (table : Table) (body : List Lexeme) (next : ModelSoFar) → word_fault k (Cells table) ≡ None
      → ItemGoes k (items.Entry (new_entry table)) body next → IsShaped k (Cells table) body next
  entry_taken table [] next free (entry, (goes, e)) = absurd goes
  entry_taken table (l ∷ ls) next free (entry, (goes, e)) =
      let stands = entry_may_stand k _ free in
      let p = stands.0 in
      let rest : EntryGoes p (new_entry table) (l ∷ ls) entry =
      rw (← same_preamble k p stands.1.lines) goes in
      let b = (colon_takes p _ [] l rest.0).back ls _ rest.1 in
      record {
        p = stands.0;
        e = entry;
        complete = stands.1;
        may_be_given = stands.2;
        entry =
            (record {
              pattern = b.pattern;
              rest = b.rest;
              whole = b.whole;
              table_is = b.table_is;
              form = b.form;
              places =
                  subst (ArePlaces (named p table) b.pattern) (sym b.places_are) b.places;
              body = b.body;
            });
        next_is = e;
      }

  pub goes_taken : (t : Topic) (body : List Lexeme) (next : ModelSoFar) → word_fault k t ≡ None
      → ItemGoes k (new_item t) body next → IsShaped k t body next
  goes_taken t body next h1 h2 = grind
      (arith, discount_taken, values_taken, states_taken, actions_taken, observations_taken, start_taken, entry_taken)

-- ---- its form

-- what continues to the form of an item has it
forms_formed : (k : ModelSoFar) (t : Topic) (body : List Lexeme) → word_fault k t ≡ None → ItemForms k (new_item t) body tt
    → HasForm k t body
forms_formed k Start body free g =
    let stands = start_may_stand k free in
    shapes.start refl stands.0 stands.1.1 (rw (← same_states k stands.1.0 stands.1.1) g)
forms_formed k (Cells table) body free g = shaped_form k _ body g.0 (goes_taken k (Cells _) body g.0 free g.1)
forms_formed k t body free g = shapes.right (goes_taken k t body g.0 free g.1)

-- and what has it continues so
formed_forms : (k : ModelSoFar) (t : Topic) (body : List Lexeme) → HasForm k t body → ItemForms k (new_item t) body tt
formed_forms k t body f = of (is_start t)
  where
    states_form : (found : StartWeights) → StartGives (preamble_in k).states new_start body found → IsStartForm (preamble_in k).states body
    states_form found goes = start_form (preamble_in k).states body _ (new_start_back (preamble_in k).states body _ goes)

    of_start : (u : Topic) → u ≡ Start → HasForm k u body → ItemForms k (new_item u) body tt
    of_start Start e (shapes.right {after} r) = let g = right_goes k _ body _ r in states_form g.0 g.1.0
    of_start Start e (shapes.entry c complete given a) = absurd (cc)
    of_start Start e (shapes.start {p} s i c form) = rw (same_states k p c) form
    of_start _ e h = cc

    of : (t ≡ Start) ⊎ (t ≡ Start → ⊥) → ItemForms k (new_item t) body tt
    of (inl e) = of_start t e f
    of (inr other) = other_form f
      where
        other_form : HasForm k t body → ItemForms k (new_item t) body tt
        other_form (shapes.right {after} r) = right_forms k _ body _ (λ e. other (sym (grind arith) ∙ e)) (right_goes k t body _ r)
        other_form (shapes.entry {p} {table} {e} c complete given a) =
            rw c
            (_, (e, (entry_goes k p _ body e complete a, refl)))
        other_form (shapes.start s i c form) = absurd (other s)

-- ---- an item as it is read

pub new_within : (k : ModelSoFar) (t : Topic) → word_fault k t ≡ None → IsItemWithin k (new_item t)
new_within k t h1 = grind arith

-- an item whose word may stand, before its first lexeme
pub item_begun : (k : ModelSoFar) (t : Topic) → word_fault k t ≡ None → IsBodyRead k t [] (new_item t)
item_begun k t free =
    let within = new_within k t free in
    record {
      may_stand = free;
      topic_is = grind arith;
      within = within;
      seen = grind (arith, new_start_seen);
      back = λ ls next. goes_taken k t ls next free;
      on = taken_goes k t;
      formed = λ ls. forms_formed k t ls free;
      forms = formed_forms k t;
      possible = λ unheld.
          let last = can_end k _ within unheld in
          record { more = _; form = forms_formed k t _ free last.forms };
      wants = grind arith;
    }

-- one lexeme more
pub item_continues : (k : ModelSoFar) (t : Topic) (body : List Lexeme) (old new : ItemReader) (l : Lexeme) → IsBodyRead k t body old
    → topic_of_reader new ≡ topic_of_reader old → IsItemWithin k new
    → TakesLexeme (ItemGoes k) old l new → IfStart (topic_of_reader old) (TakesLexeme (ItemForms k) old l new)
    → IsSeen (states_known k) (body ++ l ∷ []) new
    → ExpectsNext (item_wants k old) l (item_wants k new) → IsBodyRead k t (body ++ l ∷ []) new
item_continues k t body old new l r same within takes of_form seen leads =
    let form = forms_take k old new l same takes of_form in
    let formed : (ls : List _) → ItemForms k new ls tt → HasForm k t _ =
    λ ls g. subst (HasForm k t) (sym (append_assoc body _ ls)) (r.formed _ (form.back ls tt g)) in
    record {
      may_stand = r.may_stand;
      topic_is = cc;
      within = within;
      seen = seen;
      back = λ ls next goes. rw ((append_assoc body (l ∷ []) ls)) (r.back _ next (takes.back ls next goes));
      on = λ ls next taken. takes.on ls next (r.on _ next (rw (← append_assoc body (l ∷ []) ls) taken));
      formed = formed;
      forms = λ ls f. form.on ls tt (r.forms _ (subst (HasForm k t) (append_assoc body _ ls) f));
      possible = λ unheld. let last = can_end k new within unheld in record { more = _; form = formed _ last.forms };
      wants = λ ls. ap (expected k t) (append_assoc body _ ls) ∙ r.wants _ ∙ leads.same ls;
    }

-- ---- elements

some_count : (most : ℕ) (o : Option Elements) (e : Elements) → CountWithin most o → o ≡ Some e → 1 ≤ count_of e
some_count most o e w same = (subst (CountWithin most) same w).0

-- as many as the line says, or as these
some_line : (most : ℕ) (o : Option Elements) (e : Elements) → CountWithin most o → 1 ≤ count_of e → 1 ≤ count_of (unwrap_or o e)
some_line most o e h1 h2 = grind arith

all_some : (p : Preamble) (table : Table) → 1 ≤ count_of p.states → 1 ≤ count_of p.actions → 1 ≤ count_of (observed p)
    → 1 ≤ count_of (rewarded p) → AreSome (dimensions p table)
all_some p table s a o r = grind arith

pub has_elements : (xs : List Item) (k : ModelSoFar) (t : Topic) → AreRight nothing_known xs k → word_fault k t ≡ None → HasElements k t
has_elements xs k t h1 h2 = grind (arith, same_indices, counts_within, some_count, some_line, all_some)
