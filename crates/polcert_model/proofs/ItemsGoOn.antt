-- What an item's reader holds is still possible: the item can continue, with `: *`, zeros and the like, to its end.
use Rattle.std.proofs.Common.{◌≡◌, ◌∙◌, ℕ, zero, suc, ◌+◌, ◌-◌, ◌<◌, ◌≤◌, ◌==◌, ◌⊎◌, ⊎_elim, Bool, true, false, Option, Some, None}
use Rattle.std.proofs.Common.{unwrap_or, Result, Ok, Err, List, [], ◌∷◌, ◌++◌, length, drop, map, ℤ, pos, refl, sym, ap, subst}
use Rattle.std.proofs.Common.{arith, lit≤, length-append}
use Rattle.std.proofs.lemmas.List.{map-id}
use Rattle.std.specs.List.{list_any}
use Rattle.polcert_model.proofs.Common.{Lexeme, Entry, Table, Transition, Observation, Reward, ItemReader, Sign, Elements, ModelSoFar}
use Rattle.polcert_model.proofs.Common.{preamble_in, indices_in, ItemForms, IsItemWithin, pending_in, Preamble, dimensions, named}
use Rattle.polcert_model.proofs.Common.{with_item}
use Rattle.polcert_text.specs.declared.tokens.TokenKind.TheVariants.{Name}
use Rattle.polcert_cells.specs.declared.entries.Body.{Body as EntryBody}
use Rattle.polcert_cells.specs.declared.entries.Body.TheVariants as bodies
use Rattle.polcert_cells.specs.declared.entries.Place.{Place}
use Rattle.polcert_cells.specs.declared.entries.Place.TheVariants.{Every}
use Rattle.polcert_items.specs.declared.entry_reader.EntryState.{EntryState}
use Rattle.polcert_items.specs.declared.entry_reader.EntryState.TheVariants as states
use Rattle.polcert_items.specs.declared.entry_reader.Numbers.{Numbers}
use Rattle.polcert_items.specs.declared.item.ItemReader.TheVariants as items
use Rattle.polcert_items.specs.declared.item.ItemContents.TheVariants as said
use Rattle.polcert_items.specs.declared.preamble_lines.DiscountReader.TheVariants as discount
use Rattle.polcert_items.specs.declared.preamble_lines.ValuesReader.TheVariants as values
use Rattle.polcert_text.specs.declared.number.NumberFault.{NumberFault}
use Rattle.polcert_items.specs.declared.start_reader.Selection.{Selection}
use Rattle.polcert_items.specs.declared.start_reader.StartReader.{StartReader}
use Rattle.polcert_items.specs.declared.start_reader.StartReader.TheVariants as starts
use Rattle.polcert_cells.specs.declared.elements.Elements.TheVariants.{Count}
use Rattle.polcert_cells.specs.Elements.{most_states, most_actions, most_observations}
use Rattle.polcert_cells.specs.Entry as entries
use Rattle.polcert_cells.specs.Entry.{forms, cells_in, IsBody}
use Rattle.polcert_cells.specs.Numbers as numbers
use Rattle.polcert_cells.specs.Numbers.{AreNumbers}
use Rattle.polcert_format.specs.Forms as shapes
use Rattle.polcert_items.specs.Steps.Numbers.{AreNumbersAfter}
use Rattle.polcert_items.specs.Steps.Entries.{IsFirstPlace, entry_with, ProbabilitiesGo, StateGoes, HasRoom, awaited}
use Rattle.polcert_items.specs.Steps.Entries.{IsStateWithin}
use Rattle.polcert_items.specs.Steps.Start.{ListGoes, alone, first_of_more, StartGoes, IsStartWithin, pending_refusal, pending_of}
use Rattle.polcert_cells.specs.Preamble.{is_mdp}
use Rattle.polcert_format.specs.Wants.{least_written}
use Rattle.polcert_items.proofs.PatternLaws.{colon_takes, one_to_three, rewards_may_stand, same_length}
use Rattle.polcert_items.proofs.ElementLaws.{elements_can_end}
use Rattle.polcert_format.proofs.StillPossible.{a_zero, a_star, a_colon, zero_is, zeros, nothings, zeros_are, nothings_count}
use Rattle.polcert_format.proofs.StillPossible.{nothings_in_range, length-pos, same_form_of_probabilities}

abbrev a_word : List ℕ → Lexeme
a_word bytes = record { kind = Name; place = 0; bytes = bytes }

-- ---- numbers

zero_after : (sign : Option Sign) → AreNumbersAfter sign (a_zero ∷ []) (pos 0 ∷ [])
zero_after None = numbers.unsigned (zero_is false) numbers.none
zero_after (Some s) = (zero_is _, numbers.none)

zeros_after : (sign : Option Sign) (m : ℕ) → awaited sign ≤ m → AreNumbersAfter sign (zeros m) (map pos (nothings m))
zeros_after None m room = zeros_are m
zeros_after (Some s) zero room = absurd (omega arith)
zeros_after (Some s) (suc m) room = (zero_is _, zeros_are m)

-- ---- entries

record Continues (preamble : Preamble) (table : Table) (places : List Place) (state : EntryState) : Type 0 where
  more : List Lexeme
  entry : Entry
  goes : StateGoes preamble table places state more entry

no_further : (ps : List Place) → ps ≡ ps ++ []
no_further [] = refl
no_further (p ∷ ps) = ap (λ (qs : List _). p ∷ qs) (no_further ps)

-- with zeros for all its numbers
with_body : (preamble : Preamble) (table : Table) (places : List Place) (body : EntryBody)
    → list_any (λ n. n == length places) (forms (is_mdp preamble) table body) ≡ true
    → IsBody (cells_in (drop (length places) (dimensions preamble table)))
    (zeros (cells_in (drop (length places) (dimensions preamble table)))) body
    → Continues preamble table places states.Body
with_body preamble table places body form filled =
    let m = cells_in (drop (length places) _) in
    record {
      more = zeros m;
      entry = _;
      goes = record {
        further = [];
        pattern = [];
        rest = zeros m;
        whole = refl;
        places_are = no_further _;
        table_is = refl;
        form = form;
        places = entries.none;
        body = filled;
      };
    }

with_probabilities : (preamble : Preamble) (table : Table) (places : List Place)
    → list_any (λ n. n == length places) (forms (is_mdp preamble) table (bodies.Probabilities [])) ≡ true
    → Continues preamble table places states.Body
with_probabilities preamble table places form =
    let m = cells_in _ in
    with_body _ _ _ _
    (rw (← same_form_of_probabilities (is_mdp preamble) table [] (nothings m)) form)
    (entries.probabilities (zeros_are m) (nothings_count m) (nothings_in_range m))

with_rewards : (preamble : Preamble) (places : List Place)
    → list_any (λ n. n == length places) (forms (is_mdp preamble) Reward (bodies.Rewards [])) ≡ true
    → Continues preamble Reward places states.Body
with_rewards preamble places form =
    let m = cells_in _ in
    with_body _ _ _ _ form
    (entries.rewards (zeros_are m) (length-pos _ ∙ nothings_count m))

first_star : (n : ℕ) (ds : List Elements) → n < length ds → IsFirstPlace (drop n ds) a_star Every
first_star n [] l = absurd (omega arith)
first_star zero (d ∷ ds) l = refl
first_star (suc n) (d ∷ ds) l = first_star n ds (omega (arith, l))

-- with `*` for the next place
with_star : (preamble : Preamble) (table : Table) (places : List Place) → length places < length (named preamble table)
    → Continues preamble table (places ++ Every ∷ []) states.Body → Continues preamble table places states.Place
with_star preamble table places room c = record { more = a_star ∷ c.more; entry = _; goes = (_, (first_star _ _ room, c.goes)) }

-- with a colon before it
with_colon : (preamble : Preamble) (table : Table) (places : List Place) → Continues preamble table places states.Place
    → Continues preamble table places states.Body
with_colon preamble table places c = record { more = _; entry = _; goes = (colon_takes _ _ places a_colon refl).back _ _ c.goes }

-- there are enough places for rewards, or with one more there are
enough_or_one : (mdp : Bool) (n : ℕ) → 1 ≤ n → (least_written mdp Reward ≤ n) ⊎ ((n ≡ 1) × (least_written mdp Reward ≤ 2))
enough_or_one mdp n h1 = grind arith

one_further : (ps : List Place) → length (ps ++ Every ∷ []) ≡ length ps + 1
one_further ps = length-append ps _

body_continues : (k : ModelSoFar) (table : Table) (places : List Place) → 1 ≤ length places → length places ≤ length (indices_in k table)
    → Continues (preamble_in k) table places states.Body
body_continues k Transition places low high = with_probabilities _ _ places (one_to_three _ low high)
body_continues k Observation places low high = with_probabilities _ Observation _ (one_to_three _ low high)
body_continues k Reward places low high =
    let preamble = preamble_in k in
    let further = one_further places in
    ⊎_elim (λ enough. with_rewards preamble _ (rewards_may_stand _ (length places) [] enough high))
    (λ (one : _ × (least_written _ Reward ≤ 2)).
    let two : length (places ++ Every ∷ []) ≡ 2 = omega arith in
    with_colon _ Reward _ (with_star _ Reward _ (omega arith)
    (with_rewards preamble _ (rewards_may_stand _ (length (places ++ Every ∷ [])) []
    (rw two one.1) (omega arith)))))
    (enough_or_one (is_mdp preamble) (length places) low)

place_continues : (k : ModelSoFar) (table : Table) (places : List Place) → length places < length (indices_in k table)
    → Continues (preamble_in k) table places states.Place
place_continues k table places room = grind (arith, with_star, one_further, body_continues)

-- zeros for the probabilities that lack
probabilities_go : (n : Numbers ℕ) → HasRoom n
    → ProbabilitiesGo n (zeros (n.needed - length n.read)) (bodies.Probabilities (n.read ++ nothings (n.needed - length n.read)))
probabilities_go n room = grind (arith, length-append, zeros, nothings, nothings_count, nothings_in_range, zeros_after)

rewards_continue : (preamble : Preamble) (table : Table) (places : List Place) (n : Numbers ℤ) → HasRoom n
    → Continues preamble table places (states.Rewards n)
rewards_continue preamble table places n room =
    let m = n.needed - length n.read in
    let further = map pos _ in
    let all : length (n.read ++ further) ≡ length n.read + length further = length-append _ _ in
    let rest = length-pos _ ∙ nothings_count m in
    let body = bodies.Rewards _ in
    record {
      more = zeros m;
      entry = entry_with table places body;
      goes = (
        body,
        (
          (record {
            further = further;
            numbers = subst (AreNumbersAfter n.sign (zeros m)) (sym (map-id further))
                (zeros_after n.sign m (omega (arith, room)));
            in_range = λ k d h. tt;
            enough = omega (arith, all, rest, room);
            body_is =
                refl;
          }),
          refl,
        ),
      );
    }

state_continues : (k : ModelSoFar) (table : Table) (places : List Place) (state : EntryState)
    → IsStateWithin (indices_in k table) table places state → Continues (preamble_in k) table places state
state_continues k table places states.Colon within =
    let c = place_continues k _ _ (rw within
    (grind arith)) in
    record { more = a_colon ∷ c.more; entry = _; goes = (refl, c.goes) }
state_continues k table places states.Place within = grind (arith, same_length, with_star, one_further, body_continues)
state_continues k table places states.Body within = body_continues k _ _ within.0 within.1
state_continues k table places (states.Probabilities n) within = let body =
    bodies.Probabilities (n.read ++ nothings (n.needed - length n.read)) in
    record {
      more = zeros (n.needed - length n.read);
      entry = entry_with table places body;
      goes =
          (body, (probabilities_go n within.1, refl));
    }
state_continues k table places (states.Rewards n) within = rewards_continue _ _ _ n within.1
state_continues k table places (states.Word w) within = record { more = []; entry = _; goes = (refl, refl) }

-- ---- start items

-- a start item's reader that can continue to the form of one
record StartContinues (elements : Elements) (r : StartReader) : Type 0 where
  more : List Lexeme
  goes : StartGoes elements r more None

zero_number : AreNumbers (a_zero ∷ []) (pos 0 ∷ [])
zero_number = numbers.unsigned (zero_is false) numbers.none

no_states : (elements : Elements) (choice : Selection) (chosen : ℕ → Bool) → ListGoes elements choice chosen [] None
no_states elements choice chosen = record { further = []; stand = tt; said = tt }

start_continues : (elements : Elements) (r : StartReader) → IsStartWithin elements r → pending_refusal r ≡ None → StartContinues elements r
start_continues elements starts.Form within free = record
    { more = a_colon ∷ a_zero ∷ []; goes = shapes.plain refl (shapes.one_number zero_number) }
start_continues elements (starts.Colon choice) within free =
    record { more = a_colon ∷ []; goes = (refl, no_states elements choice (λ s. false)) }
start_continues elements (starts.List chosen) within free = record { more = []; goes = no_states elements chosen.choice _ }
start_continues elements starts.Body within free = record { more = a_zero ∷ []; goes = shapes.one_number zero_number }
start_continues elements (starts.Sign s) within free =
    record { more = a_zero ∷ []; goes = record { further = pos 0 ∷ []; numbers = zero_after (Some s); given = alone (pos 0) refl } }
start_continues elements (starts.Number f) within free =
    record { more = []; goes = record { further = []; numbers = numbers.none; given = alone f.value refl } }
start_continues elements (starts.StateOrNumber d) within free = of d.value refl
  where
    none≢some : {A : Type 0} {x : A} → Some x ≡ None → ⊥
    none≢some e = cc

    of : (v : Result ℤ NumberFault) → d.value ≡ v → StartContinues elements (starts.StateOrNumber d)
    of (Ok h) e = record { more = []; goes = first_of_more h e (record { further = []; numbers = numbers.none; given = alone h refl }) }
    of (Err f) e = absurd (none≢some (subst (λ v. pending_of v d.place ≡ None) e free))
start_continues elements (starts.Probabilities n) within free =
    record {
      more = zeros (n.needed - length n.read);
      goes = record { all = n.read ++ nothings (n.needed - length n.read); go = probabilities_go n within.room; whole = tt };
    }
start_continues elements _ within free = record { more = []; goes = (refl, tt) }

-- ---- items

-- an item's reader that can continue to the form of the item
pub record CanEnd (k : ModelSoFar) (item : ItemReader) : Type 0 where
  pub more : List Lexeme
  pub forms : ItemForms k item more tt

pub can_end : (k : ModelSoFar) (item : ItemReader) → IsItemWithin k item → pending_in item ≡ None → CanEnd k item
can_end k (items.Discount discount.Colon) within free =
    record { more = a_colon ∷ a_zero ∷ []; forms = (_, (0, ((refl, (zero_after None, omega arith)), refl))) }
can_end k (items.Discount (discount.Number sign)) within free =
    record { more = _; forms = (with_item k (said.Discount 0), (0, ((zero_after sign, omega arith), refl))) }
can_end k (items.Discount (discount.Done d)) within free = record { more = []; forms = (_, (d, ((refl, refl), refl))) }
can_end k (items.Values values.Colon) within free =
    record {
      more = a_colon ∷ a_word _ ∷ [];
      forms = (with_item k (said.Costs false), (_, ((refl, (refl, record { kind = refl; bytes = refl })), refl)));
    }
can_end k (items.Values values.Word) within free =
    record {
      more = a_word _ ∷ [];
      forms = (with_item k (said.Costs false), (_, ((refl, record { kind = refl; bytes = refl }), refl)));
    }
can_end k (items.Values (values.Done c)) within free = record { more = []; forms = (_, (c, ((refl, refl), refl))) }
can_end k (items.States r) within free = let c = elements_can_end most_states (lit≤ tt) r within in
    record { more = c.0; forms = (_, (_, (c.1.1, refl))) }
can_end k (items.Actions r) within free = let c = elements_can_end most_actions (lit≤ tt) r within in
    record { more = c.0; forms = (_, (_, (c.1.1, refl))) }
can_end k (items.Observations r) within free = let c = elements_can_end most_observations (lit≤ tt) r within in
    record { more = c.0; forms = (_, (_, (c.1.1, refl))) }
can_end k (items.Start r) within free =
    let same : (preamble_in k).states ≡ within.0 = ap (λ o. unwrap_or o (Count 0)) within.1.0 in
    let c = start_continues (preamble_in k).states r (rw same within.1.1) free in
    record { more = _; forms = c.goes }
can_end k (items.Entry r) within free =
    let c = state_continues k r.table _ _ within in
    record { more = c.more; forms = (_, (_, (c.goes, refl))) }
