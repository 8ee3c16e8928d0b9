-- An entry whose numbers are taken several at once.
use Rattle.std.proofs.Common.{◌≡◌, ◌≢◌, ◌∙◌, ◌⊎◌, ⊎_elim, inl, inr, ℕ, ◌<◌, ◌≤◌, true, false, List, [], ◌∷◌, ◌++◌, length, drop, refl, sym}
use Rattle.std.proofs.Common.{ap, subst, arith}
use Rattle.polcert_items.proofs.Common.{Lexeme, TokenKind, cells_in, Preamble, is_mdp, begins_item, Elements, Place, Table, Transition}
use Rattle.polcert_items.proofs.Common.{Observation, Reward, preamble_in, indices_in, begins_number, ModelSoFar, least_written}
use Rattle.polcert_items.proofs.Common.{numbers_want, IsFed, IsListFed, AreTaken, none, more, StepsAhead, FedAhead, NumberListGoes}
use Rattle.polcert_items.proofs.Common.{IsStateWithin, AreBegun, HasRoom, no_numbers, entry_sign, TakesLexeme, ListKind, of_probabilities}
use Rattle.polcert_items.proofs.Common.{of_rewards, SignIs, ExpectsNext, expected_by_numbers, state_wants, EntryReader, EntryState, Numbers}
use Rattle.polcert_items.specs.declared.entry_reader.EntryState.TheVariants as states
use Rattle.polcert_items.proofs.PatternLaws.{IsStateOf, probability_state, reward_state, list_in, in_state, numbers_begin, number_not_colon}
use Rattle.polcert_items.proofs.PatternLaws.{number_not_name, BeginsNumber}
use Rattle.polcert_items.proofs.WantLaws.{body_leads, numbers_lead, no_numbers_lead}

begins : (kind : TokenKind) → begins_number kind ≡ true → BeginsNumber kind
begins = grind arith

-- what begins a number begins no item
number_inside : (l : Lexeme) → begins_number l.kind ≡ true → begins_item l ≡ false
number_inside = grind arith

-- a list of such numbers stands in an entry of this table
pub record StandsIn {T : Type 0} (kind : ListKind T) (state : Numbers T → EntryState) (table : Table) : Type 0 where
  is_state : IsStateOf kind state
  begun : (needed : ℕ) (l : Lexeme) (n : Numbers T) → TakesLexeme (NumberListGoes kind) (no_numbers needed) l n
      → AreBegun table needed l (state n)
  within : (ds : List Elements) (places : List Place) (n : Numbers T) → HasRoom n → IsStateWithin ds table places (state n)
  sign : (n : Numbers T) → entry_sign (state n) ≡ n.sign
  wants : (p : Preamble) (places : List Place) (n : Numbers T) (ls : List Lexeme)
      → state_wants p table places (state n) ls ≡ expected_by_numbers n ls

module _ (table : Table) where
  pub probabilities_stand : (table ≢ Reward) → StandsIn of_probabilities states.Probabilities table
  probabilities_stand = grind (arith, probability_state)

  pub no_reward : (table ≡ Transition) ⊎ (table ≡ Observation) → (table ≢ Reward)
  no_reward is = ⊎_elim (λ e r. absurd (cc)) (λ e r. absurd (cc)) is

  pub rewards_stand : table ≡ Reward → StandsIn of_rewards states.Rewards table
  rewards_stand = grind (arith, reward_state)

module _ {T : Type 0} (kind : ListKind T) (state : Numbers T → EntryState) (k : ModelSoFar) (r : EntryReader)
    (stands : StandsIn kind state r.table) where
  -- the entry with this list
  abbrev pub with_list : Numbers T → EntryReader
  with_list n = record { table = r.table; places = r.places; state = state n }

  -- a step of the list is one of the entry
  list_fed : (old : Numbers T) (l : Lexeme) (new : Numbers T) → IsListFed kind old l new → IsFed k (with_list old) l (with_list new)
  list_fed old l new f = record {
    inside = number_inside l f.begins;
    table = refl;
    within = stands.within (indices_in k r.table) r.places new f.room;
    takes = list_in kind state stands.is_state (preamble_in k) (with_list old) old l refl new f.takes;
    sign = subst (λ s. SignIs s l) (sym (stands.sign new)) f.sign;
    leads = record {
      same = λ ls. stands.wants (preamble_in k) r.places old (l ∷ ls) ∙ f.leads.same ls
          ∙ sym (stands.wants (preamble_in k) r.places new ls);
    };
  }

  lists_fed : (old new : Numbers T) (ls : List Lexeme) → AreTaken (IsListFed kind) old ls new
      → AreTaken (IsFed k) (with_list old) ls (with_list new)
  lists_fed old new ls (none _) = none (with_list old)
  lists_fed old new ls (more _ between _ us l before f) =
      more (with_list old) (with_list between) (with_list new) us l (lists_fed old between us before) (list_fed between l new f)

  -- the entry continues as its list does
  pub list_goes : (old new : Numbers T) (bytes : List ℕ) (count : ℕ) → r.state ≡ state old → StepsAhead (IsListFed kind) old bytes count new
      → FedAhead k r bytes count (with_list new)
  list_goes old new bytes count is ahead =
      subst (λ o. FedAhead k o bytes count (with_list new)) (λ i. record { table = r.table; places = r.places; state = sym is i })
      (record { within = ahead.within; fed = λ place. let f = ahead.fed place in (f.0, (f.1.0, lists_fed old new f.0 f.1.1)) })

  -- the list begins after the places
  module _ (needed : ℕ) (is : r.state ≡ states.Body) (high : length r.places ≤ length (indices_in k r.table))
      (low : least_written (is_mdp (preamble_in k)) r.table ≤ length r.places)
      (cells : needed ≡ cells_in (drop (length r.places) (indices_in k r.table))) where
    begun_fed : (l : Lexeme) (new : Numbers T) → IsListFed kind (no_numbers needed) l new → IsFed k r l (with_list new)
    begun_fed l new f =
        let p = preamble_in k in
        let number = begins l.kind f.begins in
        let list = no_numbers_lead {T = T} (no_numbers needed) needed l (expected_by_numbers new) refl f.leads in
        let leads : ExpectsNext (numbers_want false needed) l (state_wants p r.table r.places (state new)) =
        record { same = λ ls. list.same ls ∙ sym (stands.wants p r.places new ls) } in
        record {
          inside = number_inside l f.begins;
          table = refl;
          within = stands.within (indices_in k r.table) r.places new f.room;
          takes = in_state p r states.Body (state new) l is (numbers_begin k r.table r.places l (state new) needed
              (number_not_colon l.kind number) (number_not_name l.kind number) cells low high (stands.begun needed l new f.takes));
          sign = subst (λ s. SignIs s l) (sym (stands.sign new)) f.sign;
          leads = record {
            same = λ ls. (body_leads p r l _ is (numbers_lead p r.table (length r.places) l _ f.begins
                (subst (λ m. ExpectsNext (numbers_want false m) l (state_wants p r.table r.places (state new))) cells leads))).same ls;
          };
        }

    lists_begun : (new : Numbers T) (ls : List Lexeme) → AreTaken (IsListFed kind) (no_numbers needed) ls new
        → ((new ≡ no_numbers needed) × (ls ≡ [])) ⊎ AreTaken (IsFed k) r ls (with_list new)
    lists_begun new ls (none _) = inl (refl, refl)
    lists_begun new ls (more _ between _ us l before f) =
        inr (⊎_elim first (λ taken. more r (with_list between) (with_list new) us l taken (list_fed between l new f))
        (lists_begun between us before))
      where
        first : (between ≡ no_numbers needed) × (us ≡ []) → AreTaken (IsFed k) r (us ++ l ∷ []) (with_list new)
        first same =
            let f = subst (λ n. IsListFed kind n l new) same.0 f in
            subst (λ xs. AreTaken (IsFed k) r (xs ++ l ∷ []) (with_list new)) (sym same.1)
            (more r r (with_list new) [] l (none r) (begun_fed l new f))

    pub list_begins : (new : Numbers T) (bytes : List ℕ) (count : ℕ) → StepsAhead (IsListFed kind) (no_numbers needed) bytes count new
        → 0 < length new.read → FedAhead k r bytes count (with_list new)
    list_begins new bytes count ahead some = record {
      within = ahead.within;
      fed = λ place.
          let f = ahead.fed place in (
            f.0,
            (
              f.1.0,
              ⊎_elim (λ same. absurd (omega (arith, ap (λ (n : Numbers T). length n.read) same.0, some))) (λ taken. taken)
                  (lists_begun new f.0 f.1.1),
            ),
          );
    }
