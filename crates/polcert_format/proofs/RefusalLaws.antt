-- What is refused isn't accepted.
use Rattle.std.proofs.Common.{◌≡◌, ◌∙◌, ℕ, zero, suc, ◌<◌, None, List, refl, sym, subst, arith}
use Rattle.polcert_format.proofs.Common.{text_rest, end_place, text_limit, Table, Transition, Observation, Reward, ModelFault}
use Rattle.polcert_format.proofs.Common.{Meaning, meaning_of, sum_below, states_of, observations_of, IsSame, IsFirstWrongRow, IsRightText}
use Rattle.polcert_format.proofs.Common.{IsModelText, TextTokens, text_tokens, AreTokensOf}
use Rattle.polcert_text.proofs.Scanning.CleanCut.{clean_cut}
use Rattle.polcert_text.proofs.TextLaws.{one_cut}
use Rattle.polcert_format.specs.declared.fault.ModelFault.TheVariants.{Item, RowSum, Memory}
use Rattle.polcert_cells.specs.Meaning.{actions_of, HasProperRows}
use Rattle.polcert_cells.specs.Rows.{IsProperRow}
use Rattle.polcert_format.specs.Refusals.{IsRefusal, SaysOfText, IsNoModel}
use Rattle.polcert_format.proofs.TextLaws.{one_right_text}
use Rattle.polcert_format.proofs.ReadLaws.{not_taken}

same_sums : (f g : ℕ → ℕ) (n : ℕ) → ((i : ℕ) → i < n → f i ≡ g i) → sum_below f n ≡ sum_below g n
same_sums f g zero h = refl
same_sums f g (suc n) h = omega (arith, same_sums f g n (λ i l. h i (omega arith)), h n (omega arith))

-- where all rows of a model are proper, so are those of one that is the same
proper_row : (m n : Meaning) (table : Table) (a s : ℕ) → IsSame m n → HasProperRows m → (table ≡ Reward → ⊥) → a < actions_of m
    → s < states_of m → IsProperRow n table a s
proper_row m n Transition a s same rows no_reward p q =
    rw (← same.preamble) (sym (same_sums (m.t a s) (n.t a s) (states_of m) (λ e l. same.t a s e p q l)) ∙ rows.transitions a s p q)
proper_row m n Observation a s same rows no_reward p q =
    rw (← same.preamble) (sym (same_sums (m.o a s) (n.o a s) (observations_of m) (λ z l. same.o a s z p q l)) ∙ rows.observations a s p q)
proper_row m n Reward a s same rows no_reward p q = absurd (no_reward refl)

-- a proper model has no first wrong row
no_wrong_row : (m n : Meaning) (table : Table) (a s : ℕ) → IsSame m n → HasProperRows m → IsFirstWrongRow n table a s → ⊥
no_wrong_row m n table a s h1 h2 h3 = grind (arith, proper_row)

pub not_accepted : (text : List ℕ) (ts : TextTokens) (fault : ModelFault) (m : Meaning) → AreTokensOf text ts → IsRefusal ts fault
    → SaysOfText fault → IsModelText text m → ⊥
not_accepted text ts (Item kind number place) m tokens refusal says accepted =
    let cut = one_cut (text_rest text text_limit) ts.lexemes accepted.lexemes ts.ending None tokens.cut
    (clean_cut text accepted.lexemes accepted.tokens) in
    let d = accepted.denotes in
    not_taken ts number d.preamble d.known refusal.first_wrong cut.1
    (subst (λ ls. IsRightText ls d.preamble d.known) (sym cut.0) d.right)
not_accepted text ts (RowSum table action row) m tokens refusal says accepted =
    let d = accepted.denotes in
    let same = one_right_text accepted.lexemes d.preamble refusal.1.0 d.known refusal.1.1 d.right
    (subst (λ ls. IsRightText ls refusal.1.0 refusal.1.1)
    (one_cut (text_rest text text_limit) ts.lexemes accepted.lexemes ts.ending None tokens.cut
    (clean_cut text accepted.lexemes accepted.tokens)).0 refusal.1.2) in
    no_wrong_row m (meaning_of refusal.1.0 refusal.1.1.start refusal.1.1.entries) table action row
    (subst (IsSame m) (λ i. meaning_of (same.0 i) ((same.1 i).start) ((same.1 i).entries)) d.same) d.rows
    refusal.1.3
not_accepted text ts Memory m tokens refusal says accepted = absurd says

pub no_model : (text : List ℕ) (fault : ModelFault) → ((ts : TextTokens) → AreTokensOf text ts → IsRefusal ts fault) → IsNoModel text fault
no_model text (Item kind number place) refused = λ m accepted.
    let ts = text_tokens accepted.lexemes None (end_place (text_rest text text_limit)) in
    let tokens : AreTokensOf text ts = record { cut = clean_cut text _ accepted.tokens; end_is = refl } in
    not_accepted text ts (Item kind number place) m tokens (refused ts tokens) tt accepted
no_model text (RowSum table action row) refused = λ m accepted.
    let ts = text_tokens accepted.lexemes None (end_place (text_rest text text_limit)) in
    let tokens : AreTokensOf text ts = record { cut = clean_cut text _ accepted.tokens; end_is = refl } in
    not_accepted text ts (RowSum table action row) m tokens (refused ts tokens) tt accepted
no_model text Memory refused = tt
