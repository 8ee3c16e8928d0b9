use Rattle.polcert_items.proofs.Common.{numbers_want, least_written, ExpectsNext, state_wants, lexeme_of, cells_in, is_mdp, preamble_in}
use Rattle.polcert_items.proofs.Common.{indices_in, CannotTake, EntryGoes, IfRefused, CannotBegin, IsWordAfter}
use Rattle.std.proofs.Common.{false, ◌∙◌, ◌≤◌, drop, length, sym, ap, subst, rules, arith}
use Rattle.polcert_items.specs.declared.entry_reader.EntryState.TheVariants as states
use Rattle.polcert_cells.proofs.Basics.{true≢false}
use Rattle.polcert_format.proofs.FurtherNumbers.{begins_no_number}
use Rattle.polcert_items.proofs.PatternLaws.{colon_takes, colon_stuck, numbers_begin, numbers_stuck, few_stuck, word_takes, nothing_takes}
use Rattle.polcert_items.proofs.PatternLaws.{in_state, stuck_in_state, number_not_colon, number_not_name, if_err_map, refused_map}
use Rattle.polcert_items.proofs.WantLaws.{numbers_lead, body_leads, number_begins}
use Rattle.polcert_items.proofs.entry_reader.EntryReader.feed_body.Goals.{in_default-via-in-Colon+else-written-indices_of}
use Rattle.polcert_items.proofs.entry_reader.EntryReader.feed_body.Goals.{in_default-via-in-Numeral+else-takes_numbers}
use Rattle.polcert_items.proofs.entry_reader.EntryReader.feed_body.Goals.{in_default-via-in_default}
use Rattle.polcert_items.proofs.entry_reader.EntryReader.feed_body.Goals as goal

pub returns-in-Colon-clause-fed : goal.returns-in-Colon-clause-fed
returns-in-Colon-clause-fed c =
    let r = c.args.self.now in
    let preamble = preamble_in c.args.known.now in
    let takes = in_state preamble r states.Body states.Place (lexeme_of c.args.token) c.requires.state
    (colon_takes preamble r.table r.places (lexeme_of c.args.token) c.in-Colon.is) in
    search rules

pub returns-in_ok-self-in-Numeral-clause-fed : goal.returns-in_ok-self-in-Numeral-clause-fed
returns-in_ok-self-in-Numeral-clause-fed c =
    let r = c.args.self.now in
    let preamble = preamble_in c.args.known.now in
    let l = lexeme_of c.args.token in
    let cells = c.cells_after-needed.ensures ∙ ap (λ n. cells_in (drop n (indices_in c.args.known.now r.table))) c.len-written.ensures in
    let low = subst (λ b. least_written b r.table ≤ length r.places) c.is_mdp.ensures
    (subst (λ n. least_written c.is_mdp.result r.table ≤ n) c.len-written.ensures (c.takes_numbers.ensures.0 c.if-takes_numbers.true)) in
    let takes = in_state preamble r states.Body c.in_ok-self-in-Numeral.field-0 l c.requires.state
    (numbers_begin c.args.known.now r.table r.places l c.in_ok-self-in-Numeral.field-0 c.cells_after-needed.result
    (number_not_colon l.kind c.in-Numeral.is) (number_not_name l.kind c.in-Numeral.is) cells low c.requires.within
    c.in_ok-self-in-Numeral.ensures.begun) in
    let leads = body_leads preamble r l _ c.requires.state
    (numbers_lead preamble r.table (length r.places) l _ (number_begins l.kind c.in-Numeral.is)
    (subst (λ m. ExpectsNext (numbers_want false m) l (state_wants preamble r.table r.places c.in_ok-self-in-Numeral.field-0)) cells
    (c.in_ok-self-in-Numeral.ensures.leads preamble r.places))) in
    search rules

pub returns-in_err-self-in-Numeral-clause-fed : goal.returns-in_err-self-in-Numeral-clause-fed
returns-in_err-self-in-Numeral-clause-fed c =
    let r = c.args.self.now in
    let preamble = preamble_in c.args.known.now in
    let l = lexeme_of c.args.token in
    let needed = c.cells_after-needed.result in
    let cells = c.cells_after-needed.ensures ∙ ap (λ n. cells_in (drop n (indices_in c.args.known.now r.table))) c.len-written.ensures in
    let stuck = λ (begin : CannotBegin r.table needed l). stuck_in_state preamble r states.Body l c.requires.state
    (numbers_stuck c.args.known.now r.table r.places l needed (number_not_colon l.kind c.in-Numeral.is)
    (number_not_name l.kind c.in-Numeral.is) cells begin) in
    let refused = if_err_map c.from_residual.result (λ stop. IfRefused stop (λ r'. CannotBegin r.table needed l)) _
    (λ stop h. refused_map stop stuck h) (search rules) in
    search rules

pub returns-in-Some-clause-fed : goal.returns-in-Some-clause-fed
returns-in-Some-clause-fed c =
    let r = c.args.self.now in
    let preamble = preamble_in c.args.known.now in
    let l = lexeme_of c.args.token in
    let is = subst (λ n. IsWordAfter (is_mdp preamble) r.table n l c.in-Some.word) c.len-written.ensures
    (c.in-Some.ensures.word (is_mdp preamble)) in
    let takes = in_state preamble r states.Body (states.Word c.in-Some.word) l c.requires.state
    (word_takes preamble r.table r.places l c.in-Some.word is) in
    search rules

pub returns-in-None-clause-fed : goal.returns-in-None-clause-fed
returns-in-None-clause-fed c =
    let r = c.args.self.now in
    let preamble = preamble_in c.args.known.now in
    let l = lexeme_of c.args.token in
    let none = c.in-None.ensures.none (is_mdp preamble) in
    let stuck : CannotTake (EntryGoes preamble) r l =
    elim c.in_default.branch [
      | in_default-via-in-Colon+else-written-indices_of w ↦
          let count = w.indices_of.ensures c.args.known.now in
          let full : length (indices_in c.args.known.now r.table) ≤ length r.places =
          omega (arith, count, w.if-written-indices_of.false, c.len-written.ensures) in
          stuck_in_state preamble r states.Body l c.requires.state (colon_stuck preamble r.table r.places l w.in-Colon.is full)
      | in_default-via-in-Numeral+else-takes_numbers w ↦
          stuck_in_state preamble r states.Body l c.requires.state
          (few_stuck preamble r.table r.places l w.in-Numeral.is
          (λ low. true≢false (w.takes_numbers.ensures.1 (subst (λ b. least_written b r.table ≤ c.len-written.result)
          (sym w.is_mdp.ensures) (subst (λ n. least_written (is_mdp preamble) r.table ≤ n) (sym c.len-written.ensures) low)))
          w.if-takes_numbers.false))
      | in_default-via-in_default w ↦
          stuck_in_state preamble r states.Body l c.requires.state (nothing_takes preamble r.table r.places l w.in_default.not-Colon
          (λ ls hs a. begins_no_number w.in_default.not-Numeral w.in_default.not-Plus w.in_default.not-Minus a)
          (λ word is. none word (subst (λ n. IsWordAfter (is_mdp preamble) r.table n l word) (sym c.len-written.ensures) is)))
    ] in
    search rules
