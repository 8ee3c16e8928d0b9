use Rattle.std.proofs.Common.{arith}
use Rattle.std.proofs.lemmas.Result.{IfOk-weaker, on_err_weaker}
use Rattle.polcert_items.proofs.Common.{lexeme_of}
use Rattle.polcert_items.proofs.StartForms.{body_begins, body_stuck, sign_not_whole, plus_or_minus, uniform_begins, name_begins, name_stuck}
use Rattle.polcert_items.proofs.StartForms.{digits_begin, not_whole, whole_or_one, numeral_not_name}
use Rattle.polcert_text.proofs.Printing.Taking.{on_err}
use Rattle.polcert_cells.proofs.Basics.{true≢false}
use Rattle.polcert_items.proofs.start_reader.begin_body.Goals as goal

pub returns-in-Plus-clause-begun : goal.returns-in-Plus-clause-begun
returns-in-Plus-clause-begun c =
    let states = c.args.states.now in
    let l = lexeme_of c.args.token in
    let other = plus_or_minus l c.in-Plus.is in
    IfOk-weaker _ _ _ (λ r b. body_begins states l other.1 (sign_not_whole states l other.0) r b)
    (c.first_number-in-Plus.ensures.begun states)

pub returns-then-is_word-clause-begun : goal.returns-then-is_word-clause-begun
returns-then-is_word-clause-begun c = uniform_begins c.args.states.now (lexeme_of c.args.token) c.in-Name.is
    (c.is_word.ensures.0 c.if-is_word.true)

pub returns-in_err-element_of-in-Name-clause-refused : goal.returns-in_err-element_of-in-Name-clause-refused
returns-in_err-element_of-in-Name-clause-refused c = grind (arith, name_stuck, on_err, true≢false)

pub returns-in_ok-element_of-in-Name-clause-begun : goal.returns-in_ok-element_of-in-Name-clause-begun
returns-in_ok-element_of-in-Name-clause-begun c =
    name_begins c.args.states.now (lexeme_of c.args.token) c.in-Name.is c.in_ok-element_of-in-Name.field-0
    c.in_ok-element_of-in-Name.ensures.element (λ w. true≢false (c.is_word.ensures.1 w) c.if-is_word.false)

pub returns-in-Some-clause-begun : goal.returns-in-Some-clause-begun
returns-in-Some-clause-begun c = grind (arith, digits_begin)

pub returns-in-None-clause-begun : goal.returns-in-None-clause-begun
returns-in-None-clause-begun c =
    let states = c.args.states.now in
    let l = lexeme_of c.args.token in
    let none = not_whole states l (whole_or_one states l c.count.result c.count.ensures c.in-None.ensures) in
    IfOk-weaker _ _ _ (λ r b. body_begins states l (numeral_not_name l c.in-Numeral.is) none r b) (c.first_number.ensures.begun states)

pub returns-in-None-clause-refused : goal.returns-in-None-clause-refused
returns-in-None-clause-refused c =
    let states = c.args.states.now in
    let l = lexeme_of c.args.token in
    let none = not_whole states l (whole_or_one states l c.count.result c.count.ensures c.in-None.ensures) in
    on_err_weaker _ (λ stuck. body_stuck states l (numeral_not_name l c.in-Numeral.is) none stuck) (c.first_number.ensures.refused states)
