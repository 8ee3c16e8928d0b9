use Rattle.std.proofs.Common.{ap, rules, arith}
use Rattle.polcert_items.proofs.Common.{IfErr-weaker, lexeme_of, count_of, is_sign_kind}
use Rattle.polcert_items.specs.declared.start_reader.StartReader.TheVariants as reader
use Rattle.polcert_items.proofs.PatternLaws.{refused_map, each_refused_map}
use Rattle.polcert_items.proofs.StartNumbers.{sign_takes, shares_stuck, digits_take, first_is}
use Rattle.polcert_items.proofs.StartReading.{shares_fed}
use Rattle.polcert_items.proofs.StartSeen.{fed_as, form_seen, list_seen, body_seen, numeral_seen, number_seen, digits_go_on, list_reason}
use Rattle.polcert_items.proofs.StartSeen.{refused_as, token_refused, number_refused, first_refused, valueless_refused}
use Rattle.polcert_items.proofs.start_reader.StartReader.feed.Goals as goal

pub returns-in_err-self-in-Body-clause-refused : goal.returns-in_err-self-in-Body-clause-refused
returns-in_err-self-in-Body-clause-refused c = grind (arith, refused_as, token_refused)

pub returns-in_err-self-in-Sign-clause-refused : goal.returns-in_err-self-in-Sign-clause-refused
returns-in_err-self-in-Sign-clause-refused c = grind (arith, refused_as, token_refused)

pub returns-in_err-advance-in-Number-clause-refused : goal.returns-in_err-advance-in-Number-clause-refused
returns-in_err-advance-in-Number-clause-refused c = grind (arith, refused_as, number_refused)

pub returns-in_err-first-in-StateOrNumber-clause-refused : goal.returns-in_err-first-in-StateOrNumber-clause-refused
returns-in_err-first-in-StateOrNumber-clause-refused c =
    let result = c.from_residual-in_err-first-in-StateOrNumber.result in
    let refused = valueless_refused c.args.states.now c.in-StateOrNumber.digits _ (lexeme_of c.args.token)
    c.in_err-first-in-StateOrNumber.ensures in
    refused_as result c.args.states.now _ _ _ c.in-StateOrNumber.is (search rules)

pub returns-in_err-advance-in-StateOrNumber-clause-refused : goal.returns-in_err-advance-in-StateOrNumber-clause-refused
returns-in_err-advance-in-StateOrNumber-clause-refused c =
    let result = c.from_residual-in_err-advance-in-StateOrNumber.result in
    refused_as result c.args.states.now _ _ _ c.in-StateOrNumber.is
    (first_refused result c.args.states.now c.in-StateOrNumber.digits _ (lexeme_of c.args.token) c.in_ok-first-in-StateOrNumber.ensures
    (search rules) (search rules))

pub returns-in_ok-self-in-Form-clause-fed : goal.returns-in_ok-self-in-Form-clause-fed
returns-in_ok-self-in-Form-clause-fed c =
    let e = c.in_ok-self-in-Form.ensures in
    fed_as c.args.states.now _ _ _ _ c.in-Form.is (e.within c.args.states.now) (e.begun c.args.states.now)
    (e.leads (count_of c.args.states.now))
    (λ body seen. form_seen _ body _ _ seen.body_is e.formed)

pub returns-in_ok-new-in-Colon-clause-fed : goal.returns-in_ok-new-in-Colon-clause-fed
returns-in_ok-new-in-Colon-clause-fed c =
    fed_as c.args.states.now _ _ _ _ c.in-Colon.is (search rules) (search rules) (search rules)
    (λ body seen. list_seen _ body _ c.in_ok-new-in-Colon.field-0 seen.body_is (ap is_sign_kind c.in_ok-take_colon-in-Colon.ensures.ok))

pub returns-in_ok-feed-in-List-clause-fed : goal.returns-in_ok-feed-in-List-clause-fed
returns-in_ok-feed-in-List-clause-fed c =
    fed_as c.args.states.now _ _ _ _ c.in-List.is (search rules) (search rules) (search rules)
    (λ body seen. list_seen _ body _ c.feed.new.self seen.body_is c.in_ok-feed-in-List.ensures.kept)

pub returns-in_ok-self-in-Body-clause-fed : goal.returns-in_ok-self-in-Body-clause-fed
returns-in_ok-self-in-Body-clause-fed c = grind (arith, fed_as, body_seen)

pub returns-in_ok-self-in-Sign-clause-fed : goal.returns-in_ok-self-in-Sign-clause-fed
returns-in_ok-self-in-Sign-clause-fed c =
    let e = c.in_ok-self-in-Sign.ensures in
    fed_as c.args.states.now _ _ _ _ c.in-Sign.is (e.within c.args.states.now)
    (sign_takes c.args.states.now c.in-Sign.sign (lexeme_of c.args.token) _ (e.begun c.args.states.now))
    (e.leads (count_of c.args.states.now))
    (λ body seen. numeral_seen _ c.in-Sign.sign body _ _ seen.body_is e.kept)

pub returns-in_ok-advance-in-Number-clause-fed : goal.returns-in_ok-advance-in-Number-clause-fed
returns-in_ok-advance-in-Number-clause-fed c =
    fed_as c.args.states.now _ _ _ _ c.in-Number.is (search rules) (search rules) (search rules)
    (λ body seen. number_seen _ body _ c.in-Number.first c.in_ok-advance-in-Number.field-0 seen c.in_ok-advance-in-Number.ensures.inside
    c.in_ok-advance-in-Number.ensures.kept)

pub returns-in_ok-advance-in-StateOrNumber-clause-fed : goal.returns-in_ok-advance-in-StateOrNumber-clause-fed
returns-in_ok-advance-in-StateOrNumber-clause-fed c =
    let e = c.in_ok-advance-in-StateOrNumber.ensures in
    let d = c.in-StateOrNumber.digits in
    let l = lexeme_of c.args.token in
    let f = c.in_ok-first-in-StateOrNumber.first in
    let is = first_is d.value d.place f c.in_ok-first-in-StateOrNumber.ensures in
    fed_as c.args.states.now _ _ _ _ c.in-StateOrNumber.is (search rules)
    (digits_take c.args.states.now d l f c.in_ok-advance-in-StateOrNumber.field-0 is.0 e.takes) (search rules)
    (λ body seen. digits_go_on _ body l d f c.in_ok-advance-in-StateOrNumber.field-0 seen is.0 e.inside e.kept)

pub returns-in-Probabilities-clause-fed : goal.returns-in-Probabilities-clause-fed
returns-in-Probabilities-clause-fed c = grind (arith, shares_fed)

pub returns-in-Probabilities-clause-refused : goal.returns-in-Probabilities-clause-refused
returns-in-Probabilities-clause-refused c =
    let e = c.feed-in-Probabilities.ensures in
    let states = c.args.states.now in
    let l = lexeme_of c.args.token in
    let n = c.in-Probabilities.numbers in
    refused_as c.feed-in-Probabilities.result states _ _ _ c.in-Probabilities.is
    (token_refused c.feed-in-Probabilities.result states (reader.Probabilities n) l
    (IfErr-weaker _ _ _ (λ stop h. refused_map stop (shares_stuck states n l) h) e.fed.refused)
    (IfErr-weaker _ _ _ (λ stop h. each_refused_map stop (λ r x. list_reason n.sign l r.kind r.place x) h) e.fed.reason) e.fed.kind)
