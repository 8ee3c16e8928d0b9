use Rattle.std.proofs.Common.{rules, subst, sym, [], FitsSigned, w64, to_z-of_z}
use Rattle.polcert_items.proofs.Common.{lexeme_of, Begins, NumbersGo, StartGoes}
use Rattle.polcert_items.specs.declared.start_reader.StartReader.TheVariants as reader
use Rattle.polcert_text.proofs.Printing.Taking.{on_err}
use Rattle.polcert_items.proofs.ListLaws.{held_not_refused}
use Rattle.polcert_items.proofs.StartNumbers.{sign_begins, value_begins}
use Rattle.polcert_items.proofs.start_reader.first_number.Goals as goal

pub returns-in-Sign-clause-begun : goal.returns-in-Sign-clause-begun
returns-in-Sign-clause-begun c = λ states.
    let step = rw c.in-Sign.is at c.in_ok-sign.ensures.step in
    subst (λ s. Begins (NumbersGo states [] s) (lexeme_of c.args.token) (StartGoes states (reader.Sign c.in-Sign.sign))) (sym step.0)
    (sign_begins states [] (lexeme_of c.args.token) c.in-Sign.sign step.1)

pub returns-in-Value-clause-begun : goal.returns-in-Value-clause-begun
returns-in-Value-clause-begun c = λ states.
    let h = c.in-Value.value in
    let fits : FitsSigned w64 h = search rules in
    let step = rw c.in-Value.is at c.in_ok-sign.ensures.step in
    simp to_z-of_z (value_begins states [] (lexeme_of c.args.token) c.args.sign h step.0)

pub returns-in_err-sign-clause-held : goal.returns-in_err-sign-clause-held
returns-in_err-sign-clause-held c = on_err _ (held_not_refused c.args.sign (lexeme_of c.args.token) c.in_err-sign.ensures.refused.none)
