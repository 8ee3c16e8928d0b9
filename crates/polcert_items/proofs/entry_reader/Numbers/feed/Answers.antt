use Rattle.std.proofs.Common.{refl, rules, subst, sym, FitsSigned, w64, to_z-of_z}
use Rattle.polcert_items.proofs.Common.{lexeme_of, FitsRange, is_minus_sign, IsMillionths}
use Rattle.polcert_items.proofs.ListLaws.{no_number, takes_sign, takes_number, if_err, if_refused}
use Rattle.polcert_items.proofs.WantLaws.{list_numeral_leads}
use Rattle.polcert_items.proofs.entry_reader.Numbers.feed.Goals as goal

pub returns-in_err-sign-clause-fed : goal.returns-in_err-sign-clause-fed
returns-in_err-sign-clause-fed g c =
    let none = rw c.range.ensures at c.in_err-sign.ensures.refused.none in
    record {
      takes = search rules;
      leads = search rules;
      refused = if_err _ _ (λ stop. if_refused stop (no_number g.T.ListNumber.kind c.args.self.now (lexeme_of c.args.token) none));
      reason = search rules;
      kind = search rules;
    }

pub returns-in-Sign-clause-fed : goal.returns-in-Sign-clause-fed
returns-in-Sign-clause-fed g c =
    let step = rw c.in-Sign.is at c.in_ok-sign.ensures.step in
    let takes = takes_sign g.T.ListNumber.kind c.args.self.now _ (lexeme_of c.args.token) refl c.in-Sign.sign step.1 step.0 refl refl in
    search rules

pub returns-in_ok-push-in-Value-clause-fed : goal.returns-in_ok-push-in-Value-clause-fed
returns-in_ok-push-in-Value-clause-fed g c =
    let kind = g.T.ListNumber.kind in
    let h = c.in-Value.value in
    let fits : FitsSigned w64 h = search rules in
    let step = rw c.in-Value.is at c.in_ok-sign.ensures.step in
    let fits_in = rw c.range.ensures at step.1 in
    let worth = simp to_z-of_z at c.of_millionths.ensures in
    let takes = takes_number kind c.args.self.now _ (lexeme_of c.args.token) refl c.of_millionths.result g.met.T.ListNumber.distinct
    (subst (IsMillionths (is_minus_sign c.args.self.now.sign) (lexeme_of c.args.token)) (sym worth) step.0)
    (subst (FitsRange kind.range) (sym worth) fits_in) refl c.in_ok-push-in-Value.ensures.ok in
    let leads = list_numeral_leads c.args.self.now (lexeme_of c.args.token) _ c.of_millionths.result step.0.kind
    c.in_ok-push-in-Value.ensures.ok in
    search rules
