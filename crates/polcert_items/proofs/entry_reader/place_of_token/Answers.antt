use Rattle.std.proofs.Common.{◌≡◌, unwrap_or, ap, sym, subst, rules}
use Rattle.std.specs.Option.{option_copied}
use Rattle.polcert_items.proofs.Common.{err_from_is_err_and, lexeme_of, Count, IsPlace, Place}
use Rattle.polcert_items.proofs.PatternLaws.{no_place}
use Rattle.polcert_items.proofs.entry_reader.place_of_token.Goals as goal

pub returns-in_err-element_of-in_default-Some : goal.returns-in_err-element_of-in_default-Some
returns-in_err-element_of-in_default-Some c =
    let p = err_from_is_err_and c.from_residual.result c.from_residual.ensures.1 in
    let e = c.in_err-element_of-in_default-Some.ensures in
    let l = lexeme_of c.args.token in
    let are : unwrap_or (option_copied c.args.elements) (Count 0) ≡ c.in_default-Some.elements.now =
    ap (λ o. unwrap_or (option_copied o) (Count 0)) c.in_default-Some.is-1 in
    rw (p.1, p.2) (record {
      place = tt;
      refused = subst (λ d. (q : Place) → IsPlace d l q → ⊥) (sym are)
          (no_place c.in_default-Some.elements.now l c.in_default-Some.not-Star-0 e.refused);
      reason = e.reason;
      kind = e.kind;
    })

pub returns-in-Star-default-clause-place : goal.returns-in-Star-default-clause-place
returns-in-Star-default-clause-place c = search rules
