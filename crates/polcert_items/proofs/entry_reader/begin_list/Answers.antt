use Rattle.std.proofs.Common.{◌≡◌, ◌-◌, [], false, rules, subst, arith, IfErr}
use Rattle.polcert_items.proofs.Common.{lexeme_of, CannotTake, NumberListGoes, IfRefused, IsMisfit, numbers_want, expected_by_numbers}
use Rattle.polcert_items.proofs.WantLaws.{no_numbers_lead}
use Rattle.polcert_items.proofs.entry_reader.begin_list.Goals as goal

pub returns-in_err-feed-clause-refused : goal.returns-in_err-feed-clause-refused
returns-in_err-feed-clause-refused g c =
    subst (λ n. IfErr c.from_residual.result (λ stop. IfRefused stop
    (λ r. CannotTake (NumberListGoes g.T.ListNumber.kind) n (lexeme_of c.args.token)))) c.new-numbers.ensures (search rules)

pub returns-clause-leads : goal.returns-clause-leads
returns-clause-leads g c = no_numbers_lead c.new-numbers.result c.args.needed (lexeme_of c.args.token) _ c.new-numbers.ensures
    c.in_ok-feed.ensures.fed.leads

pub returns-in_err-feed-clause-kind : goal.returns-in_err-feed-clause-kind
returns-in_err-feed-clause-kind g c =
    let l = lexeme_of c.args.token in
    let all : c.args.needed - 0 ≡ c.args.needed = omega arith in
    subst (λ m. IfErr c.from_residual.result (λ stop. IfRefused stop (λ r. IsMisfit (numbers_want false m []) l r.kind))) all
    (subst (λ n. IfErr c.from_residual.result (λ stop. IfRefused stop (λ r. IsMisfit (expected_by_numbers n []) l r.kind)))
    c.new-numbers.ensures
    (search rules))
