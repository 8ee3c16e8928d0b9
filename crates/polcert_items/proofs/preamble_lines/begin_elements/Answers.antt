use Rattle.std.proofs.Common.{◌≡◌, [], ◌∷◌, ◌++◌, IfErr, rules, subst, arith}
use Rattle.polcert_items.proofs.Common.{IfErr-weaker, lexeme_of, CannotTake, IfRefused, NamesGo}
use Rattle.polcert_items.proofs.PatternLaws.{if_err_both, refused_map, each_refused_map, each_refused_both}
use Rattle.polcert_items.proofs.WantLaws.{first_misfit}
use Rattle.polcert_items.proofs.ElementLaws.{count_takes, first_takes, first_stuck, first_reason}
use Rattle.polcert_items.proofs.preamble_lines.begin_elements.Goals as goal

pub returns-in_err-add_name-in_default-clause-refused : goal.returns-in_err-add_name-in_default-clause-refused
returns-in_err-add_name-in_default-clause-refused c =
    let l = lexeme_of c.args.token in
    let stuck : IfErr c.from_residual-in_err-add_name-in_default.result
    (λ stop. IfRefused stop (λ r. CannotTake (NamesGo c.args.most) [] l)) =
    subst (λ ns. IfErr c.from_residual-in_err-add_name-in_default.result
    (λ stop. IfRefused stop (λ r. CannotTake (NamesGo c.args.most) ns l))) c.new-names.ensures (search rules) in
    IfErr-weaker c.from_residual-in_err-add_name-in_default.result (λ stop. IfRefused stop (λ r. CannotTake (NamesGo c.args.most) [] l)) _
    (λ stop h. refused_map stop (first_stuck c.args.most l c.in_default.not-Numeral) h) stuck

pub returns-in_err-add_name-in_default-clause-reason : goal.returns-in_err-add_name-in_default-clause-reason
returns-in_err-add_name-in_default-clause-reason c = grind (arith, each_refused_map, first_reason)

pub returns-in_ok-count-in-Numeral-clause-takes : goal.returns-in_ok-count-in-Numeral-clause-takes
returns-in_ok-count-in-Numeral-clause-takes c = count_takes c.args.most (lexeme_of c.args.token) c.in_ok-count-in-Numeral.field-0
    c.in_ok-count-in-Numeral.ensures.count

pub returns-in_ok-add_name-in_default-clause-takes : goal.returns-in_ok-add_name-in_default-clause-takes
returns-in_ok-add_name-in_default-clause-takes c =
    let l = lexeme_of c.args.token in
    let done = c.in_ok-add_name-in_default.ensures in
    let names : c.add_name.new.names ≡ l.bytes ∷ [] = subst (λ ns. c.add_name.new.names ≡ ns ++ l.bytes ∷ []) c.new-names.ensures done.added
    in
    first_takes c.args.most l c.add_name.new.names done.name names

pub returns-in_err-add_name-in_default-clause-kind : goal.returns-in_err-add_name-in_default-clause-kind
returns-in_err-add_name-in_default-clause-kind c = grind (arith, if_err_both, each_refused_both, first_misfit)
