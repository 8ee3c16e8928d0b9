use Rattle.std.proofs.Common.{◌≡◌, ◌∙◌, true, false, Option, is_none, unwrap_or, sym, ap}
use Rattle.polcert_tables.proofs.Common.{Elements, count_of, is_mdp}
use Rattle.polcert_tables.proofs.RowSumLaws.{of_observations, of_end_states}
use Rattle.polcert_tables.proofs.model.observed_rows.Goals as goal

pub returns-in_default : goal.returns-in_default
returns-in_default c p observations is =
    let mdp : is_mdp p ≡ true = ap (λ (o : Option Elements). is_none o) (observations ∙ c.in_default.is) in
    (mdp, of_end_states p c.args.entries.now mdp)

pub returns-in-Ok : goal.returns-in-Ok
returns-in-Ok c p observations is =
    let pomdp : is_mdp p ≡ false = ap (λ (o : Option Elements). is_none o) (observations ∙ c.in-Some.is) in
    let width = c.count.ensures ∙ sym (ap (λ (o : Option Elements). count_of (unwrap_or o p.states)) (observations ∙ c.in-Some.is)) in
    let found = rw c.in-Ok.is at c.in_ok-rows.ensures in
    let rows = found p (record { actions = is.actions; states = is.states; columns = width }) in
    ((pomdp, rows.0), of_observations p c.args.entries.now pomdp rows.1)

pub returns-in-Err : goal.returns-in-Err
returns-in-Err c p observations is =
    let pomdp : is_mdp p ≡ false = ap (λ (o : Option Elements). is_none o) (observations ∙ c.in-Some.is) in
    let width = c.count.ensures ∙ sym (ap (λ (o : Option Elements). count_of (unwrap_or o p.states)) (observations ∙ c.in-Some.is)) in
    let found = rw c.in-Err.is at c.in_ok-rows.ensures in
    (pomdp, found p (record { actions = is.actions; states = is.states; columns = width }))
