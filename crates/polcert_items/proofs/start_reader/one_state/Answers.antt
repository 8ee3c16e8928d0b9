use Rattle.std.proofs.Common.{◌≡◌, subst, IfOk}
use Rattle.polcert_items.proofs.StartShares.{one_shares}
use Rattle.polcert_items.proofs.start_reader.one_state.Goals as goal

pub returns : goal.returns
returns c = λ states e.
    let is = one_shares states c.in_ok-chosen.chosen.choice c.args.count c.args.state c.in_ok-chosen.chosen.marks c.set.new.self
    c.in_ok-chosen.ensures.choice e c.requires.state c.in_ok-chosen.ensures.unmarked c.set.ensures in
    subst (λ v. IfOk c.start_weights.result (λ s. s ≡ v)) is c.start_weights.ensures
