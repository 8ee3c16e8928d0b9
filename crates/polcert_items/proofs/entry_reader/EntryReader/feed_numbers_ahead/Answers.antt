use Rattle.std.proofs.Common.{subst}
use Rattle.polcert_items.proofs.Common.{indices_in, IsStateWithin, of_probabilities, of_rewards}
use Rattle.polcert_items.specs.declared.entry_reader.EntryState.TheVariants as states
use Rattle.polcert_items.proofs.AheadLaws.{fed_none, fed_nothing, if_ok_map}
use Rattle.polcert_items.proofs.AheadLists.{list_goes, probabilities_stand, rewards_stand}
use Rattle.polcert_items.proofs.entry_reader.EntryReader.feed_numbers_ahead.Goals as goal

pub returns-in-Probabilities : goal.returns-in-Probabilities
returns-in-Probabilities c =
    let k = c.args.known.now in
    let r = c.args.self.now in
    let other = (subst (λ s. IsStateWithin (indices_in k r.table) r.table r.places s) c.in-Probabilities.is c.requires).0 in
    if_ok_map c.feed_ahead.result _ _ (λ count ahead. list_goes of_probabilities states.Probabilities k r
    (probabilities_stand r.table other) c.in-Probabilities.numbers c.feed_ahead.new.self c.args.bytes.now count c.in-Probabilities.is
    ahead) c.feed_ahead.ensures

pub returns-in-Rewards : goal.returns-in-Rewards
returns-in-Rewards c =
    let k = c.args.known.now in
    let r = c.args.self.now in
    let rewards = (subst (λ s. IsStateWithin (indices_in k r.table) r.table r.places s) c.in-Rewards.is c.requires).0 in
    if_ok_map c.feed_ahead-in-Rewards.result _ _ (λ count ahead. list_goes of_rewards states.Rewards k r (rewards_stand r.table rewards)
    c.in-Rewards.numbers c.feed_ahead-in-Rewards.new.self c.args.bytes.now count c.in-Rewards.is ahead) c.feed_ahead-in-Rewards.ensures

pub returns-in_default : goal.returns-in_default
returns-in_default c = fed_nothing c.args.known.now c.args.self.now c.args.bytes.now _ c.in-Probabilities.is

pub returns-in_default-2 : goal.returns-in_default-2
returns-in_default-2 c = fed_nothing c.args.known.now c.args.self.now c.args.bytes.now _ c.in-Rewards.is

pub returns-in_default-3 : goal.returns-in_default-3
returns-in_default-3 c = fed_none c.args.known.now c.args.self.now c.args.bytes.now
