use Rattle.polcert_items.proofs.Common.{lexeme_of, preamble_in, indices_in, IsStateWithin, of_probabilities, of_rewards}
use Rattle.polcert_items.proofs.PatternLaws.{list_in, list_stuck, probability_state, reward_state, probability_reason, if_err_map}
use Rattle.polcert_items.proofs.PatternLaws.{refused_map, each_refused_map, on_ok_map}
use Rattle.std.proofs.Common.{subst, rules}
use Rattle.polcert_items.specs.declared.entry_reader.EntryState.TheVariants as states
use Rattle.polcert_items.proofs.entry_reader.EntryReader.feed.Goals as goal

pub returns-in-Probabilities-clause-fed : goal.returns-in-Probabilities-clause-fed
returns-in-Probabilities-clause-fed c =
    let preamble = preamble_in c.args.known.now in
    let r = c.args.self.now in
    let ds = indices_in c.args.known.now r.table in
    let not_reward = subst (λ s. IsStateWithin ds r.table r.places s) c.in-Probabilities.is c.requires.within in
    let takes = on_ok_map _ (list_in of_probabilities states.Probabilities probability_state preamble c.args.self.now
    c.in-Probabilities.numbers (lexeme_of c.args.token) c.in-Probabilities.is c.feed.new.self) c.feed.ensures.fed.takes in
    let refused = if_err_map _ _ _ (λ stop h. refused_map stop
    (list_stuck of_probabilities states.Probabilities probability_state preamble c.args.self.now c.in-Probabilities.numbers
    (lexeme_of c.args.token) c.in-Probabilities.is) h) c.feed.ensures.fed.refused in
    let reason = if_err_map _ _ _ (λ stop h. each_refused_map stop
    (λ f x. probability_reason r c.in-Probabilities.numbers (lexeme_of c.args.token) f.kind f.place c.in-Probabilities.is not_reward.0 x)
    h) c.feed.ensures.fed.reason in
    search rules

pub returns-in-Rewards-clause-fed : goal.returns-in-Rewards-clause-fed
returns-in-Rewards-clause-fed c =
    let preamble = preamble_in c.args.known.now in
    let takes = on_ok_map _ (list_in of_rewards states.Rewards reward_state preamble c.args.self.now c.in-Rewards.numbers
    (lexeme_of c.args.token) c.in-Rewards.is c.feed-in-Rewards.new.self) c.feed-in-Rewards.ensures.fed.takes in
    let refused = if_err_map _ _ _ (λ stop h. refused_map stop
    (list_stuck of_rewards states.Rewards reward_state preamble c.args.self.now c.in-Rewards.numbers (lexeme_of c.args.token)
    c.in-Rewards.is) h) c.feed-in-Rewards.ensures.fed.refused in
    search rules
