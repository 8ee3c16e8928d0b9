use Rattle.polcert_check.proofs.expected_reward.RewardBuffer.run_at.Goals as goal

pub reaches-requires-clause-first : goal.reaches-requires-clause-first
reaches-requires-clause-first g c = (c.requires.last c.in-Some.run' c.in-Some.is).end

pub returns-then-reaches : goal.returns-then-reaches
returns-then-reaches g c =
    let is = c.requires.last c.in-Some.run' c.in-Some.is in
    record { here = c.reaches.ensures c.if-reaches.true c.args.s c.requires.start is; run = is }
