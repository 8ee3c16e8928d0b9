use Rattle.std.proofs.Common.{rules}
use Rattle.polcert_text.proofs.Printing.Written.{and_then, unwritten, stopped}
use Rattle.polcert_robust_answer.specs.Lines.{nearness_words, rewards_words}
use Rattle.polcert_robust_answer.proofs.lines.write_models.Goals as goal

pub returns-in_err-write_all : goal.returns-in_err-write_all
returns-in_err-write_all g c =
    stopped (search rules) (unwritten (rewards_words c.args.within.now)
    (unwritten (nearness_words c.args.within.now) c.in_err-write_all.ensures))

pub returns-in_err-write_nearness : goal.returns-in_err-write_nearness
returns-in_err-write_nearness g c =
    stopped (search rules) (unwritten (rewards_words c.args.within.now)
    (and_then c.in_ok-write_all.ensures c.in_err-write_nearness.ensures))

pub returns : goal.returns
returns g c = and_then (and_then c.in_ok-write_all.ensures c.in_ok-write_nearness.ensures) c.write_rewards_within.ensures
