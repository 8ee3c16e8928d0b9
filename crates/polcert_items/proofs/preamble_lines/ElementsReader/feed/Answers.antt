use Rattle.std.proofs.Common.{rules, arith}
use Rattle.polcert_items.proofs.Common.{common_steps, lexeme_of}
use Rattle.polcert_items.proofs.ElementLaws.{named_takes, on_ok_both, seen_colon, seen_first}
use Rattle.polcert_items.proofs.preamble_lines.ElementsReader.feed.Goals as goal

pub returns-in_ok-take_colon-in-Colon-clause-seen : goal.returns-in_ok-take_colon-in-Colon-clause-seen
returns-in_ok-take_colon-in-Colon-clause-seen c = λ body seen. seen_colon body (lexeme_of c.args.token) (rw c.in-Colon.is at seen)

pub returns-in_ok-self-in-First-clause-seen : goal.returns-in_ok-self-in-First-clause-seen
returns-in_ok-self-in-First-clause-seen c = λ body seen.
    seen_first body (lexeme_of c.args.token) c.in_ok-self-in-First.field-0 (rw c.in-First.is at seen) c.in_ok-self-in-First.ensures.seen

pub returns-in-Named-clause-fed : goal.returns-in-Named-clause-fed
returns-in-Named-clause-fed c =
    record {
      takes = on_ok_both c.add_name.result (λ name added. named_takes c.args.most c.args.self.now c.in-Named.names c.add_name.new.names
          (lexeme_of c.args.token) c.in-Named.is name added) c.add_name.ensures.name c.add_name.ensures.added;
      leads = grind (arith, common_steps);
      refused = search rules;
      reason = search rules;
      kind = search rules;
    }
