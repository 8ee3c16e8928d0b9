use Rattle.std.proofs.Common.{◌∙◌, ◌+◌, ◌++◌, ◌∷◌, [], length-append, sym, ap, arith}
use Rattle.polcert_text.proofs.Common.{kind_at}
use Rattle.polcert_text.proofs.Scanning.LexemeEnds.{after_some, after_none}
use Rattle.polcert_text.proofs.Scanning.LexemeLaws.{state_fed, front_takes, front_keeps, kind_of-through}
use Rattle.polcert_text.proofs.tokens.LexemeScan.with_byte.Goals as goal

pub returns-in-Some-clause-scan : goal.returns-in-Some-clause-scan
returns-in-Some-clause-scan c = λ read was.
    let state = state_fed read c.args.byte _ _ _ was.state c.class_of.ensures c.after-state.ensures in
    let kind = kind_of-through (read ++ c.args.byte ∷ []) ∙ ap kind_at state ∙ sym c.kind.ensures ∙ c.in-Some.is in
    record {
      len = omega (arith, was.len, length-append read (c.args.byte ∷ []));
      state = state;
      longest = front_takes read c.args.byte (record { kind = c.in-Some.kind; len = c.args.self.len + 1 }) (omega (arith, was.len)) kind;
      following = λ _. after_some _ _ (c.args.self.len + 1) (sym c.kind.ensures ∙ c.in-Some.is);
    }

pub returns-in-None-clause-scan : goal.returns-in-None-clause-scan
returns-in-None-clause-scan c = grind (arith, length-append, after_none, state_fed, front_keeps, kind_of-through)
