use Rattle.std.proofs.Common.{◌∙◌, sym, ap}
use Rattle.polcert_text.proofs.Common.{state_after, Start}
use Rattle.polcert_text.proofs.Scanning.Runs.{ended_mark}
use Rattle.polcert_text.proofs.tokens.ended_name_or_mark.Goals as goal

pub returns-in-Single-clause-ends : goal.returns-in-Single-clause-ends
returns-in-Single-clause-ends c = ended_mark c.args.bytes.now c.in-Single.kind c.requires
    (sym (c.in-Single.ensures ∙ ap (state_after Start) c.class_of.ensures))
