use Rattle.std.proofs.Common.{length}
use Rattle.polcert_items.proofs.Common.{lexeme_of}
use Rattle.polcert_text.proofs.Printing.Taking.{on_err}
use Rattle.polcert_items.proofs.StartForms.{list_takes, list_stuck, stands_low}
use Rattle.polcert_items.proofs.start_reader.Chosen.feed.Goals as goal

pub returns-in_err-state-clause-refused : goal.returns-in_err-state-clause-refused
returns-in_err-state-clause-refused c = on_err _ (list_stuck c.args.states.now c.args.self.now (lexeme_of c.args.token)
    c.in_err-state.ensures.refused)

pub returns-clause-takes : goal.returns-clause-takes
returns-clause-takes c =
    list_takes c.args.states.now c.args.self.now (lexeme_of c.args.token) c.in_ok-state.state c.set.new.self c.in_ok-state.ensures.element
    (stands_low c.args.states.now (lexeme_of c.args.token) c.in_ok-state.state (length c.args.self.now.marks) c.requires.size
    c.in_ok-state.ensures.element) c.set.ensures
