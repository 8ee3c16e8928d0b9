use Rattle.std.proofs.Common.{◌∙◌, [], Some, sym, ap, arith}
use Rattle.polcert_text.proofs.Taken.TakenAhead.{takes_none}
use Rattle.polcert_model.proofs.Common.{lexeme_of, IsTextRead}
use Rattle.polcert_model.proofs.ReadingAhead.{some_bytes}
use Rattle.polcert_model.proofs.reader.TextReader.begin_ahead.Goals as goal

pub returns-then-branch-clause-number : goal.returns-then-branch-clause-number
returns-then-branch-clause-number c = omega (
  arith,
  c.in_ok-next_entry.ensures.number c.if-branch.true,
  some_bytes 0 _ _ _ (c.in-Some.ensures.front 0),
)

pub returns-then-branch-clause-read : goal.returns-then-branch-clause-read
returns-then-branch-clause-read c =
    let l = lexeme_of c.in-Some.token in
    let about = sym c.begun_topic.ensures ∙ c.in-Some-Cells.is
    ∙ ap Some c.in-Some-Cells.field-0-is in
    record {
      within = (c.in-Some.ensures.front 0).within;
      taken = λ place. (
        _,
        (
          c.in-Some.ensures.front _,
          λ x seen read. c.in_ok-next_entry.ensures.read c.if-branch.true seen _ read about,
        ),
      );
    }

pub returns-in_default-clause-read : goal.returns-in_default-clause-read
returns-in_default-clause-read c = takes_none (λ (_ : Unit {0}). IsTextRead) _ _

pub returns-in_default-begun_topic-2-clause-read : goal.returns-in_default-begun_topic-2-clause-read
returns-in_default-begun_topic-2-clause-read c = takes_none (λ (_ : Unit {0}). IsTextRead) _ _

pub returns-else-branch-clause-read : goal.returns-else-branch-clause-read
returns-else-branch-clause-read c = rw (c.in_ok-next_entry.ensures.unknown c.if-branch.false)
    (takes_none (λ (_ : Unit {0}). IsTextRead) _ _)

pub returns-in_default-begun_topic-clause-read : goal.returns-in_default-begun_topic-clause-read
returns-in_default-begun_topic-clause-read c = takes_none (λ (_ : Unit {0}). IsTextRead) _ _
