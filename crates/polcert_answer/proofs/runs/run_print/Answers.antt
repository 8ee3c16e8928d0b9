use Rattle.std.proofs.Common.{rules}
use Rattle.polcert_answer.proofs.Common.{meaning}
use Rattle.polcert_answer.proofs.runs.run_print.Goals as goal

pub write_full_form-requires : goal.write_full_form-requires
write_full_form-requires g c = record { printable = c.printable.ensures.0 c.if-not-printable.false }

pub returns-in-Ok-clause-printed : goal.returns-in-Ok-clause-printed
returns-in-Ok-clause-printed g c = let (text, read, accepted) = c.in_ok-accepted.ensures.accepted in record {
  text = text;
  model = meaning c.in_ok-accepted.accepted;
  was_read = read;
  accepted = accepted;
  printable = c.printable.ensures.0 c.if-not-printable.false;
  took = search rules;
}

pub returns-clause-begun : goal.returns-clause-begun
returns-clause-begun g c = λ _. let (text, read, accepted) = c.in_ok-accepted.ensures.accepted in record {
  text = text;
  model = meaning c.in_ok-accepted.accepted;
  was_read = read;
  accepted = accepted;
  printable = c.printable.ensures.0 c.if-not-printable.false;
  took = search rules;
}
