use Rattle.std.proofs.Common.{rules}
use Rattle.polcert_text.proofs.Printing.Written.{and_then, unwritten, stopped}
use Rattle.polcert_full_form.proofs.Writable.WritableModels.{kept_reads_back}
use Rattle.polcert_full_form.proofs.print_model.write_model.Goals as goal

pub returns-in_err-write_preamble : goal.returns-in_err-write_preamble
returns-in_err-write_preamble g c = record {
  written = stopped (search rules) (unwritten _ (unwritten _ (unwritten _ (unwritten _ c.in_err-write_preamble.ensures))));
  reads_back = kept_reads_back c.args.model.now c.requires.printable;
}

pub returns-in_err-write_start : goal.returns-in_err-write_start
returns-in_err-write_start g c = record {
  written = stopped (search rules) (unwritten _ (unwritten _
      (unwritten _ (and_then c.in_ok-write_preamble.ensures c.in_err-write_start.ensures))));
  reads_back = kept_reads_back c.args.model.now c.requires.printable;
}

pub returns-in_err-write_rows : goal.returns-in_err-write_rows
returns-in_err-write_rows g c = record {
  written = stopped (search rules) (unwritten _ (unwritten _ (and_then (and_then c.in_ok-write_preamble.ensures c.in_ok-write_start.ensures)
      c.in_err-write_rows.ensures)));
  reads_back = kept_reads_back c.args.model.now c.requires.printable;
}

pub returns-in_err-write_observation_rows : goal.returns-in_err-write_observation_rows
returns-in_err-write_observation_rows g c = record {
  written = stopped (search rules) (unwritten _ (and_then
      (and_then (and_then c.in_ok-write_preamble.ensures c.in_ok-write_start.ensures) c.in_ok-write_rows.ensures)
      c.in_err-write_observation_rows.ensures));
  reads_back = kept_reads_back c.args.model.now c.requires.printable;
}

pub returns : goal.returns
returns g c = record {
  written = and_then (and_then (and_then (and_then c.in_ok-write_preamble.ensures c.in_ok-write_start.ensures) c.in_ok-write_rows.ensures)
      c.in_ok-write_observation_rows.ensures) c.write_rewards.ensures;
  reads_back = kept_reads_back c.args.model.now c.requires.printable;
}
