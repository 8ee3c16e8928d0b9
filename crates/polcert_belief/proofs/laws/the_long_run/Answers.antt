use Rattle.polcert_belief.proofs.FromStart.{encloses, encloses_seen, long_run, long_run_within, mixtures_in_the_long_run}
use Rattle.polcert_belief.proofs.laws.the_long_run.Goals as goal

pub returns : goal.returns
returns c = record {
  exactly = long_run;
  within = long_run_within;
  mixtures = mixtures_in_the_long_run;
  optimum = encloses;
  seen = encloses_seen;
}
