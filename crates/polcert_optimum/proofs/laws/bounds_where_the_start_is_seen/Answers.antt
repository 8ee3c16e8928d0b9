use Rattle.polcert_optimum.proofs.Seen.{seen_from_start, seen_mixtures, seen_only_then, each_at_most, number_is}
use Rattle.polcert_optimum.proofs.laws.bounds_where_the_start_is_seen.Goals as goal

pub returns : goal.returns
returns c = record {
  policies = λ m vectors most limits proper informed. seen_from_start m limits vectors proper informed most;
  mixtures = λ m vectors most limits proper informed. seen_mixtures m limits vectors proper informed most;
  only_then = λ m vectors most limits. seen_only_then m limits vectors most;
  each = each_at_most;
  number = number_is;
}
