use Rattle.polcert_check.proofs.lower.least_lowering_watched.Goals as goal

pub returns : goal.returns
returns g c = record {
  least = rw (c.new.ensures.checked_controller, c.new.ensures.side, c.new.ensures.vectors) at c.least_of.ensures.least;
  refused = rw (c.new.ensures.checked_controller, c.new.ensures.side, c.new.ensures.vectors) at c.least_of.ensures.refused;
  small = rw c.new.ensures.checked_controller at c.least_of.ensures.small;
}
