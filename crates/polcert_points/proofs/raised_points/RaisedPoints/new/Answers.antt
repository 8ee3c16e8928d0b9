use Rattle.polcert_points.proofs.RaisedSets.{proper_raised}
use Rattle.polcert_points.proofs.raised_points.RaisedPoints.new.Goals as goal

pub invariant_of-result : goal.invariant_of-result
invariant_of-result c = record {
  all_values = c.requires.all_values;
  small = c.requires.small;
  room = c.requires.room;
  proper = proper_raised c.args.set.now c.requires.all_values c.count-count.ensures.proper c.args.by c.requires.room;
}
