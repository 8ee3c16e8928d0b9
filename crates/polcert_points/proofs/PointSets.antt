-- Points that were read are proper.
use Rattle.polcert_policy.specs.Points.{PointValues}
use Rattle.polcert_policy.specs.Points as sets
use Rattle.polcert_points.specs.PointTable.{IsProperPointTable, table_of_set}

pub proper_set : (p : PointValues) → sets.AreProperPoints p → IsProperPointTable (table_of_set p)
proper_set p proper = record {
  some = λ i l. (proper.mass i l).some;
  few = λ i l. (proper.mass i l).few;
  values = proper.values;
  named = proper.named;
}
