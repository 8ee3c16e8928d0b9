use Rattle.std.proofs.Common.{◌≡◌, ◌*◌, ◌∙◌, length}
use Rattle.polcert_points.proofs.Common.{CellTable, IsProper}
use Rattle.polcert_cells.specs.Tables.{IsWithinLimits}
use Rattle.polcert_policy.specs.Vectors.{value_of}
use Rattle.polcert_points.specs.PointTable.{PointTable, IsProperPointTable, charge_at}
use Rattle.polcert_points.proofs.Laters.{covers_are}
use Rattle.polcert_points.proofs.NamedCovers.{covers_of}
use Rattle.polcert_points.proofs.PointExcesses.{promise_of, small_charges}
use Rattle.polcert_points.proofs.point_verdict.check_points_watched.Goals as goal

pub invariant_of-input : goal.invariant_of-input
invariant_of-input g c =
    let t : CellTable = g.C.Cells.table c.args.cells.now in
    let p : PointTable = g.P.BeliefPoints.table c.args.points.now in
    let proper : IsProperPointTable p = g.met.P.BeliefPoints.is_proper c.args.points.now in
    let room : length c.fill_charges.new.charges ≡ t.actions * t.states = c.fill_charges.auto.charges ∙ c.requires.room in
    record {
      fit = c.requires.points;
      room = rw (c.requires.points.actions, c.requires.points.states) room;
      small = small_charges t p c.args.vectors.now c.fill_charges.new.charges c.requires.vectors c.nodes-vectors.ensures.proper
          c.requires.points proper c.fill_charges.ensures;
    }

pub returns : goal.returns
returns g c =
    let t : CellTable = g.C.Cells.table c.args.cells.now in
    let m : IsProper t = g.met.C.Cells.is_proper c.args.cells.now in
    let limits : IsWithinLimits t = g.met.C.Cells.is_within_limits c.args.cells.now in
    let p : PointTable = g.P.BeliefPoints.table c.args.points.now in
    let proper : IsProperPointTable p = g.met.P.BeliefPoints.is_proper c.args.points.now in
    let found = c.verdict_of.ensures (covers_of t p) (covers_are t p c.requires.points proper) in
    record {
      verdict = record {
        charges = charge_at p c.fill_charges.new.charges;
        covers = covers_of t p;
        charged =
            c.fill_charges.ensures;
        covered = covers_are t p c.requires.points proper;
        found = found;
      };
      promise = promise_of t m limits (value_of c.args.vectors.now) (charge_at p c.fill_charges.new.charges) p c.requires.points proper
          c.fill_charges.ensures c.verdict_of.result found;
    }
