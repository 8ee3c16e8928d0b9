use Rattle.std.proofs.Common.{rules, ◌≡◌, ◌*◌, ◌∙◌, length, w64}
use Rattle.std.proofs.lemmas.Int.{to_z-of_z}
use Rattle.polcert_points.proofs.Common.{CellTable, Meaning, table_of}
use Rattle.polcert_model.specs.Contents.{meaning}
use Rattle.polcert_policy.specs.Vectors.{value_of}
use Rattle.polcert_points.specs.PointTable.{PointTable, IsProperPointTable, charge_at}
use Rattle.polcert_points.specs.PointStartMost.{start_times}
use Rattle.polcert_points.proofs.PointExcesses.{small_charges}
use Rattle.polcert_points.proofs.PointStarts.{from_start}
use Rattle.polcert_points.proofs.PointStartMosts.{certificate_of}
use Rattle.polcert_points.proofs.start_most.most_from_points.Goals as goal

pub invariant_of-input : goal.invariant_of-input
invariant_of-input g c =
    let t : CellTable = table_of (meaning c.args.model.now) in
    let p : PointTable = g.P.BeliefPoints.table c.args.points.now in
    let proper : IsProperPointTable p = g.met.P.BeliefPoints.is_proper c.args.points.now in
    let room : length c.fill_charges.new.charges ≡ t.actions * t.states = c.fill_charges.auto.charges ∙ c.requires.room in
    record {
      fit = c.requires.points;
      room = rw (c.requires.points.actions, c.requires.points.states) room;
      small = small_charges t p c.args.vectors.now c.fill_charges.new.charges c.requires.vectors c.nodes-vectors.ensures.proper
          c.requires.points proper c.fill_charges.ensures;
    }

pub returns : goal.returns
returns g c =
    let m : Meaning = meaning c.args.model.now in
    let p : PointTable = g.P.BeliefPoints.table c.args.points.now in
    let proper : IsProperPointTable p = g.met.P.BeliefPoints.is_proper c.args.points.now in
    rw (to_z-of_z w64 c.most_with.result (search rules)) (record {
      most = record { charges = charge_at p c.fill_charges.new.charges; charged = c.fill_charges.ensures; is_most = c.most_with.ensures };
      certificate = certificate_of m c.args.model.now.limits (value_of c.args.vectors.now) (charge_at p c.fill_charges.new.charges) p
          c.requires.points proper c.most_with.result c.fill_charges.ensures c.most_with.ensures;
      promise = λ informed verdict.
          let h = certificate_of m c.args.model.now.limits (value_of c.args.vectors.now) (charge_at p c.fill_charges.new.charges) p
          c.requires.points proper c.most_with.result c.fill_charges.ensures c.most_with.ensures informed verdict in
          from_start m c.args.model.now.limits (value_of c.args.vectors.now) h.charges p.points h.covers start_times h.cover
          c.most_with.result (record { t_rows = c.args.model.now.rows.transitions; o_rows = c.args.model.now.rows.observations })
          h.certificate;
    })
