use Rattle.std.proofs.Common.{◌≡◌, subst}
use Rattle.polcert_points_answer.proofs.Common.{Text, IsPointReadFault}
use Rattle.polcert_points_answer.proofs.OfTexts.{denoted_slices, refused_slices}
use Rattle.polcert_points_answer.proofs.inputs.read_point_texts.Goals as goal

pub returns-in-Ok : goal.returns-in-Ok
returns-in-Ok c =
    let both = denoted_slices
    (λ s. s.rest.now) _ _ c.args.model.now c.new-model.ensures
    (λ s. s.rest.now) _ _ c.args.vectors.now c.new-vectors.ensures
    (λ s. s.rest.now) _ _ c.args.points.now c.new-points.ensures
    _ _ _ c.in-Ok.ensures.accepted in
    record { vectors_accepted = both.0; points_accepted = both.1; refused = tt }

pub returns-in-Err-Text-clause-refused : goal.returns-in-Err-Text-clause-refused
returns-in-Err-Text-clause-refused c =
    let is : c.in-Err-Text.field-0 ≡ Text c.in-Err-Text.fault = cc in
    refused_slices
    (λ s. s.rest.now) _ _ c.args.model.now c.new-model.ensures
    (λ s. s.rest.now) _ _ c.args.vectors.now c.new-vectors.ensures
    (λ s. s.rest.now) _ _ c.args.points.now c.new-points.ensures
    _ c.in-Err-Text.ensures.refused c.in-Err-Text.fault (subst IsPointReadFault is c.in-Err-Text.ensures.of_reading) (cc)
