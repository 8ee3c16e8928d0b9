use Rattle.std.proofs.Common.{◌≡◌, subst}
use Rattle.polcert_bound_answer.proofs.Common.{Text, IsBoundReadFault}
use Rattle.polcert_bound_answer.proofs.OfTexts.{denoted_slices, refused_slices}
use Rattle.polcert_bound_answer.proofs.inputs.read_bound_texts.Goals as goal

pub returns-in-Ok : goal.returns-in-Ok
returns-in-Ok c =
    let both = denoted_slices
    (λ s. s.rest.now) _ _ c.args.model.now c.new-model.ensures
    (λ s. s.rest.now) _ _ c.args.vectors.now c.new-vectors.ensures
    _ _ c.in-Ok.ensures.accepted in
    record { model_accepted = both.0; vectors_accepted = both.1; refused = tt }

pub returns-in-Err-Text-clause-refused : goal.returns-in-Err-Text-clause-refused
returns-in-Err-Text-clause-refused c =
    let is : c.in-Err-Text.field-0 ≡ Text c.in-Err-Text.fault = cc in
    refused_slices
    (λ s. s.rest.now) _ _ c.args.model.now c.new-model.ensures
    (λ s. s.rest.now) _ _ c.args.vectors.now c.new-vectors.ensures
    _ c.in-Err-Text.ensures.refused c.in-Err-Text.fault (subst IsBoundReadFault is c.in-Err-Text.ensures.of_reading) (cc)
