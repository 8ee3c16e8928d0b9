use Rattle.polcert_text.proofs.Streams.SliceTexts.{slice_denotes, slice_refused, slice_failed}
use Rattle.polcert_model.proofs.reader.read_model.Goals as goal

pub returns-in-Ok : goal.returns-in-Ok
returns-in-Ok c =
    let is = slice_denotes _ c.new-source.ensures c.in-Ok.ensures.read in
    record { exactly = is; accepted = is; refused = tt; placed = tt }

pub returns-in-Err-Refused : goal.returns-in-Err-Refused
returns-in-Err-Refused c =
    let refused = slice_refused _ c.new-source.ensures (rw c.in-Err-Refused.field-0-is at c.in-Err-Refused.ensures.read) in
    record { exactly = refused.no_model; accepted = tt; refused = refused.refusal; placed = refused.placed }

pub unreachable-requires : goal.unreachable-requires
unreachable-requires c = slice_failed _ c.new-source.ensures (rw c.in-Err-Device.field-0-is at c.in-Err-Device.ensures.read)
