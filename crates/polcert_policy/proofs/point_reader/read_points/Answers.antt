use Rattle.polcert_text.proofs.Streams.SliceTexts.{slice_denotes, slice_refused, slice_failed}
use Rattle.polcert_policy.proofs.point_reader.read_points.Goals as goal

pub returns-in-Ok : goal.returns-in-Ok
returns-in-Ok c = record { accepted = slice_denotes (λ s. s.rest.now) c.new-source.ensures c.in-Ok.ensures.read; refused = tt }

pub returns-in-Err-Refused : goal.returns-in-Err-Refused
returns-in-Err-Refused c =
    let refused = slice_refused (λ s. s.rest.now) c.new-source.ensures (rw c.in-Err-Refused.field-0-is at c.in-Err-Refused.ensures.read) in
    record { accepted = refused.no_points; refused = refused.refusal }

pub unreachable-requires : goal.unreachable-requires
unreachable-requires c = slice_failed (λ s. s.rest.now) c.new-source.ensures (rw c.in-Err-Device.field-0-is at c.in-Err-Device.ensures.read)
