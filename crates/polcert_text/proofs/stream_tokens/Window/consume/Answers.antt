use Rattle.std.proofs.Common.{◌∙◌, ◌+◌, ◌-◌, ◌≤◌, length, drop, ap, arith}
use Rattle.std.proofs.lemmas.List.{length-take}
use Rattle.polcert_text.proofs.Streams.WindowLaws.{used_consumed}
use Rattle.polcert_text.proofs.stream_tokens.Window.consume.Goals as goal

pub returns : goal.returns
returns c =
    let w = c.self.inside in
    let len = ap length c.self.view_is in
    let room : w.start + c.args.count ≤ w.end = omega (arith, len, length-take (w.end - w.start) (drop w.start w.bytes)) in
    used_consumed w.bytes w.start w.end c.args.count room ∙ ap (drop c.args.count) c.self.view_is
