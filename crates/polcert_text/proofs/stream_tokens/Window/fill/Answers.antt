use Rattle.std.proofs.Common.{◌≡◌, ◌∙◌, ◌++◌, ◌-◌, length, take, drop, ap, sym, arith}
use Rattle.std.proofs.lemmas.List.{length-take-le, length-drop, take_at}
use Rattle.polcert_text.proofs.Streams.WindowLaws.{front_filled}
use Rattle.polcert_text.proofs.stream_tokens.Window.fill.Goals as goal

pub returns-in-Ok-clause-ok : goal.returns-in-Ok-clause-ok
returns-in-Ok-clause-ok g c =
    let w = c.self.inside in
    let n = w.end - w.start in
    let used = take n (drop w.start w.bytes) in
    let used_len : length used ≡ n = length-take-le n (drop w.start w.bytes) (omega (arith, length-drop w.start w.bytes)) in
    let moved : take n c.copy_within.new.self ≡ used = ap (take n) c.copy_within.ensures.after ∙ take_at used _ n used_len in
    let now = take c.in-Ok.count c.read.new.piece in
    let bound = c.in-Ok.ensures.bound in
    let is = front_filled c.copy_within.new.self c.read.new.piece _ n c.in-Ok.count (omega (arith, c.copy_within.ensures.len)) bound in (
      now,
      is ∙ ap (λ xs. xs ++ now) (moved ∙ c.self.view_is),
      sym (length-take-le c.in-Ok.count c.read.new.piece bound),
      (_, omega (arith, ap length c.self.view_is, used_len, c.copy_within.ensures.len), c.in-Ok.ensures.call),
    )
