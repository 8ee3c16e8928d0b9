use Rattle.std.proofs.Common.{◌<◌, length, refl, ap, arith}
use Rattle.polcert_text.proofs.Common.{Name, state_after}
use Rattle.polcert_text.specs.declared.tokens.TokenKind.TheVariants as kinds
use Rattle.polcert_text.proofs.Scanning.Runs.{begins_name, ends_within}
use Rattle.polcert_text.proofs.tokens.ended_name.Goals as goal

pub returns-clause-ends : goal.returns-clause-ends
returns-clause-ends c =
    let bs = c.args.bytes.now in
    let name = c.name_end-end.ensures in
    let inside : c.name_end-end.result < length bs = omega (arith, name.within.1) in
    let read = name.same (begins_name bs _ c.requires.some refl c.requires.letter) in
    ends_within bs c.name_end-end.result Name kinds.Name inside read refl refl (name.stops inside)

pub returns-then-quick_is_colon-clause-ends : goal.returns-then-quick_is_colon-clause-ends
returns-then-quick_is_colon-clause-ends c =
    let bs = c.args.bytes.now in
    ends_within bs 1 Name kinds.Name (omega arith) (begins_name bs _ c.requires.some refl c.requires.letter) refl refl
    (ap (state_after Name) (c.quick_is_colon.ensures c.if-quick_is_colon.true))
