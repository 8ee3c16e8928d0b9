use Rattle.std.proofs.Common.{◌≡◌, ℕ, rules, arith, subst}
use Rattle.std.proofs.lemmas.Int.{to_z-of_z}
use mir.Syntax.{w64, w128}
use Rattle.polcert_policy.specs.Vectors.{value_of}
use Rattle.polcert_robust.specs.Start.{scaled_start_weight}
use Rattle.polcert_robust.specs.Steps.Holding.{HoldsRow}
use Rattle.polcert_robust.specs.Steps.Sides.{turned}
use Rattle.polcert_robust.specs.Steps.Starts.{start_of, vectors_in}
use Rattle.polcert_robust.proofs.Holding.{holds_more, holds_none}
use Rattle.polcert_robust.proofs.start.gather_start.Goals as goal

pub loop-s-init : goal.loop-s-init
loop-s-init c =
    holds_none _
    _ _ _ _

pub loop-s-preserved : goal.loop-s-preserved
loop-s-preserved c =
    let s : ℕ = c.loop-s.s in
    let at_back = to_z-of_z w64 c.at.result (search rules) in
    let here =
    rw (at_back, c.at.ensures.value) at c.turned.ensures.is in
    rw (to_z-of_z w64 c.turned.result (search rules), to_z-of_z w128 c.turned.result (search rules))
    (holds_more _
    (scaled_start_weight (start_of c.args.input.now)) s _ _ c.loop-s.values s c.loop-s.invariant s
    _ _ (omega arith) (λ k from to. absurd (omega arith))
    (cc) here c.turned.ensures.small
    (omega arith)
    (omega arith))

pub returns : goal.returns
returns c =
    subst (λ (k : ℕ). HoldsRow (λ s v. v ≡ turned c.args.input.now.side (value_of (vectors_in c.args.input.now) c.args.n s))
    (scaled_start_weight (start_of c.args.input.now)) k _ c.loop-s.weights c.loop-s.values k) (omega arith) c.loop-s.invariant
