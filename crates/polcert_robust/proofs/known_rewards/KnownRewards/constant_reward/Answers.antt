use Rattle.std.proofs.Common.{◌+◌, ◌*◌, ◌<◌, ℕ, ℤ, pos, rules, slice_index_or, subst, sym, w64}
use Rattle.std.proofs.lemmas.Int.{to_z-of_z}
use Rattle.polcert_robust.specs.Steps.Rewards.{IsConstantReward}
use Rattle.polcert_robust.specs.declared.known_rewards.TheConstants.{ROOM}
use Rattle.polcert_robust.proofs.KnownRewards.{kept_at, kept_more, kept_number}
use Rattle.polcert_robust.proofs.known_rewards.KnownRewards.constant_reward.Goals as goal

pub returns-then-self-place-clause-constant : goal.returns-then-self-place-clause-constant
returns-then-self-place-clause-constant g c = λ x is.
    let m = g.C.Cells.table _ in
    let number : ℤ = slice_index_or c.args.self.now.constants (c.args.a * c.states.result + c.args.s) (pos 0) in
    let kept = rw (to_z-of_z w64 number (search rules), c.states.ensures) at c.reward_of.ensures x is in
    subst (IsConstantReward m c.args.a c.args.s) (sym kept.1)
    (kept_at m c.args.self.now c.args.a c.args.s c.requires.start
    (rw (← c.states.ensures) c.if-place-ge-ROOM.false) c.requires.kept kept.0)

pub returns-clause-kept : goal.returns-clause-kept
returns-clause-kept g c =
    let m = g.C.Cells.table _ in
    let within =
    subst (λ (k : ℕ). c.args.a * k + c.args.s < ROOM) c.states.ensures c.if-place-ge-ROOM.false in
    record {
      constants = rw (c.states.ensures, c.is_some.ensures, to_z-of_z w64 c.number_of.result (search rules)) (kept_more m _
          _ _ _ _ _ c.requires.start
          within
          c.args.self.now.room_for_marks c.args.self.now.room c.requires.kept.constants (kept_number m _ _
          _ _ c.constant_reward_of-reward.ensures c.number_of.ensures));
      same = c.requires.kept.same;
    }
