use Rattle.std.proofs.Common.{rules, arith, ◌∙◌, ◌≡◌, ◌<◌, ◌≤◌, inr, ℕ, ℤ, length, pos, ap, subst, sym, slice_index_or, to_z, of_z, w64}
use Rattle.std.proofs.Common.{below_more}
use Rattle.std.proofs.lemmas.List.{get_or_append_left}
use Rattle.std.proofs.lemmas.Int.{to_z-of_z}
use Rattle.polcert_cells.specs.CommonRewards.{cell_at}
use Rattle.polcert_check.proofs.Walking.Overlaid.{IsOverlaid, overlaid_more, overlaid_all}
use Rattle.polcert_check.proofs.expected_reward.fill_listed.Goals as goal

pub loop-k-init : goal.loop-k-init
loop-k-init c = λ r are z zl.
    let copied = c.copy_from_slice.ensures.after in
    inr (
      (λ j l. absurd (omega (arith, l))),
      get_or_append_left _ _ (pos 0) z (subst (λ xs. z < length xs) (sym copied) zl)
          ∙ ap (λ xs. slice_index_or xs z (pos 0)) copied,
    )

pub loop-k-preserved : goal.loop-k-preserved
loop-k-preserved c = λ r are. overlaid_more _ r _ _ are _ _ _ (search rules) (search rules) (search rules) (c.loop-k.invariant r are)

pub returns : goal.returns
returns c = λ r are z zl.
    let all : c.loop-k.k ≡ c.args.count = omega (arith, c.loop-k-test.false, c.loop-k.auto.k-end) in
    overlaid_all _ r _ _ are z _ zl (subst (λ k. IsOverlaid c.args.list.now r c.args.exceptions.now k z
    (slice_index_or c.loop-k.rewards z (pos 0))) all (c.loop-k.invariant r are z zl))
