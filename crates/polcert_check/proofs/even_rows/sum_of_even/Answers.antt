use Rattle.std.proofs.Common.{rules, ◌≡◌, ◌∙◌, ℤ, pos, ◌*ℤ◌, ◌-ℤ◌, slice_index_or, to_z, of_z, w64}
use Rattle.std.proofs.Common.{length, ap, subst}
use Rattle.std.proofs.Common.{sym}
use Rattle.std.proofs.lemmas.Int.{to_z-of_z}
use Rattle.polcert_check.proofs.Common.{w128}
use Rattle.polcert_check.specs.Steps.Products.{IsEvenSum}
use Rattle.polcert_check.proofs.Walking.EvenRows.{weight_le, start_le, until, until_none, until_all, even_more}
use Rattle.polcert_check.proofs.even_rows.sum_of_even.Goals as goal

pub loop-i-init : goal.loop-i-init
loop-i-init c =
    let (f, count, is) = c.requires in
    let total = to_z-of_z w128 c.args.total (search rules) in
    let back = to_z-of_z w128 c.weigh-sum.result (search rules) in
    record {
      sum = λ f count is. back ∙ c.weigh-sum.ensures ∙ until_none f count _ _ _ _ is;
      small = rw (back, c.weigh-sum.ensures, total) (start_le f count _ _ _ _ is);
    }

pub gain-sum-requires-clause-weight : goal.gain-sum-requires-clause-weight
gain-sum-requires-clause-weight c = let (f, count, is) = c.requires in weight_le f count _ _ _ _ is _ (search rules)

pub overflow_add-sum : goal.overflow_add-sum
overflow_add-sum c =
    let (f, count, is) = c.requires in
    let i = c.loop-i.i in
    let cell = slice_index_or c.args.exceptions.now i (record { column = 0; weight = 0 }) in
    let x = slice_index_or c.args.numbers.now cell.column (pos 0) in
    let value = subst (λ (y : ℤ). c.gain-sum.result ≡ pos cell.weight *ℤ y -ℤ pos c.args.weight *ℤ y) (to_z-of_z w64 x (search rules))
    c.gain-sum.ensures.value in
    let own = subst (λ (t : ℤ). IsEvenSum f count c.args.weight c.args.exceptions.now c.args.numbers.now t)
    (sym (to_z-of_z w128 c.args.total (search rules))) is in
    (even_more f count _ _ _ _ is i (to_z w128 c.loop-i.sum-bits) c.gain-sum.result (search rules) (c.loop-i.invariant.sum f count own)
    c.loop-i.invariant.small (search rules) value c.gain-sum.ensures.small).0

pub loop-i-preserved : goal.loop-i-preserved
loop-i-preserved c =
    let (f, count, is) = c.requires in
    let i = c.loop-i.i in
    let cell = slice_index_or c.args.exceptions.now i (record { column = 0; weight = 0 }) in
    let x = slice_index_or c.args.numbers.now cell.column (pos 0) in
    let total = to_z-of_z w128 _ (search rules) in
    let back = to_z-of_z w64 x (search rules) in
    let value = subst (λ y. c.gain-sum.result ≡ pos cell.weight *ℤ y -ℤ pos c.args.weight *ℤ y) back c.gain-sum.ensures.value in
    let own = subst (λ t. IsEvenSum f count c.args.weight c.args.exceptions.now c.args.numbers.now t) (sym total) is in
    record {
      sum = λ f count is. (even_more f count _ _ _ _ is i _ _ (search rules)
          (c.loop-i.invariant.sum f count is) c.loop-i.invariant.small (search rules) value c.gain-sum.ensures.small).1;
      small = (even_more f count _ _ _ _ is i _ _ (search rules)
          (c.loop-i.invariant.sum f count own) c.loop-i.invariant.small (search rules) value c.gain-sum.ensures.small).2;
    }

pub returns : goal.returns
returns c f count is =
    let own = subst (λ (t : ℤ). IsEvenSum f count c.args.weight c.args.exceptions.now c.args.numbers.now t)
    (sym (to_z-of_z w128 c.args.total (search rules))) is in
    c.loop-i.invariant.sum f count own ∙ ap (until count c.args.weight c.args.exceptions.now c.args.numbers.now) (search rules)
    ∙ until_all f count _ _ _ _ is
