use Rattle.std.proofs.Common.{subst, length, ◌≤◌, rules, ℕ}
use Rattle.polcert_text.proofs.Common.{take_rest}
use Rattle.polcert_text.specs.Beginning.{BeginWithDigits}
use Rattle.polcert_text.proofs.front_tokens.front_index.Goals as goal

pub slice_bounds-front_digits-count : goal.slice_bounds-front_digits-count
slice_bounds-front_digits-count c = (c.in-Some.ensures 0).front.within

pub slice_bounds-front_digits-start : goal.slice_bounds-front_digits-start
slice_bounds-front_digits-start c =
    let few : c.in-Some.colon ≤ length c.args.bytes.now = (c.in-Some.ensures 0).front.within in
    search rules

pub returns-in-Some-front_digits-clause-digits : goal.returns-in-Some-front_digits-clause-digits
returns-in-Some-front_digits-clause-digits c =
    subst (λ xs. (place : ℕ) → BeginWithDigits place xs c.in-Some-front_digits.digits) (take_rest c.args.bytes.now c.in-Some.colon)
    c.in-Some-front_digits.ensures
