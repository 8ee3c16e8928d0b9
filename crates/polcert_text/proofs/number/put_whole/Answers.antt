use Rattle.std.proofs.Common.{◌≡◌, ◌∙◌, ◌+◌, ◌-◌, ◌/◌, ◌%◌, ◌^◌, ◌≤◌, ◌∷◌, ◌++◌, ℕ, List, length, take, drop, decimal, sym, ap, arith}
use Rattle.std.proofs.Common.{rules, unsigned_abs, slice_set}
use Rattle.std.proofs.lemmas.List.{drop-take, drop-set}
use Rattle.std.proofs.Math.Seq.{take-append_seam}
use Rattle.polcert_text.proofs.Common.{fraction_text, length-decimal-le}
use Rattle.polcert_text.proofs.number.put_whole.Goals as goal

-- the bytes from here on, up to the place where the whole part ends
between : (new rest ds : List ℕ) (start : ℕ) → start + length ds ≡ 16 → drop start new ≡ ds ++ rest → drop start (take 16 new) ≡ ds
between new rest ds start at is = ap (λ n. drop start (take n new)) (sym at) ∙ drop-take start (length ds) new
    ∙ ap (take (length ds)) is ∙ take-append_seam ds rest

few : (n : ℕ) → n ≤ 2 ^ 63 → length (decimal (n / 1_000_000)) ≤ 14
few n h = length-decimal-le 14 (n / 1_000_000) (omega arith) (omega arith) (omega arith)

pub write_digits-start-requires : goal.write_digits-start-requires
write_digits-start-requires c = let digits = few c.unsigned_abs.result c.unsigned_abs.ensures.bound in (omega arith, search rules)

pub overflow_sub-text : goal.overflow_sub-text
overflow_sub-text c = omega (arith, c.write_digits-start.ensures.start, few c.unsigned_abs.result c.unsigned_abs.ensures.bound)

pub overflow_sub-result : goal.overflow_sub-result
overflow_sub-result c = omega (arith, c.write_digits-start.ensures.start, few c.unsigned_abs.result c.unsigned_abs.ensures.bound)

pub returns-then-scaled-lt0-clause-whole : goal.returns-then-scaled-lt0-clause-whole
returns-then-scaled-lt0-clause-whole c =
    let start = c.write_digits-start.result in
    let all = c.write_digits-start.new.buf in
    let digits = few c.unsigned_abs.result c.unsigned_abs.ensures.bound in
    let at = c.write_digits-start.ensures.start in
    let next : start - 1 + 1 ≡ start = omega (arith, at, digits) in
    let e = between (slice_set all (start - 1) 45) (drop 16 c.args.text.now) (45 ∷ decimal (c.unsigned_abs.result / 1_000_000)) (start - 1)
    (omega (arith, at, digits))
    (drop-set all (start - 1) 45 (search rules) ∙ ap (λ n. 45 ∷ drop n all) next ∙ ap (λ xs. 45 ∷ xs) c.write_digits-start.ensures.written)
    in
    ap (λ xs. xs ++ fraction_text (unsigned_abs c.args.scaled % 1_000_000)) e ∙ search rules

pub returns-clause-whole : goal.returns-clause-whole
returns-clause-whole c =
    let e = between c.write_digits-start.new.buf (drop 16 c.args.text.now) (decimal (c.unsigned_abs.result / 1_000_000))
    c.write_digits-start.result c.write_digits-start.ensures.start c.write_digits-start.ensures.written in
    ap (λ xs. xs ++ fraction_text (unsigned_abs c.args.scaled % 1_000_000)) e ∙ search rules
