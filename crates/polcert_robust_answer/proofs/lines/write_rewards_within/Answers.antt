use Rattle.std.proofs.Common.{◌≡◌, ◌==◌, if◌then◌else◌, rules, codes, List, [], ◌++◌, ℕ, refl, arith}
use Rattle.polcert_text.proofs.Printing.Written.{and_then, as_text, unwritten, stopped}
use Rattle.polcert_model.proofs.WrittenParts.{wrote_nothing}
use Rattle.polcert_robust_answer.proofs.Common.{Within}
use Rattle.polcert_robust_answer.proofs.lines.write_rewards_within.Goals as goal

abbrev words : Within → List ℕ
words w = codes ", rewards within " ++ w.rewards_text.now

known : (by : ℕ) (text : List ℕ) → by ≡ 0 → [] ≡ (if by == 0 then [] else text)
known by text e = rw e refl

unknown : (by : ℕ) (text : List ℕ) → (by ≡ 0 → ⊥) → text ≡ (if by == 0 then [] else text)
unknown by text some = grind (arith, some)

pub returns-then-within-eq0 : goal.returns-then-within-eq0
returns-then-within-eq0 g c = wrote_nothing (known c.args.within.now.rewards_by (words c.args.within.now) c.if-within-eq0.true)

pub returns-in_err-write_all : goal.returns-in_err-write_all
returns-in_err-write_all g c =
    as_text (unknown c.args.within.now.rewards_by (words c.args.within.now) c.if-within-eq0.false)
    (stopped (search rules) (unwritten c.args.within.now.rewards_text.now c.in_err-write_all.ensures))

pub returns : goal.returns
returns g c = as_text (unknown c.args.within.now.rewards_by (words c.args.within.now) c.if-within-eq0.false)
    (and_then c.in_ok-write_all.ensures c.write_all-2.ensures)
