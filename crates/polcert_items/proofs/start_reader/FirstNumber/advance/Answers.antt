use Rattle.std.proofs.Common.{sym, subst, rules, FitsSigned, w64, to_z-of_z}
use Rattle.polcert_items.proofs.Common.{IfErr-weaker, lexeme_of, count_of, IfRefused, CannotTake, IsOutside, StartGoes}
use Rattle.polcert_items.specs.declared.start_reader.StartReader.TheVariants as reader
use Rattle.polcert_items.proofs.PatternLaws.{refused_map}
use Rattle.polcert_items.proofs.StartNumbers.{fraction, below_outside, above_outside, outside_stuck, one_read, more_states, number_takes}
use Rattle.polcert_items.proofs.StartNumbers.{number_stuck}
use Rattle.polcert_items.proofs.start_reader.FirstNumber.advance.Goals.{then-self-lt0-via-then-self-lt0}
use Rattle.polcert_items.proofs.start_reader.FirstNumber.advance.Goals.{then-self-lt0-via-else-self-lt0+then-self}
use Rattle.polcert_items.proofs.start_reader.FirstNumber.advance.Goals as goal

pub returns-then-self-lt0-clause-refused : goal.returns-then-self-lt0-clause-refused
returns-then-self-lt0-clause-refused c =
    let h = c.args.self.value in
    let fits : FitsSigned w64 h = search rules in
    let l = lexeme_of c.args.token in
    let outside : IsOutside h =
    elim c.then-self-lt0.branch [
      | then-self-lt0-via-then-self-lt0 w ↦ below_outside h (simp to_z-of_z at w.if-self-lt0.true)
      | then-self-lt0-via-else-self-lt0+then-self w ↦ above_outside h (simp to_z-of_z at w.if-self.true)
    ] in
    subst (λ stop. IfRefused stop (λ r. CannotTake (StartGoes c.args.states.now) (reader.Number c.args.self) l))
    (sym c.out_of_range.ensures)
    (outside_stuck c.args.states.now c.args.self l outside)

pub returns-in_err-feed-clause-refused : goal.returns-in_err-feed-clause-refused
returns-in_err-feed-clause-refused c =
    let h = c.args.self.value in
    let fits : FitsSigned w64 h = search rules in
    let f = fraction h (simp to_z-of_z at c.if-self-lt0.false) (simp to_z-of_z at c.if-self.false) in
    let more = more_states (count_of c.args.states.now) c.count-count.result c.count-count.ensures c.if-count-eq1.false c.requires.0 in
    let is = one_read c.args.states.now _ c.count-count.result _ (simp to_z-of_z at c.with_first-numbers.ensures) c.count-count.ensures in
    IfErr-weaker _ _ _ (λ stop h. refused_map stop (number_stuck c.args.states.now c.args.self _ _ (lexeme_of c.args.token) f.value f.small
    more is) h) (search rules)

pub returns-clause-takes : goal.returns-clause-takes
returns-clause-takes c =
    let h = c.args.self.value in
    let fits : FitsSigned w64 h = search rules in
    let f = fraction h (simp to_z-of_z at c.if-self-lt0.false) (simp to_z-of_z at c.if-self.false) in
    let more = more_states (count_of c.args.states.now) c.count-count.result c.count-count.ensures c.if-count-eq1.false c.requires.0 in
    let is = one_read c.args.states.now _ c.count-count.result _ (simp to_z-of_z at c.with_first-numbers.ensures) c.count-count.ensures in
    number_takes c.args.states.now c.args.self _ _ _ (lexeme_of c.args.token) f.value f.small more is c.in_ok-feed.ensures.fed.takes
