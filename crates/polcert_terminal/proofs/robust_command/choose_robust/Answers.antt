use Rattle.std.proofs.Common.{rules, ◌≡◌, ◌∙◌, ap, sym, subst, refl, true, map, List, [], Result}
use Rattle.clap.specs.Words.{App, FailsBy, Text, app_of, fault_of, is_simple, is_simple_and_free, subcommand_of}
use Rattle.clap.specs.declared.error.Error.{Error}
use Rattle.clap.proofs.OnLiterals.{clap_on_literals}
use Rattle.polcert_terminal.specs.RobustCommand.{robust_app, robust_chosen}
use Rattle.polcert_terminal.proofs.robust_command.choose_robust.Goals as goal

is_free : is_simple_and_free robust_app ≡ true
unfolding clap_on_literals
is_free = refl

is_plain : is_simple robust_app ≡ true
unfolding clap_on_literals
is_plain = refl

no_fault : (a b : App) (words : List Text) → a ≡ b → fault_of a words ≡ [] → fault_of b words ≡ []
no_fault a b words same none = ap (λ (x : App). fault_of x words) (sym same) ∙ none

fails : {T : Type 0} (a b : App) (words : List Text) (r : Result T Error) → a ≡ b → FailsBy (fault_of a words) r
    → FailsBy (fault_of b words) r
fails a b words r same by = subst (λ (x : App). FailsBy (fault_of x words) r) same by

pub returns-clause-faults : goal.returns-clause-faults
returns-clause-faults c =
    let same : app_of c.in_ok-command.command ≡ robust_app = c.in_ok-command.ensures in
    no_fault _ robust_app _ same (c.in_ok-matches.ensures.kinds (ap is_simple_and_free same ∙ is_free))

pub returns-in_err-matches-clause-faults : goal.returns-in_err-matches-clause-faults
returns-in_err-matches-clause-faults c =
    let same : app_of c.in_ok-command.command ≡ robust_app = c.in_ok-command.ensures in
    let by = c.in_err-matches.ensures.kinds (ap is_simple_and_free same ∙ is_free) in
    let words : List Text = map (λ word. word.now) c.args.words.now in
    fails (app_of c.in_ok-command.command) robust_app words c.from_residual-in_err-matches.result same (search rules)

pub returns-clause-choice : goal.returns-clause-choice
returns-clause-choice c =
    let same : app_of c.in_ok-command.command ≡ robust_app = c.in_ok-command.ensures in
    let rows = (c.in_ok-matches.ensures.matches (ap is_simple same ∙ is_plain)).1 in
    let words : List Text = map (λ word. word.now) c.args.words.now in
    c.robust_choice_of.ensures ∙ ap robust_chosen (rows ∙ ap (λ (a : App). subcommand_of a words) same)
