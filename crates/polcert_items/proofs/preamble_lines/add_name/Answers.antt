use Rattle.std.proofs.Common.{◌≢◌, ◌∙◌, length, rules, subst, sym}
use Rattle.polcert_items.proofs.Common.{lexeme_of, AreNamesRead}
use Rattle.polcert_cells.proofs.Basics.{true≢false}
use Rattle.polcert_items.proofs.ElementLaws.{no_name_stuck, known_stuck, more_read}
use Rattle.polcert_items.proofs.WantLaws.{name_too_many, name_again}
use Rattle.polcert_items.proofs.preamble_lines.add_name.Goals as goal

pub returns-then-not-is_name-clause-refused : goal.returns-then-not-is_name-clause-refused
returns-then-not-is_name-clause-refused c = no_name_stuck c.args.most c.args.names.now (lexeme_of c.args.token)
    (λ name. true≢false (c.is_name.ensures.1 name) c.if-not-is_name.true)

pub returns-then-branch-clause-within : goal.returns-then-branch-clause-within
returns-then-branch-clause-within c =
    let names = c.args.names.now in
    let push = c.in_ok-push.ensures.new c.if-branch.true in
    let room : length names ≢ c.args.most = search rules in
    subst (AreNamesRead c.args.most) (sym push.1) (more_read c.args.most names c.args.token.bytes.now c.requires.within room push.0)

pub returns-else-branch-clause-refused : goal.returns-else-branch-clause-refused
returns-else-branch-clause-refused c = known_stuck c.args.most c.args.names.now (lexeme_of c.args.token)
    (c.in_ok-push.ensures.known c.if-branch.false).0

pub returns-then-len-most-clause-kind : goal.returns-then-len-most-clause-kind
returns-then-len-most-clause-kind c = c.bad_count.ensures.kind
    ∙ name_too_many c.args.most c.args.names.now (lexeme_of c.args.token) (c.is_name.ensures.0 c.if-not-is_name.false) (search rules)

pub returns-else-branch-clause-kind : goal.returns-else-branch-clause-kind
returns-else-branch-clause-kind c = let names = c.args.names.now in
    name_again c.args.most names (lexeme_of c.args.token) (c.is_name.ensures.0 c.if-not-is_name.false) (search rules)
