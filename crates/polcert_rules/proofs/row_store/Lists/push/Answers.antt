use Rattle.std.proofs.Common.{◌≡◌, ◌∙◌, ◌+◌, ◌++◌, ◌∷◌, [], length, map, ap, rules}
use Rattle.polcert_rules.proofs.Common.{Part, part_in}
use Rattle.polcert_rules.proofs.Indexes.ListLaws.{one_more_list}
use Rattle.polcert_rules.proofs.row_store.Lists.push.Goals as goal

pub returns : goal.returns
returns g c =
    let xs = c.self.inside.items.items in
    let ys = c.args.more.now in
    let p : Part = record { start = c.len-start.result; end = c.len-end.result } in
    let end : c.len-end.result ≡ length xs + length ys = search rules in
    ap (λ zs. map (part_in zs) c.push.new.self.items) c.in_ok-extend_from_slice.ensures.items
    ∙ ap (map (part_in _)) c.in_ok-push.ensures.items
    ∙ one_more_list xs ys _ p c.self.invariant (search rules) end ∙ ap (λ ls. ls ++ ys ∷ []) c.self.view_is
