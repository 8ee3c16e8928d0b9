use Rattle.std.proofs.Common.{◌≡◌, ◌∙◌, Some, List, [], ◌∷◌, ap, sym, rules}
use Rattle.std.proofs.lemmas.Slice.Eq.{slice_eq-Decides}
use Rattle.polcert_cells.specs.Sparse.{excepted_weight, scaled_cells, weight_at}
use Rattle.polcert_cells.specs.BorrowedRows.{IsEvenRow}
use Rattle.polcert_cells.specs.declared.cells.Row.TheVariants.{Even, Scaled, Single, Sparse}
use Rattle.polcert_check.proofs.Common.{Cell, IsRow}
use Rattle.polcert_check.proofs.end_values.is_same_row.Goals as goal

pub returns-in-Some-Sparse-Some-Sparse : goal.returns-in-Some-Sparse-Some-Sparse
returns-in-Some-Sparse-Some-Sparse c f g count t rowf rowg k l =
    let w = c.in-Some-Sparse-Some-Sparse in
    let same = (slice_eq-Decides (λ a b. search rules) _ _ _ c.eq.ensures).0 t in
    let left : IsRow count f w.cells.now = rowf (Sparse w.cells) (search rules) in
    let right : IsRow count g w.own.now = rowg (Sparse w.own) (search rules) in
    sym (left.each k l) ∙ ap (λ (xs : List Cell). weight_at xs k) same ∙ right.each k l

pub returns-then-scale-by : goal.returns-then-scale-by
returns-then-scale-by c f g count t rowf rowg k l =
    let w = c.in-Some-Scaled-Some-Scaled in
    let one : c.args.one ≡ Some (Scaled _ _) = search rules in
    let scale : w.scale ≡ w.by = search rules in
    let same = (slice_eq-Decides (λ a b. search rules) _ _ _ c.eq-then-scale-by.ensures).0 t in
    let left = rowf (Scaled w.numbers _) one in
    let right = rowg (Scaled w.own w.by) (search rules) in
    sym (left.each k l) ∙ (λ i. weight_at (scaled_cells (scale i) 0 (same i)) k) ∙ right.each k l

pub returns-in-Some-Single-Some-Single : goal.returns-in-Some-Single-Some-Single
returns-in-Some-Single-Some-Single c f g count t rowf rowg k l =
    let w = c.in-Some-Single-Some-Single in
    let same : w.cell ≡ w.own = search rules in
    let left : IsRow count f (w.cell ∷ []) = rowf (Single w.cell) (search rules) in
    let right : IsRow count g (w.own ∷ []) = rowg (Single w.own) (search rules) in
    sym (left.each k l) ∙ ap (λ (x : Cell). weight_at (x ∷ []) k) same ∙ right.each k l

pub returns-then-columns-wide : goal.returns-then-columns-wide
returns-then-columns-wide c f g count t rowf rowg k l =
    let w = c.in-Some-Even-Some-Even in
    let common : w.weight ≡ w.same = search rules in
    let same = (slice_eq-Decides (λ a b. search rules) _ _ _ c.eq-then-columns-wide.ensures).0 t in
    let left : IsEvenRow f count w.weight w.columns w.exceptions.now = rowf (Even w.weight w.columns w.exceptions) (search rules) in
    let right : IsEvenRow g count w.same w.wide w.own.now = rowg (Even w.same w.wide w.own) (search rules) in
    sym (left.each k l) ∙ (λ i. excepted_weight (common i) (same i) k) ∙ right.each k l
