-- Rows of cells in one list stay as they are when a cell is added.
use Rattle.std.proofs.Common.{◌≡◌, ◌-◌, List, [], ◌∷◌, ◌++◌, All, map, drop, refl, arith, length-drop}
use Rattle.std.proofs.lemmas.List.{take-append-le, drop-append-le}
use Rattle.std.proofs.lemmas.List.Elements.{All-head, All-tail}
use Rattle.polcert_cells.specs.declared.elements.Cell.{Cell}
use Rattle.polcert_policy.specs.declared.weight_rows.RowPart.{RowPart}
use Rattle.polcert_policy.specs.Steps.WeightRows.{IsPartOf, cells_in_part}

module _ (cells : List Cell) (x : Cell) where
  part_stays : (p : RowPart) → IsPartOf cells p → cells_in_part (cells ++ x ∷ []) p ≡ cells_in_part cells p
  part_stays p h = cc (
    drop-append-le p.start cells (x ∷ []) (omega (arith, h.ordered, h.within)),
    take-append-le (p.end - p.start)
        (drop p.start cells) (x ∷ []) (omega (arith, h.ordered, h.within, length-drop p.start cells)),
  )

  pub rows_stay : (ps : List RowPart) → All (IsPartOf cells) ps
      → map (cells_in_part (cells ++ x ∷ [])) ps ≡ map (cells_in_part cells) ps
  rows_stay [] a = refl
  rows_stay (p ∷ ps) a =
      let here = part_stays p (All-head (IsPartOf cells) p ps a) in
      λ i. here i ∷ (rows_stay ps (All-tail (IsPartOf cells) p ps a)) i
