-- Lists that stand one after another in one list.
use Rattle.std.proofs.Common.{◌≡◌, ◌∙◌, ℕ, ◌+◌, ◌≤◌, List, [], ◌∷◌, ◌++◌, length, map, All, refl, sym, ap, subst, arith}
use Rattle.polcert_rules.proofs.Common.{map-append, All-head, All-tail, All-push, Part, part_in, row_in, scaled_cells, Cell, Sparse, Full}
use Rattle.polcert_rules.proofs.Common.{RowLocation}
use Rattle.std.proofs.lemmas.List.{append-nil, drop-append-le, take-append-le, length-append, length-drop, take_all}
use Rattle.std.proofs.lemmas.List.Elements.{All-weaker}
use Rattle.polcert_rules.specs.Steps.Lists.{PartLiesIn, cells_by_form, RowLiesIn, FitForm, IsHeld, even_cells, AreEvenCells}
use Rattle.std.specs.List.{slice_range}
use Rattle.std.proofs.Math.Seq.{drop-append_seam}
use Rattle.polcert_rules.specs.declared.rows.RowForm.{RowForm}
use Rattle.polcert_rules.specs.declared.rows.RowForm.TheVariants.{Even}

module _ {X : Type 0} (xs ys : List X) where
  part_stays : (p : Part) → PartLiesIn (length xs) p → part_in (xs ++ ys) p ≡ part_in xs p
  part_stays p l = grind (arith, drop-append-le, take-append-le, length-drop)

  lists_stay : (ps : List Part) → All (PartLiesIn (length xs)) ps → map (part_in (xs ++ ys)) ps ≡ map (part_in xs) ps
  lists_stay [] a = refl
  lists_stay (p ∷ ps) a =
      λ i. (part_stays p (All-head (PartLiesIn (length xs)) p ps a)) i ∷ (lists_stay ps (All-tail (PartLiesIn (length xs)) p ps a)) i

  part_last : (p : Part) → p.start ≡ length xs → p.end ≡ length xs + length ys → part_in (xs ++ ys) p ≡ ys
  part_last p s e = grind (arith, take_all, drop-append_seam)

  -- one more list
  pub one_more_list : (ps : List Part) (p : Part) → All (PartLiesIn (length xs)) ps → p.start ≡ length xs → p.end ≡ length xs + length ys
      → map (part_in (xs ++ ys)) (ps ++ p ∷ []) ≡ map (part_in xs) ps ++ ys ∷ []
  one_more_list ps p a s e = grind (arith, map-append, lists_stay, part_last)

-- ---- rows in two lists
range_stays : {X : Type 0} (xs ys : List X) (start count : ℕ) → start + count ≤ length xs
    → slice_range (xs ++ ys) start (start + count) ≡ slice_range xs start (start + count)
range_stays xs ys start count room = part_stays xs ys _ (record { order = omega arith; room = room })

range_last : {X : Type 0} (xs ys : List X) (start count : ℕ) → start ≡ length xs → count ≡ length ys
    → slice_range (xs ++ ys) start (start + count) ≡ ys
range_last xs ys start count s e = part_last xs ys _ s (omega (arith, s, e))

-- the lists continue
module _ (cells more : List Cell) (numbers others : List ℕ) where
  form_stays : (f : RowForm) (start count : ℕ) → RowLiesIn f (length cells) (length numbers) (start + count)
      → cells_by_form (cells ++ more) (numbers ++ others) f start count ≡ cells_by_form cells numbers f start count
  form_stays f start count h1 = grind (arith, range_stays)

  rows_stay : (ps : List RowLocation) → All (IsHeld cells numbers) ps
      → map (row_in (cells ++ more) (numbers ++ others)) ps ≡ map (row_in cells numbers) ps
  rows_stay [] a = refl
  rows_stay (p ∷ ps) a =
      λ i. (form_stays p.form p.start p.count (All-head (IsHeld cells numbers) p ps a).room) i ∷
      (rows_stay ps (All-tail (IsHeld cells numbers) p ps a)) i

  -- one more row
  one_more_row : (ps : List RowLocation) (p : RowLocation) → All (IsHeld cells numbers) ps
      → map (row_in (cells ++ more) (numbers ++ others)) (ps ++ p ∷ [])
      ≡ map (row_in cells numbers) ps ++ row_in (cells ++ more) (numbers ++ others) p ∷ []
  one_more_row ps p a = grind (arith, map-append, rows_stay)

-- one more row of cells
push_row : (cells more : List Cell) (numbers : List ℕ) (ps : List RowLocation) (p : RowLocation) (row : List Cell)
    → All (IsHeld cells numbers) ps → row_in (cells ++ more) numbers p ≡ row
    → map (row_in (cells ++ more) numbers) (ps ++ p ∷ []) ≡ map (row_in cells numbers) ps ++ row ∷ []
push_row cells more numbers ps p row a last =
    (subst (λ (ns : List ℕ). map (row_in (cells ++ more) ns) (ps ++ p ∷ [])
    ≡ map (row_in cells numbers) ps ++ row_in (cells ++ more) ns p ∷ []) (append-nil numbers) (one_more_row cells more numbers [] ps p a))
    ∙ (λ i. map (row_in cells numbers) ps ++ last i ∷ [])

pub push_sparse : (cells more : List Cell) (numbers : List ℕ) (ps : List RowLocation) (p : RowLocation) → All (IsHeld cells numbers) ps
    → p.form ≡ Sparse → p.start ≡ length cells → p.count ≡ length more
    → map (row_in (cells ++ more) numbers) (ps ++ p ∷ []) ≡ map (row_in cells numbers) ps ++ more ∷ []
push_sparse cells more numbers ps p a f s e = push_row _ more _ ps p more a
    (ap (λ g. cells_by_form (cells ++ more) numbers g p.start p.count) f ∙ range_last _ more _ _ s e)

pub push_even : (cells more : List Cell) (numbers : List ℕ) (ps : List RowLocation) (p : RowLocation) → All (IsHeld cells numbers) ps
    → p.form ≡ Even → p.start ≡ length cells → p.count ≡ length more
    → map (row_in (cells ++ more) numbers) (ps ++ p ∷ []) ≡ map (row_in cells numbers) ps ++ even_cells more ∷ []
push_even cells more numbers ps p a f s e = push_row _ more _ ps p _ a
    (ap (λ g. cells_by_form (cells ++ more) numbers g p.start p.count) f ∙ ap even_cells (range_last _ more _ _ s e))

pub push_full : (cells : List Cell) (numbers more : List ℕ) (ps : List RowLocation) (p : RowLocation) → All (IsHeld cells numbers) ps
    → p.form ≡ Full → p.start ≡ length numbers → p.count ≡ length more
    → map (row_in cells (numbers ++ more)) (ps ++ p ∷ []) ≡ map (row_in cells numbers) ps ++ scaled_cells (length more) 0 more ∷ []
push_full cells numbers more ps p a f s e =
    (subst (λ (cs : List Cell). map (row_in cs (numbers ++ more)) (ps ++ p ∷ [])
    ≡ map (row_in cells numbers) ps ++ row_in cs (numbers ++ more) p ∷ []) (append-nil cells) (one_more_row cells [] numbers more ps p a))
    ∙ (λ i. map (row_in cells numbers) ps ++ (ap (λ g. cells_by_form cells (numbers ++ more) g p.start p.count) f
    ∙ ap (scaled_cells p.count 0) (range_last numbers more p.start p.count s e) ∙ ap (λ n. scaled_cells n 0 more) e) i ∷ [])

-- ---- rows stay within longer lists
module _ (cells more : List Cell) (numbers others : List ℕ) where
  fit_stays : (f : RowForm) (start count : ℕ) → RowLiesIn f (length cells) (length numbers) (start + count)
      → FitForm f (slice_range cells start (start + count)) → FitForm f (slice_range (cells ++ more) start (start + count))
  fit_stays Sparse start count room fit = tt
  fit_stays Full start count room fit = tt
  fit_stays Even start count room fit = subst AreEvenCells (sym (range_stays _ more _ _ room)) fit

  room_stays : (f : RowForm) (end : ℕ) → RowLiesIn f (length cells) (length numbers) end
      → RowLiesIn f (length (cells ++ more)) (length (numbers ++ others)) end
  room_stays f end h = grind (arith, length-append)

  held_stays : (ps : List RowLocation) → All (IsHeld cells numbers) ps → All (IsHeld (cells ++ more) (numbers ++ others)) ps
  held_stays ps a = All-weaker (IsHeld cells numbers) (IsHeld (cells ++ more) (numbers ++ others))
      (λ p h. record { room = room_stays p.form _ h.room; fit = fit_stays p.form p.start p.count h.room h.fit }) ps a

pub held_cells : (cells more : List Cell) (numbers : List ℕ) (ps : List RowLocation) → All (IsHeld cells numbers) ps
    → All (IsHeld (cells ++ more) numbers) ps
held_cells cells more numbers ps a = subst (λ ns. All (IsHeld (cells ++ more) ns) ps) (append-nil _) (held_stays _ more _ [] ps a)

-- so does one row more
module _ (cells more : List Cell) (numbers : List ℕ) (ps : List RowLocation) (all : All (IsHeld cells numbers) ps) (start count : ℕ)
    (s : start ≡ length cells) (e : count ≡ length more) where
  held_more : (f : RowForm) → RowLiesIn f (length (cells ++ more)) (length numbers) (start + count)
      → FitForm f (slice_range (cells ++ more) start (start + count))
      → All (IsHeld (cells ++ more) numbers) (ps ++ record { start = start; count = count; form = f } ∷ [])
  held_more f room fit = All-push (IsHeld (cells ++ more) numbers) ps (record { start = start; count = count; form = f })
      (held_cells cells more numbers ps all) (record { room = room; fit = fit })

  room : start + count ≤ length (cells ++ more)
  room = omega (arith, length-append cells more, s, e)

  pub held_sparse : All (IsHeld (cells ++ more) numbers) (ps ++ record { start = start; count = count; form = Sparse } ∷ [])
  held_sparse = held_more _ room tt

  pub held_even : AreEvenCells more
      → All (IsHeld (cells ++ more) numbers) (ps ++ record { start = start; count = count; form = Even } ∷ [])
  held_even fit = held_more Even room (subst AreEvenCells (sym (range_last cells more start count s e)) fit)
