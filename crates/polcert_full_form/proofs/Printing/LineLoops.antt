-- Lines and rows as a printer's loop makes them: part by part, each after those so far.
use Rattle.std.proofs.Common.{◌≡◌, ◌∙◌, ℕ, zero, suc, ◌+◌, List, [], ◌∷◌, ◌++◌, flat_map, map, codes, refl, sym, ap, arith, append_assoc}
use Rattle.std.proofs.Common.{append-nil, decimal}
use Rattle.polcert_full_form.proofs.Common.{range_with_len, line, Table, Reward, for_each, values, millionths_text, table_word, row_words}
use Rattle.std.proofs.lemmas.List.FromFn.{map-range_with_len_more}

abbrev after_blank : List ℕ → List ℕ
after_blank w = codes " " ++ w

-- the first word, each further one after a blank, and a line end
pub line_is : (w : List ℕ) (ws : List (List ℕ)) → line (w ∷ ws) ≡ w ++ flat_map after_blank ws ++ codes "\n"
line_is w [] = ap (λ bs. bs ++ codes "\n") (sym (append-nil w))
line_is w (v ∷ ws) = grind (arith, append_assoc, line_is v ws)

flat-append : (xs ys : List (List ℕ)) → flat_map after_blank (xs ++ ys) ≡ flat_map after_blank xs ++ flat_map after_blank ys
flat-append [] ys = refl
flat-append (x ∷ xs) ys = ap (λ bs. after_blank x ++ bs) (flat-append xs ys) ∙ sym (append_assoc (after_blank x) _ _)

further_words : (n : ℕ) (f : ℕ → List ℕ) → flat_map after_blank (map f (range_with_len 1 n)) ≡ for_each n (λ i. codes " " ++ f (i + 1))
further_words zero f = refl
further_words (suc n) f =
    let one_more : suc n ≡ n + 1 = omega arith in
    ap (λ k. flat_map after_blank (map f (range_with_len 1 k))) one_more
    ∙ ap (flat_map after_blank) (map-range_with_len_more f 1 n _ (omega arith))
    ∙ flat-append _ _
    ∙ (λ i. further_words n f i ++ append-nil (after_blank (f (n + 1))) i)

-- a line of values, value by value
pub values_line : (n : ℕ) (f : ℕ → List ℕ) → line (values (suc n) f) ≡ f 0 ++ for_each n (λ i. codes " " ++ f (i + 1)) ++ codes "\n"
values_line n f = line_is _ _ ∙ ap (λ bs. f 0 ++ bs ++ codes "\n") (further_words n f)

-- ---- the lines that begin an entry, part after part
pub cell_line_is : (table : Table) (a s c q : ℕ) → line (row_words table a s ++ codes ":" ∷ decimal c ∷ millionths_text q ∷ [])
    ≡ table_word table ++ codes " " ++ decimal a ++ codes " : " ++ decimal s ++ codes " : " ++ decimal c ++ codes " " ++ millionths_text q
    ++ codes "\n"
cell_line_is table a s c q = simp append_assoc

pub reward_line_is : (a s e : ℕ) → line (row_words Reward a s ++ codes ":" ∷ decimal e ∷ [])
    ≡ codes "R: " ++ decimal a ++ codes " : " ++ decimal s ++ codes " : " ++ decimal e ++ codes "\n"
reward_line_is a s e = simp append_assoc
