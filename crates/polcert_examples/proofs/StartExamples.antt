-- Start items over two named states have the shares that one expects.
use Rattle.std.proofs.Common.{◌<◌, [], ◌∷◌, codes, refl, arith, lit<}
use Rattle.polcert_examples.proofs.Common.{none, unsigned, StandsFor, by_name}
use Rattle.polcert_cells.specs.declared.elements.StartWeights.{StartWeights}
use Rattle.polcert_cells.specs.Start.{IsStart, plain, include, exclude, uniform, name, probabilities}
use Rattle.polcert_examples.specs.Worked.Examples as examples
use Rattle.polcert_examples.specs.Worked.StartExamples.{a_b, shares, uniform_start, halves_start, quarters_start, name_start, include_start}
use Rattle.polcert_examples.specs.Worked.StartExamples.{exclude_start, exclude_all}
use Rattle.polcert_examples.proofs.WorkedTexts.{a_word}
use Rattle.polcert_examples.proofs.Computed.{numerals, names}

stands_a : StandsFor a_b (examples.name (codes "a")) 0
stands_a = by_name names.a refl

pub uniform_shares : IsStart a_b uniform_start (shares (1 ∷ 1 ∷ []) 2)
uniform_shares = plain refl (uniform (a_word _))

pub halves_shares : IsStart a_b halves_start (shares (1 ∷ 1 ∷ []) 2)
halves_shares = plain refl (probabilities (500_000 ∷ 500_000 ∷ []) (lit< tt) (unsigned (numerals.half _) (unsigned (numerals.half _) none))
    refl refl)

pub quarters_shares : IsStart a_b quarters_start (shares (250_000 ∷ 750_000 ∷ []) 1_000_000)
quarters_shares = plain refl (probabilities (250_000 ∷ 750_000 ∷ []) (lit< tt)
    (unsigned (numerals.quarter _) (unsigned (numerals.three_quarters _) none)) refl refl)

pub name_shares : IsStart a_b name_start (shares (0 ∷ 1 ∷ []) 1)
name_shares = plain refl (name {s = 1} names.b refl)

pub include_shares : IsStart a_b include_start (shares (1 ∷ 0 ∷ []) 1)
include_shares = include (0 ∷ 0 ∷ []) (a_word _) refl (stands_a, (stands_a, tt)) (lit< tt)

pub exclude_shares : IsStart a_b exclude_start (shares (0 ∷ 1 ∷ []) 1)
exclude_shares = exclude (0 ∷ []) (a_word _) refl (stands_a, tt) (lit< tt)

pub exclude_all_refused : (x : StartWeights) → IsStart a_b exclude_all x → ⊥
exclude_all_refused x h1 = grind arith
