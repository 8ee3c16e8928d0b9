-- The tiger problem: its lexemes, typed from its file, and what they are to say.
-- Source: Cassandra's tiger.POMDP, of the examples at pomdp.org.
use Rattle.std.specs.Prelude.{ℕ, false, List, [], ◌∷◌, ℤ, neg_ℤ, Some, None, codes}
use Rattle.polcert_text.specs.Cut.{Lexeme}
use Rattle.polcert_text.specs.declared.tokens.TokenKind.TheVariants as kinds
use Rattle.polcert_cells.specs.declared.entries.Place.TheVariants.{Every, Only}
use Rattle.polcert_cells.specs.declared.entries.Body.TheVariants.{Probabilities, Uniform, Identity}
use Rattle.polcert_cells.specs.declared.entries.Entry.{Entry}
use Rattle.polcert_cells.specs.declared.elements.Elements.TheVariants.{Names}
use Rattle.polcert_cells.specs.Preamble.{Preamble}
use Rattle.polcert_format.specs.Text.{ModelSoFar}
use Rattle.polcert_cells.specs.Meaning.{Meaning, meaning_of}
use Rattle.polcert_examples.specs.Worked.Examples.{name, numeral, colon, transition, observation, rewards, whole}

abbrev pub star : Lexeme
star = record { kind = kinds.Star; place = 0; bytes = codes "*" }

abbrev pub minus : Lexeme
minus = record { kind = kinds.Minus; place = 0; bytes = codes "-" }

abbrev pub tiger : List Lexeme
tiger =
    name (codes "discount") ∷ colon ∷ numeral (codes "0.95")
    ∷ name (codes "values") ∷ colon ∷ name (codes "reward")
    ∷ name (codes "states") ∷ colon ∷ name (codes "tiger-left") ∷ name (codes "tiger-right")
    ∷ name (codes "actions") ∷ colon ∷ name (codes "listen") ∷ name (codes "open-left") ∷ name (codes "open-right")
    ∷ name (codes "observations") ∷ colon ∷ name (codes "tiger-left") ∷ name (codes "tiger-right")
    ∷ name (codes "T") ∷ colon ∷ name (codes "listen") ∷ name (codes "identity")
    ∷ name (codes "T") ∷ colon ∷ name (codes "open-left") ∷ name (codes "uniform")
    ∷ name (codes "T") ∷ colon ∷ name (codes "open-right") ∷ name (codes "uniform")
    ∷ name (codes "O") ∷ colon ∷ name (codes "listen") ∷ numeral (codes "0.85") ∷ numeral (codes "0.15") ∷ numeral (codes "0.15") ∷ numeral (codes "0.85")
    ∷ name (codes "O") ∷ colon ∷ name (codes "open-left") ∷ name (codes "uniform")
    ∷ name (codes "O") ∷ colon ∷ name (codes "open-right") ∷ name (codes "uniform")
    ∷ name (codes "R") ∷ colon ∷ name (codes "listen") ∷ colon ∷ star ∷ colon ∷ star ∷ colon ∷ star ∷ minus ∷ numeral (codes "1")
    ∷ name (codes "R") ∷ colon ∷ name (codes "open-left") ∷ colon ∷ name (codes "tiger-left") ∷ colon ∷ star ∷ colon ∷ star ∷ minus ∷ numeral (codes "100")
    ∷ name (codes "R") ∷ colon ∷ name (codes "open-left") ∷ colon ∷ name (codes "tiger-right") ∷ colon ∷ star ∷ colon ∷ star ∷ numeral (codes "10")
    ∷ name (codes "R") ∷ colon ∷ name (codes "open-right") ∷ colon ∷ name (codes "tiger-left") ∷ colon ∷ star ∷ colon ∷ star ∷ numeral (codes "10")
    ∷ name (codes "R") ∷ colon ∷ name (codes "open-right") ∷ colon ∷ name (codes "tiger-right") ∷ colon ∷ star ∷ colon ∷ star ∷ minus ∷ numeral (codes "100") ∷ []

abbrev pub tiger_states : List (List ℕ)
tiger_states = codes "tiger-left" ∷ codes "tiger-right" ∷ []

abbrev pub tiger_actions : List (List ℕ)
tiger_actions = codes "listen" ∷ codes "open-left" ∷ codes "open-right" ∷ []

-- what the agent hears has the names of the states
abbrev pub tiger_preamble : Preamble
tiger_preamble = record { discount = 950_000; costs = false; states = Names tiger_states; actions = Names tiger_actions; observations = Some (Names tiger_states) }

abbrev pub minus_whole : ℕ → ℤ
minus_whole n = neg_ℤ (whole n)

-- the entries, in the order of the file
abbrev pub tiger_entries : List Entry
tiger_entries =
    transition (Only 0 ∷ []) Identity
    ∷ transition (Only 1 ∷ []) Uniform
    ∷ transition (Only 2 ∷ []) Uniform
    ∷ observation (Only 0 ∷ []) (Probabilities (850_000 ∷ 150_000 ∷ 150_000 ∷ 850_000 ∷ []))
    ∷ observation (Only 1 ∷ []) Uniform
    ∷ observation (Only 2 ∷ []) Uniform
    ∷ rewards (Only 0 ∷ Every ∷ Every ∷ Every ∷ []) (minus_whole 1 ∷ [])
    ∷ rewards (Only 1 ∷ Only 0 ∷ Every ∷ Every ∷ []) (minus_whole 100 ∷ [])
    ∷ rewards (Only 1 ∷ Only 1 ∷ Every ∷ Every ∷ []) (whole 10 ∷ [])
    ∷ rewards (Only 2 ∷ Only 0 ∷ Every ∷ Every ∷ []) (whole 10 ∷ [])
    ∷ rewards (Only 2 ∷ Only 1 ∷ Every ∷ Every ∷ []) (minus_whole 100 ∷ []) ∷ []

-- what is known after the preamble and some entries
abbrev pub tiger_known : List Entry → ModelSoFar
tiger_known entries = record {
  discount = Some 950_000;
  costs = Some false;
  states = Some (Names tiger_states);
  actions = Some (Names tiger_actions);
  observations = Some (Names tiger_states);
  start = None;
  entries = entries;
}

abbrev pub tiger_model : Meaning
tiger_model = meaning_of tiger_preamble None tiger_entries
