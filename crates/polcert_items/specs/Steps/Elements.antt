-- Elements, token by token: what is still to come of a count or of names that were read so far.
-- Nobody has to believe this: only contracts of private functions cite it.
use Rattle.std.specs.Prelude.{◌≡◌, ◌≢◌, ℕ, ◌≤◌, true, List, [], ◌∷◌, ◌++◌, length, map, All, AllPairs, bytes_eq, IsAscii}
use Rattle.std.specs.List.{list_any}
use Rattle.polcert_text.specs.Cut.{Lexeme}
use Rattle.polcert_text.specs.declared.tokens.TokenKind.TheVariants.{Name}
use Rattle.polcert_format.specs.declared.fault.ItemFault.{ItemFault}
use Rattle.polcert_format.specs.declared.fault.ItemFault.TheVariants.{BadCount, DuplicateName}
use Rattle.polcert_items.specs.declared.preamble_lines.ElementsReader.{ElementsReader}
use Rattle.polcert_items.specs.declared.preamble_lines.ElementsReader.TheVariants as readers
use Rattle.polcert_cells.specs.Words.{IsName}
use Rattle.polcert_cells.specs.Numbers.{IsWhole}
use Rattle.polcert_cells.specs.declared.elements.Elements.{Elements}
use Rattle.polcert_cells.specs.declared.elements.Elements.TheVariants.{Count, Names}
use Rattle.polcert_cells.specs.Elements.{AreElements}
use Rattle.polcert_cells.specs.Meaning.{IsCount}
use Rattle.polcert_items.specs.Steps.Numbers.{IsMisplaced}
use Rattle.polcert_items.specs.Steps.Lines.{AfterColon}

-- a name is ASCII text
abbrev pub IsAsciiName : Lexeme → Type 0
IsAsciiName l = l.kind ≡ Name → IsAscii l.bytes

-- a count of at most this many
abbrev pub IsCountOf : ℕ → Lexeme → ℕ → Type 0
IsCountOf most l n = IsWhole l n × (1 ≤ n) × (n ≤ most)

-- these names, and the further ones
abbrev pub names_with : List (List ℕ) → List Lexeme → List (List ℕ)
names_with names ls = names ++ map (λ l. l.bytes) ls

-- further names, which all differ from one another and from these, with these at most this many
pub record NamesGo (most : ℕ) (names : List (List ℕ)) (ls : List Lexeme) (elements : Elements) : Type 0 where
  pub all : All IsName ls
  pub few : length (names_with names ls) ≤ most
  pub apart : AllPairs (λ x y. x ≢ y) (names_with names ls)
  pub elements_are : elements ≡ Names (names_with names ls)

abbrev pub ElementsGo : ℕ → ElementsReader → List Lexeme → Elements → Type 0
ElementsGo most readers.Colon ls elements = AfterColon (AreElements most) ls elements
ElementsGo most readers.First ls elements = AreElements most ls elements
ElementsGo most (readers.Counted n) ls elements = (ls ≡ []) × (elements ≡ Count n)
ElementsGo most (readers.Named names) ls elements = NamesGo most names ls elements

-- names that were read: at most this many, and all different
pub record AreNamesRead (most : ℕ) (names : List (List ℕ)) : Type 0 where
  pub few : length names ≤ most
  pub apart : AllPairs (λ x y. x ≢ y) names

-- a count that was read is within its limits, and so are names
abbrev pub IsElementsRead : ℕ → ElementsReader → Type 0
IsElementsRead most (readers.Counted n) = IsCount most n
IsElementsRead most (readers.Named names) = (1 ≤ length names) × AreNamesRead most names
IsElementsRead most _ = Unit {0}

-- the lexeme's bytes are among the names that were read
abbrev pub IsAmong : ElementsReader → Lexeme → Type 0
IsAmong (readers.Named names) l = list_any (bytes_eq l.bytes) names ≡ true
IsAmong _ l = ⊥

-- why a token is refused in a line of elements
abbrev pub ElementsReason : ElementsReader → Lexeme → ItemFault → ℕ → Type 0
ElementsReason old l DuplicateName place = (place ≡ l.place) × IsName l × IsAmong old l
ElementsReason old l BadCount place = place ≡ l.place
ElementsReason old l kind place = IsMisplaced l kind place

-- a colon, and after it these names
pub record AreNamesSeen (body : List Lexeme) (names : List (List ℕ)) : Type 0 where
  pub colon : Lexeme
  pub further : List Lexeme
  pub whole : body ≡ colon ∷ further
  pub names_are : names ≡ map (λ l. l.bytes) further

-- the lexemes after the item's word, as far as the reader keeps them
abbrev pub AreElementsSeen : List Lexeme → ElementsReader → Type 0
AreElementsSeen body readers.Colon = body ≡ []
AreElementsSeen body readers.First = (colon : Lexeme) × (body ≡ colon ∷ [])
AreElementsSeen body (readers.Counted n) = Unit {0}
AreElementsSeen body (readers.Named names) = AreNamesSeen body names
