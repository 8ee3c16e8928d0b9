-- The numbers of a start item, token by token.
use Rattle.std.proofs.Common.{◌≡◌, ℕ, ◌<◌, ◌≤◌, ◌⊎◌, false, true, Option, Some, None, Result, Ok, Err, List, [], ◌∷◌, ◌++◌, length, map}
use Rattle.std.proofs.Common.{sum, ℤ, pos, sym, ap, subst, All, arith, append_assoc}
use lib.IntN.{nat_abs}
use Rattle.polcert_items.proofs.Common.{sum_by-cons, All-cons, All-head, All-tail, All-nil, Lexeme, NumberFault, Numbers, ItemFault, Number}
use Rattle.polcert_items.proofs.Common.{Refusal, Sign, FirstNumber, StateOrNumber, StartReader, IsMillionths, AreNumbers, one}
use Rattle.polcert_items.proofs.Common.{is_minus_sign, IsSignAt, Elements, count_of, StartWeights, all_states, shares_of}
use Rattle.polcert_items.proofs.Common.{TakesLexeme, CannotTake, ProbabilitiesGo, IsFull, AreStartNumbers, NumbersGo}
use Rattle.polcert_items.proofs.Common.{first_of_more, StartGoes}
use Rattle.polcert_items.proofs.Common.{StartGives, Begins, IsOutside, IsDueNumber, IsDueValue, IsStop, first_of, Expected}
use Rattle.polcert_items.specs.Steps.Entries.{one_number}
use Rattle.polcert_items.specs.Steps.Start.{probabilities, each, AreWhole, SharesGo, refused}
use Rattle.std.specs.Int.Signed.{lt_z}
use borrow.Author.Tests.{ltb-true}
use Rattle.polcert_items.specs.declared.start_reader.StartReader.TheVariants as reader
use Rattle.polcert_cells.specs.Numbers as numbers
use Rattle.polcert_cells.proofs.Basics.{cons≢nil, same_head, same_tail}
use Rattle.polcert_items.proofs.ListLaws.{fractions_in_range, small_fractions}
use Rattle.polcert_items.proofs.PatternLaws.{full_list}
use Rattle.polcert_items.proofs.SignedNumbers.{sign_back, value_back, value_on}

-- ---- one token more

module _ (states : Elements) (before : List ℤ) (l : Lexeme) where
  pub sign_begins : (s : Sign) → IsSignAt s l → Begins (NumbersGo states before None) l (NumbersGo states before (Some s))
  sign_begins = grind (arith, sign_back)

  pub value_begins : (sign : Option Sign) (h : ℤ) → IsMillionths (is_minus_sign sign) l h
      → Begins (NumbersGo states before sign) l (NumbersGo states (before ++ h ∷ []) None)
  value_begins sign h is = record {
    back = λ ls asked g. record {
      further = h ∷ g.further;
      numbers = value_back sign l ls h _ is g.numbers;
      given = grind (arith, append_assoc);
    };
    on = λ ls asked g.
        let b = value_on sign l ls h _ is g.numbers in
        record { further = b.rest; numbers = b.numbers; given = grind (arith, append_assoc) };
  }

-- ---- what follows from the shares

pub small_ones : (ps : List ℕ) (n : ℕ) → sum ps ≤ n → All (λ p. p ≤ n) ps
small_ones [] n le = All-nil _
small_ones (p ∷ ps) n le = grind (arith, All-cons, sum_by-cons (λ x. x) p ps, small_ones ps n)

-- probabilities that begin with a number
record Fractions (states : Elements) (h : ℤ) (further : List ℤ) (asked : Option StartWeights) : Type 0 where
  pub first : ℕ
  pub rest : List ℕ
  pub first_is : h ≡ pos first
  pub rest_is : further ≡ map pos rest
  pub small : All (λ p. p ≤ one) (first ∷ rest)
  pub count : length (first ∷ rest) ≡ count_of states
  pub whole : AreWhole (first ∷ rest) asked

-- a number between 0 and one
pub record IsFraction (h : ℤ) (p : ℕ) : Type 0 where
  pub value : h ≡ pos p
  pub small : p ≤ one

module _ (h : ℤ) where
  pub fraction : lt_z h (pos 0) ≡ false → lt_z (pos one) h ≡ false → IsFraction h (nat_abs h)
  fraction = grind arith

  pub below_outside : lt_z h (pos 0) ≡ true → IsOutside h
  below_outside = grind (arith, ltb-true)

  pub above_outside : lt_z (pos one) h ≡ true → IsOutside h
  above_outside = grind (arith, ltb-true)

fractions : (states : Elements) (h : ℤ) (further : List ℤ) (asked : Option StartWeights) (ps : List ℕ) → h ∷ further ≡ map pos ps
    → length ps ≡ count_of states → All (λ p. p ≤ one) ps → AreWhole ps asked
    → Fractions states h further asked
fractions states h further asked [] e count small whole = absurd (cons≢nil e)
fractions states h further asked (p ∷ ps) e count small whole =
    record { first = p; rest = ps; first_is = same_head e; rest_is = same_tail e; small = small; count = count; whole = whole }

-- with another lexeme after the first number there are more numbers, a probability for each of some states
more_fractions : (states : Elements) (h : ℤ) (further : List ℤ) (l : Lexeme) (ls : List Lexeme) (asked : Option StartWeights)
    → AreNumbers (l ∷ ls) further → AreStartNumbers states (h ∷ further) asked
    → Fractions states h further asked
more_fractions = grind (arith, small_ones, fractions)

-- nothing continues after a number out of its range
pub outside_stuck : (states : Elements) (f : FirstNumber) (l : Lexeme) → IsOutside f.value
    → CannotTake (StartGoes states) (reader.Number f) l
outside_stuck = grind (arith, All-head, more_fractions)

-- ---- a list of probabilities

-- one number was read, of so many
pub record IsOneRead (states : Elements) (p : ℕ) (n : Numbers ℕ) : Type 0 where
  pub read : n.read ≡ p ∷ []
  pub needed : n.needed ≡ count_of states
  pub sign : n.sign ≡ None

-- the list that begins with this number
pub one_read : (states : Elements) (p count : ℕ) (n : Numbers ℕ) → n ≡ one_number count p → count ≡ count_of states → IsOneRead states p n
one_read = grind arith

pub more_states : (count n : ℕ) → n ≡ count → (n ≡ 1 → ⊥) → 1 ≤ count → 1 < count
more_states = omega arith

module _ (states : Elements) (p : ℕ) (n : Numbers ℕ) (small : p ≤ one) (is : IsOneRead states p n) (more : 1 < count_of states) where
  shares_from : (l : Lexeme) (ls : List Lexeme) (asked : Option StartWeights) → NumbersGo states (pos p ∷ []) None (l ∷ ls) asked
      → SharesGo n (l ∷ ls) asked
  shares_from l ls asked g =
      let f = more_fractions states (pos p) _ l ls asked g.numbers g.given in
      let fit = fractions_in_range f.rest (All-tail (λ p. p ≤ one) f.first f.rest f.small) in
      record {
        all = f.first ∷ f.rest;
        go = record {
          further = f.rest;
          numbers = grind arith;
          in_range = fit;
          enough = grind arith;
          body_is = grind arith;
        };
        whole = f.whole;
      }

  shares_to : (ls : List Lexeme) (asked : Option StartWeights) → SharesGo n ls asked → NumbersGo states (pos p ∷ []) None ls asked
  shares_to ls asked g =
      let whole : g.all ≡ p ∷ g.go.further = grind arith in
      let small = subst (All (λ q. q ≤ one)) (sym whole) (All-cons (λ q. q ≤ one) p _ small
      (small_fractions _ g.go.in_range)) in
      record {
        further = map pos _;
        numbers = grind arith;
        given = given asked g.all (ap (map pos) (sym whole)) (grind arith) small g.whole;
      }
    where
      given : (asked : Option StartWeights) (ps : List ℕ) {hs : List ℤ} → hs ≡ map pos ps → length ps ≡ count_of states
          → All (λ q. q ≤ one) ps → AreWhole ps asked → AreStartNumbers states hs asked
      given None ps e c small w = each ps more e c small
      given (Some v) ps e c small w = probabilities ps more e c w.0 w.1

module _ (states : Elements) where
  pub shares_take : (old new : Numbers ℕ) (l : Lexeme) → TakesLexeme ProbabilitiesGo old l new
      → TakesLexeme (StartGoes states) (reader.Probabilities old) l (reader.Probabilities new)
  shares_take = grind arith

  pub shares_stuck : (n : Numbers ℕ) (l : Lexeme) → CannotTake ProbabilitiesGo n l
      → CannotTake (StartGoes states) (reader.Probabilities n) l
  shares_stuck n l none = λ ls v g. none ls _ g.go

module _ (states : Elements) (f : FirstNumber) (p : ℕ) where
  number_is : f.value ≡ pos p → (ls : List Lexeme) (asked : Option StartWeights)
      → StartGoes states (reader.Number f) ls asked → NumbersGo states (pos p ∷ []) None ls asked
  number_is e ls asked g = rw (← e) g

  -- a second number follows the first one, or its sign
  pub number_takes : (old new : Numbers ℕ) (l : Lexeme) → f.value ≡ pos p → p ≤ one
      → 1 < count_of states → IsOneRead states p old
      → TakesLexeme ProbabilitiesGo old l new → TakesLexeme (StartGoes states) (reader.Number f) l (reader.Probabilities new)
  number_takes old new l e small more is t =
      let s = shares_take states old new l t in
      record {
        back = λ ls v g. subst (λ h. NumbersGo states (h ∷ []) None (l ∷ ls) v) (sym e)
            (shares_to states p old small is more (l ∷ ls) v (s.back ls v g));
        on = λ ls v g. s.on ls v (shares_from states p old small is more l ls v (number_is e (l ∷ ls) v g));
      }

  pub number_stuck : (old : Numbers ℕ) (l : Lexeme) → f.value ≡ pos p → p ≤ one
      → 1 < count_of states → IsOneRead states p old
      → CannotTake ProbabilitiesGo old l → CannotTake (StartGoes states) (reader.Number f) l
  number_stuck old l e small more is none = λ ls v g.
      shares_stuck states old l none ls v (shares_from states p old small is more l ls v (number_is e (l ∷ ls) v g))

-- ---- digits alone

-- where something follows them, they are a number of this value and place
pub first_is : (v : Result ℤ NumberFault) (place : ℕ) (f : FirstNumber) → Ok f ≡ first_of v place → (v ≡ Ok f.value) × (f.place ≡ place)
first_is = grind arith

-- or they are refused, since they have none
pub none_is : (v : Result ℤ NumberFault) (place : ℕ) (r : Refusal) → Err r ≡ first_of v place → (fault : NumberFault) × (v ≡ Err fault)
    × (r ≡ refused (Number fault) place)
none_is = grind arith

module _ (states : Elements) (digits : StateOrNumber) (l : Lexeme) where
  pub digits_take : (f : FirstNumber) (n : Numbers ℕ) → digits.value ≡ Ok f.value
      → TakesLexeme (StartGoes states) (reader.Number f) l (reader.Probabilities n)
      → TakesLexeme (StartGoes states) (reader.StateOrNumber digits) l (reader.Probabilities n)
  digits_take f n is t = record {
    back = λ ls v g. first_of_more f.value is (t.back ls v g);
    on = λ ls v g. t.on ls v (grind arith);
  }

  pub digits_stuck : (f : FirstNumber) → digits.value ≡ Ok f.value → CannotTake (StartGoes states) (reader.Number f) l
      → CannotTake (StartGoes states) (reader.StateOrNumber digits) l
  digits_stuck f is none = λ ls v g. none ls v (grind arith)

  pub valueless_stuck : (fault : NumberFault) → digits.value ≡ Err fault → CannotTake (StartGoes states) (reader.StateOrNumber digits) l
  valueless_stuck = grind arith

-- ---- where the item ends

module _ (states : Elements) where
  pub number_ends : (f : FirstNumber) (v : StartWeights) → count_of states ≡ 1 → (f.value ≡ pos 0) ⊎ (f.value ≡ pos one)
      → v ≡ all_states states → StartGives states (reader.Number f) [] v
  number_ends = grind (arith, numbers.none)

  pub shares_end : (n : Numbers ℕ) (v : StartWeights) → IsFull n → sum n.read ≡ one → v ≡ shares_of n.read
      → StartGives states (reader.Probabilities n) [] v
  shares_end n v full total shares = record { all = n.read; go = full_list _ n full; whole = (total, shares) }

-- ---- reasons

pub digits_stop : (digits : StateOrNumber) (f : FirstNumber) (w : Expected) (l : Lexeme) (kind : ItemFault) (place : ℕ)
    → digits.value ≡ Ok f.value → f.place ≡ digits.place
    → IsStop (IsDueNumber f.value f.place l) None w l kind place → IsStop (IsDueValue digits.value digits.place l) None w l kind place
digits_stop = grind arith

pub sign_takes : (states : Elements) (sign : Sign) (l : Lexeme) (new : StartReader)
    → Begins (NumbersGo states [] (Some sign)) l (StartGoes states new) → TakesLexeme (StartGoes states) (reader.Sign sign) l new
sign_takes states sign l new b = record { back = b.back; on = b.on }
